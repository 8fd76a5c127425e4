-- The walk over a fragment's nodes up to one of them.
use Rattle.std.proofs.Common.{◌≡◌, ℕ, ◌+◌, ◌-◌, ◌^◌, ◌<◌, ◌≤◌, min, List, length, get_or, drop, ap, ◌∙◌, sym, subst, arith}
use Rattle.std.proofs.lemmas.List.{drop_more}
use Rattle.model.specs.Bytes.{le}
use Rattle.model.specs.Nodes.{Node}
use Rattle.model.specs.Means.{Good, Nodes}
use Rattle.model.specs.Looks.{no_node}
use Rattle.format.specs.declared.nodes.Head.{Head}
use Rattle.format.specs.Heads.{head_of}

module _ (b : List ℕ) (stop q place i : ℕ) (ns : List Node) (l : i < length ns) where
  abbrev here : Node
  here = get_or ns i no_node

  -- the node that is reached, and those behind it
  reached : Nodes b stop place (drop i ns) q → Good b stop place here × Nodes b stop (place + here.size) (drop (i + 1) ns) q
  reached w = subst (λ xs. Nodes b stop place xs q) (drop_more ns i no_node l) w

  pub good_here : Nodes b stop place (drop i ns) q → Good b stop place here
  good_here w = (reached w).0

  -- one node more
  pub walked_on : (h : Head) (next : ℕ) → stop ≤ 2 ^ 40 → Nodes b stop place (drop i ns) q → h ≡ head_of (le 4 b place) → next ≡ min (place + h.size) (2 ^ 64 - 1) → Nodes b stop next (drop (i + 1) ns) q
  walked_on h next few w e n =
      let g = (reached w).0 in
      let s : h.size ≡ here.size = ap (λ (x : Head). x.size) e ∙ sym (ap (λ (x : Node). x.size) g.fields) in
      let ends = g.ends in
      let p : next ≡ place + here.size = omega arith in
      subst (λ z. Nodes b stop z (drop (i + 1) ns) q) (sym p) (reached w).1
