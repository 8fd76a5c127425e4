-- One step of the walk over a fragment's nodes.
use Rattle.std.proofs.Common.{◌≡◌, ℕ, suc, ◌+◌, ◌-◌, ◌<◌, ◌≤◌, true, false, List, [], ◌∷◌, ◌++◌, ap, ◌∙◌, arith}
use Rattle.std.proofs.lemmas.Bool.Decides.{nat_tests}
use Rattle.model.specs.Bytes.{le}
use Rattle.model.specs.Faults.{fault, done, refused}
use Rattle.model.specs.Nodes.{Node, size_bits, node_at, hands_over, bad_node}
use Rattle.model.specs.OpenedLists.{counted, uncounted, nodes_at}
use Rattle.format.specs.declared.nodes.Head.{Head}
use Rattle.format.specs.Heads.{head_of}
use Rattle.node_walk.specs.Walks.{bad_head}

pub bad_is : (h : Head) (v stop p : ℕ) → h ≡ head_of v → bad_head h stop p ≡ bad_node v stop p
unfolding bad_node
bad_is h v stop p e = ap (λ k. bad_head k stop p) e

-- a node that begins there has its first bytes, and ends by `stop`
pub good_within : (h : Head) (stop p : ℕ) → false ≡ bad_head h stop p → (p + h.size ≤ stop) × (4 ≤ h.size)
good_within h stop p e = (grind (arith, nat_tests), grind (arith, nat_tests))

pub walk_over : (n : ℕ) (b : List ℕ) (id stop p : ℕ) (ns : List Node) → 0 < n → hands_over (le 4 b p) stop p ≡ true
    → nodes_at n b id stop p ns ≡ done (uncounted ns)
unfolding nodes_at
walk_over n b id stop p ns l o = let e : n ≡ suc (n - 1) = omega arith in ap (λ k. nodes_at k b id stop p ns) e ∙ rw o

pub walk_bad : (n : ℕ) (b : List ℕ) (id stop p : ℕ) (ns : List Node) → 0 < n → hands_over (le 4 b p) stop p ≡ false → bad_node (le 4 b p) stop p ≡ true
    → nodes_at n b id stop p ns ≡ refused (fault 9 3 p id)
unfolding nodes_at
walk_bad n b id stop p ns l o d = let e : n ≡ suc (n - 1) = omega arith in ap (λ k. nodes_at k b id stop p ns) e ∙ rw (o, d)

pub walk_on : (n : ℕ) (b : List ℕ) (id stop p : ℕ) (ns : List Node) → 0 < n → hands_over (le 4 b p) stop p ≡ false → bad_node (le 4 b p) stop p ≡ false
    → nodes_at n b id stop p ns ≡ nodes_at (n - 1) b id stop (p + size_bits (le 4 b p)) (ns ++ (node_at b p ∷ []))
unfolding nodes_at
walk_on n b id stop p ns l o d = let e : n ≡ suc (n - 1) = omega arith in ap (λ k. nodes_at k b id stop p ns) e ∙ rw (o, d)

pub walk_end : (n : ℕ) (b : List ℕ) (id stop p : ℕ) (ns : List Node) → n ≡ 0 → nodes_at n b id stop p ns ≡ done (counted ns p)
unfolding nodes_at
walk_end n b id stop p ns e = rw e
