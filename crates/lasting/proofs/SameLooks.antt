-- Looks, and what a list holds, read nothing but the footprint: the law that only the footprint counts.
use Rattle.std.proofs.Common.{◌≡◌, ℕ, zero, suc, ◌≤◌, Bool, true, false, not, ◌||◌, eqb, ltb, leb, List, [], ◌∷◌, map, length, get_or, drop, sym, refl, ap, arith}
use Rattle.std.specs.List.{AllByRecursion}
use Rattle.model.specs.declared.types.Span.{Span}
use Rattle.model.specs.declared.types.Fault.{Fault}
use Rattle.model.specs.Bytes.{piece}
use Rattle.model.specs.Faults.{fault, done, unless}
use Rattle.model.specs.References.{end_of}
use Rattle.model.specs.Nodes.{Node}
use Rattle.model.specs.Section.{Section, count_at}
use Rattle.model.specs.OpenedLists.{taken}
use Rattle.model.specs.Opened.{opened}
use Rattle.model.specs.Means.{data_spans, Means}
use Rattle.model.specs.Looks.{Look, looks_to, no_node, nodes_of, seen_in, answered, look}
use Rattle.model.specs.Contents.{Content, holds, held}
use Rattle.model.specs.Laws.{in_data, Footprint, Local}
use Rattle.meaning.proofs.Members.{has_from_in, all_in, all_from_in}
use Rattle.commits.proofs.Contents.{DataSame, lists_held}
use Rattle.commits.proofs.SeenAlike.{Alike, seen_alike}
use Rattle.lasting.proofs.Places.{meant}
use Rattle.lasting.proofs.SameFile.{opened_same}

-- nodes that hold the same hold the same at each index
held_at : (b c : List ℕ) (ns : List Node) (i : ℕ) → map (holds c) ns ≡ map (holds b) ns → holds c (get_or ns i no_node) ≡ holds b (get_or ns i no_node)
unfolding piece
held_at b c [] i e = refl
held_at b c (n ∷ ns) zero e = ap (λ (z : List Content). get_or z 0 (holds b no_node)) e
held_at b c (n ∷ ns) (suc i) e = held_at b c ns i (ap (λ (z : List Content). drop 1 z) e)

-- checks that pass alike, and nodes that hold the same
alike : (b c : List ℕ) (t u : Bool) (f g : Fault) (n : Node) → holds c n ≡ holds b n
    → Alike c b (unless ((t, f) ∷ (u, g) ∷ []) (done n)) (unless ((t, f) ∷ (u, g) ∷ []) (done n))
alike b c true u f g n e = refl
alike b c false true f g n e = refl
alike b c false false f g n e = e

module _ (b c : List ℕ) (s : Section) (m : Means b s) (n : s.header.end ≤ length c) (h : (i : ℕ) → Footprint s i → get_or c i 0 ≡ get_or b i 0) where
  -- present data stands in both rows
  data_same : AllByRecursion (DataSame b c) (data_spans s.lists)
  data_same = all_from_in (DataSame b c) (data_spans s.lists) (λ r j.
      let d : end_of r ≤ s.header.end = all_in (λ (r : Span). end_of r ≤ s.header.end) (data_spans s.lists) r m.data_inside j in
      let stored = m.header.stored in
      (omega arith, omega arith, λ i u v. sym (h i (in_data (has_from_in (data_spans s.lists) r j) (u, v)))))

  held_lists : (list : ℕ) → map (holds c) (nodes_of s.lists list) ≡ map (holds b) (nodes_of s.lists list)
  held_lists list = lists_held b c s.lists list data_same

  seen_same : (l : Look) → seen_in c s l ≡ seen_in b s l
  seen_same l = seen_alike c b s s l (λ list index.
      let k = looks_to l in
      alike b c (eqb k 0 || ltb s.header.count k) (not (taken list s.lists) || leb (count_at s.log k list) index) (fault 25 5 0 0) (fault 26 5 0 0)
      (get_or (nodes_of s.lists list) index no_node) (held_at b c (nodes_of s.lists list) index (held_lists list)))

  -- what a list holds
  pub held_same : opened b ≡ done s → opened c ≡ done s → (list : ℕ) → held c list ≡ held b list
  unfolding held
  held_same e x list = rw (e, x) (held_lists list)

pub local : Local
unfolding look
local b c s e n h =
    let x = opened_same b c s e n h in
    (x, λ l. rw (e, x) (ap (answered l) (seen_same b c s (meant b s e) n h l)))
