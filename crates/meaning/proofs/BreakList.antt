-- A list that breaks a rule is refused, with what the first broken rule tells.
use Rattle.std.proofs.Common.{◌≡◌, ℕ, zero, suc, ◌+◌, ◌-◌, ◌<◌, ◌≤◌, true, false, eqb, List, [], ◌∷◌, ◌++◌, length, sym, refl, ap, ◌∙◌, subst, inl, arith}
use Rattle.std.proofs.lemmas.List.{append-nil, length-append}
use Rattle.std.proofs.lemmas.Bool.{cond-true, cond-false, eq-eqb}
use Rattle.model.specs.declared.types.Span.{Span}
use Rattle.model.specs.declared.types.Fault.{Fault}
use Rattle.model.specs.declared.types.Header.{Header}
use Rattle.model.specs.Bytes.{le}
use Rattle.model.specs.Faults.{fault, Outcome, refused, unless, then}
use Rattle.model.specs.References.{span_at}
use Rattle.model.specs.Headers.{header_span}
use Rattle.model.specs.Nodes.{Node, hands_over, bad_node}
use Rattle.model.specs.ListFragments.{owner, nodes_to}
use Rattle.model.specs.Section.{Log, NodeList, last_of, count_in, list_fragments}
use Rattle.model.specs.OpenedLists.{nodes_at, taken, list_from, list_goes}
use Rattle.model.specs.Means.{Apart, Pairwise, Marked}
use Rattle.model.specs.Breaks.{Misplaced, Placed, FirstBreaks, HalfRead, RestBreaks}
use Rattle.model.specs.Breaks.FirstBreaks.{place as first_place, outside as first_outside, full as first_full, unmarked as first_unmarked, twice, unlisted}
use Rattle.model.specs.Breaks.RestBreaks.{node, place, unmarked as rest_unmarked}
use Rattle.meaning.proofs.Places.{by_rule, misplaced_refused, full_refused, placed_passes}
use Rattle.meaning.proofs.ListSteps.{mislabelled, first_checks, from_node, marked_passes, passes_marked, not_had, has_taken, first_none, first_step, later_none, later_step}
use Rattle.meaning.proofs.ReadList.{nodes_handed, list_walks}

-- a node that breaks a rule
node_refused : (n : ℕ) (b : List ℕ) (id stop p : ℕ) (ns : List Node) → 1 ≤ n → hands_over (le 4 b p) stop p ≡ false → bad_node (le 4 b p) stop p ≡ true
    → nodes_at n b id stop p ns ≡ refused (fault 9 3 p id)
unfolding nodes_at
node_refused zero b id stop p ns l h g = absurd (omega arith)
node_refused (suc n) b id stop p ns l h g = rw (h, g)

module _ (b : List ℕ) (h : Header) (log : Log) (ls : List NodeList) (first : Span) where
  abbrev before : List Span
  before = log.fragments ++ list_fragments ls

  -- the list id that first names, read from its first fragment
  abbrev whole : ℕ → ℕ → Outcome NodeList
  whole id field = list_from (2048 - length before) b h.end (count_in log.transactions id) ls before id field first [] []

  -- its first fragment ---------------------------------------------------------------------------------------------------------

  first_placed : (n field : ℕ) (e : Fault) → n ≡ 2048 - length before → Placed 36 h.end before first
      → ((a : Outcome NodeList) → unless (first_checks b (count_in log.transactions (owner b first)) ls (owner b first) first) a ≡ refused e)
      → list_from n b h.end (count_in log.transactions (owner b first)) ls before (owner b first) field first [] [] ≡ refused e
  first_placed zero field e l p k = let room = p.room in absurd (omega arith)
  first_placed (suc n) field e l p k =
      first_step b h.end (count_in log.transactions (owner b first)) ls before (owner b first) field first n
      ∙ placed_passes 36 h.end 3 0 field before first _ (omega arith) p ∙ k _

  first_misplaced : (n field : ℕ) (e : Fault) → n ≡ 2048 - length before → Misplaced 36 h.end 3 0 field before first e
      → list_from n b h.end (count_in log.transactions (owner b first)) ls before (owner b first) field first [] [] ≡ refused e
  first_misplaced zero field e l m =
      first_none b h.end (count_in log.transactions (owner b first)) ls before (owner b first) field first ∙ full_refused 36 h.end 3 0 field before first e (omega arith) (omega arith) m
  first_misplaced (suc n) field e l m =
      first_step b h.end (count_in log.transactions (owner b first)) ls before (owner b first) field first n
      ∙ misplaced_refused 36 h.end 3 0 field before first _ e (omega arith) (omega arith) m

  pub first_breaks : (field : ℕ) (e : Fault) → length ls < 1024 → FirstBreaks b h log ls field first e → whole (owner b first) field ≡ refused e
  first_breaks field e few (first_place l m) = first_misplaced (2048 - length before) field e refl m
  first_breaks field e few (first_outside l n) = absurd (omega arith)
  first_breaks field e few (first_full l n) = absurd (omega arith)
  first_breaks field e few (first_unmarked l p n) =
      first_placed (2048 - length before) field (fault 8 3 first.start 0) refl p (λ a. cond-true (mislabelled b (owner b first) 0 first) _ _
      (by_rule (mislabelled b (owner b first) 0 first) (Marked b (owner b first) 0 first × (16 ≤ owner b first)) (passes_marked b (owner b first) 0 first) n))
  first_breaks field e few (twice l p m r t) =
      first_placed (2048 - length before) field (fault 12 3 first.start (owner b first)) refl p (λ a.
      cond-false (mislabelled b (owner b first) 0 first) _ _ (marked_passes b (owner b first) 0 first m r) ∙ cond-true (taken (owner b first) ls) _ _ (has_taken (owner b first) ls t))
  first_breaks field e few (unlisted l p m r n c) =
      first_placed (2048 - length before) field (fault 10 3 first.start (owner b first)) refl p (λ a.
      cond-false (mislabelled b (owner b first) 0 first) _ _ (marked_passes b (owner b first) 0 first m r) ∙ cond-false (taken (owner b first) ls) _ _ (not_had (owner b first) ls n)
      ∙ cond-true (eqb (count_in log.transactions (owner b first)) 0) _ _ (eq-eqb (count_in log.transactions (owner b first)) 0 c))

  -- the rest of it -------------------------------------------------------------------------------------------------------------

  module _ (id : ℕ) (gs : List Span) (ns : List Node) (q : ℕ) (half : HalfRead b h log ls id first gs ns q) where
    abbrev count : ℕ
    count = count_in log.transactions id

    abbrev last : Span
    last = last_of first gs

    abbrev left : ℕ
    left = 2048 - length (before ++ (first ∷ gs))

    half_walk : (field : ℕ) → (front : List Span) × (front ++ (last ∷ []) ≡ first ∷ gs) × (whole id field ≡ from_node b h.end count ls before id left front last ns q)
    half_walk field =
        let part = half.part in
        let short = half.short in
        let few = half.few in
        let long = length-append before (first ∷ gs) in
        list_walks b h.end count ls before id part.real (not_had id ls half.new) (omega arith) (2048 - length before) left field first gs [] [] ns q part.spread part.inside part.marks
        (subst (λ z. Pairwise Apart (header_span ∷ (z ++ (first ∷ gs)))) (sym (append-nil before)) half.apart) (inl (omega arith)) (omega arith)

    node_breaks : (field : ℕ) → hands_over (le 4 b q) (nodes_to last) q ≡ false → bad_node (le 4 b q) (nodes_to last) q ≡ true → whole id field ≡ refused (fault 9 3 q id)
    node_breaks field o g =
        let short = half.short in
        let (front, end, walk) = half_walk field in
        walk ∙ ap (λ z. then z (list_goes (list_from left b h.end count ls before id) b id last front)) (node_refused (count - length ns) b id (nodes_to last) q ns (omega arith) o g)

    -- the next fragment
    next_breaks : (field : ℕ) (e : Fault) → hands_over (le 4 b q) (nodes_to last) q ≡ true
        → list_from left b h.end count ls before id (nodes_to last) (span_at b (nodes_to last)) (first ∷ gs) ns ≡ refused e → whole id field ≡ refused e
    next_breaks field e o k =
        let short = half.short in
        let (front, end, walk) = half_walk field in
        walk ∙ ap (λ z. then z (list_goes (list_from left b h.end count ls before id) b id last front)) (nodes_handed (count - length ns) b id (nodes_to last) q ns (omega arith) o)
        ∙ ap (λ z. list_from left b h.end count ls before id (nodes_to last) (span_at b (nodes_to last)) z ns) end ∙ k

    misplaced : (n : ℕ) (e : Fault) → n ≡ left → Misplaced 36 h.end 3 id (nodes_to last) (before ++ (first ∷ gs)) (span_at b (nodes_to last)) e
        → list_from n b h.end count ls before id (nodes_to last) (span_at b (nodes_to last)) (first ∷ gs) ns ≡ refused e
    misplaced zero e l m =
        later_none b h.end count ls before id (nodes_to last) (span_at b (nodes_to last)) first gs ns
        ∙ full_refused 36 h.end 3 id (nodes_to last) (before ++ (first ∷ gs)) (span_at b (nodes_to last)) e (omega arith) (omega arith) m
    misplaced (suc n) e l m =
        later_step b h.end count ls before id (nodes_to last) (span_at b (nodes_to last)) n first gs ns
        ∙ misplaced_refused 36 h.end 3 id (nodes_to last) (before ++ (first ∷ gs)) (span_at b (nodes_to last)) _ e (omega arith) (omega arith) m

    unlabelled : (n : ℕ) → n ≡ left → Placed 36 h.end (before ++ (first ∷ gs)) (span_at b (nodes_to last)) → (Marked b id (1 + length gs) (span_at b (nodes_to last)) → ⊥)
        → list_from n b h.end count ls before id (nodes_to last) (span_at b (nodes_to last)) (first ∷ gs) ns ≡ refused (fault 8 3 (span_at b (nodes_to last)).start id)
    unlabelled zero l p k = let room = p.room in absurd (omega arith)
    unlabelled (suc n) l p k =
        let f = span_at b (nodes_to last) in
        let one : 1 + length gs ≡ length (first ∷ gs) = omega arith in
        later_step b h.end count ls before id (nodes_to last) f n first gs ns
        ∙ placed_passes 36 h.end 3 id (nodes_to last) (before ++ (first ∷ gs)) f _ (omega arith) p
        ∙ cond-true (mislabelled b id (length (first ∷ gs)) f) _ _ (by_rule (mislabelled b id (length (first ∷ gs)) f) (Marked b id (length (first ∷ gs)) f)
        (λ w. (passes_marked b id (length (first ∷ gs)) f w).0) (λ m. k (subst (λ z. Marked b id z f) (sym one) m)))

    is_owner : (field : ℕ) (e : Fault) → whole id field ≡ refused e → whole (owner b first) field ≡ refused e
    is_owner field e k = ap (λ i. whole i field) half.part.marks.0.list ∙ k

  pub rest_breaks : (field : ℕ) (e : Fault) → RestBreaks b h log ls first e → whole (owner b first) field ≡ refused e
  rest_breaks field e (node id gs ns q half o g) = is_owner id gs ns q half field (fault 9 3 q id) (node_breaks id gs ns q half field o g)
  rest_breaks field e (place id gs ns q half o m) =
      is_owner id gs ns q half field e (next_breaks id gs ns q half field e o (misplaced id gs ns q half (2048 - length (before ++ (first ∷ gs))) e refl m))
  rest_breaks field e (rest_unmarked id gs ns q half o p k) =
      let f = span_at b (nodes_to (last_of first gs)) in
      is_owner id gs ns q half field (fault 8 3 f.start id) (next_breaks id gs ns q half field (fault 8 3 f.start id) o
      (unlabelled id gs ns q half (2048 - length (before ++ (first ∷ gs))) refl p k))
