-- What reading a list tells: the list stands, or this is the first rule that it breaks.
use Rattle.std.proofs.Common.{◌≡◌, ℕ, zero, suc, ◌+◌, ◌-◌, ◌<◌, ◌≤◌, true, eqb, ◌⊎◌, List, [], ◌∷◌, ◌++◌, map, length, sym, refl, subst, inl, inr, arith}
use Rattle.std.specs.List.{ContainsAt}
use Rattle.std.proofs.lemmas.List.{append_assoc, length-append, length_push}
use Rattle.std.proofs.lemmas.Bool.{cond_both, both_ways, eqb-true, eqb-false}
use Rattle.model.specs.declared.types.Span.{Span}
use Rattle.model.specs.declared.types.Fault.{Fault}
use Rattle.model.specs.declared.types.Header.{Header}
use Rattle.model.specs.Bytes.{le}
use Rattle.model.specs.Faults.{Outcome, done, refused, then}
use Rattle.model.specs.References.{span_at}
use Rattle.model.specs.Headers.{header_span}
use Rattle.model.specs.Nodes.{Node, node_at, hands_over, bad_node}
use Rattle.model.specs.ListFragments.{owner, nodes_from, nodes_to}
use Rattle.model.specs.Section.{Log, NodeList, last_of, count_in, list_fragments, first_of}
use Rattle.model.specs.OpenedLists.{NodePart, counted, uncounted, nodes_at, taken, list_from, list_goes}
use Rattle.model.specs.Means.{Apart, Pairwise, within, Marked, PartOfList, Stands}
use Rattle.model.specs.Breaks.{FirstBreaks, HalfRead, RestBreaks}
use Rattle.model.specs.Breaks.FirstBreaks.{place as first_place, unmarked as first_unmarked, twice, unlisted}
use Rattle.model.specs.Breaks.RestBreaks.{node, place, unmarked as rest_unmarked}
use Rattle.meaning.proofs.Base.{pairs_push}
use Rattle.meaning.proofs.GoodNodes.{passes}
use Rattle.meaning.proofs.Places.{place_tells, full_tells}
use Rattle.meaning.proofs.Growth.{last_push, part_push, part_on}
use Rattle.meaning.proofs.ListSteps.{mislabelled, nodes_then, marked_passes, passes_marked, taken_has, has_taken, first_none, first_step, later_none, later_step}
use Rattle.meaning.proofs.ReadList.{list_is}

module _ (b : List ℕ) (h : Header) (log : Log) (ls : List NodeList) (first : Span) where
  abbrev before : List Span
  before = log.fragments ++ list_fragments ls

  abbrev id : ℕ
  id = owner b first

  abbrev count : ℕ
  count = count_in log.transactions id

  -- the list is right in its fragments first, gs and its nodes ns, the last of which ends at q
  record SoRight (gs : List Span) (ns : List Node) (q : ℕ) : Type 0 where
    pub part : PartOfList b h id (first ∷ gs) ns q
    pub new : ContainsAt (map (λ l. l.id) ls) id → ⊥
    pub apart : Pairwise Apart (header_span ∷ (before ++ (first ∷ gs)))
    pub few_lists : length ls < 1024
    pub few : length (before ++ (first ∷ gs)) ≤ 2048

  half : (gs : List Span) (ns : List Node) (q : ℕ) → SoRight gs ns q → length ns < count → HalfRead b h log ls id first gs ns q
  half gs ns q s l = record {
    part = s.part;
    new = s.new;
    short = l;
    apart = s.apart;
    few_lists = s.few_lists;
    few = s.few;
  }

  -- nodes ------------------------------------------------------------------------------------------------------------------

  -- the list goes on behind q
  abbrev GoesOn : List Span → List Node → ℕ → Type 0
  GoesOn gs ns q = SoRight gs ns q × (length ns < count) × (hands_over (le 4 b q) (nodes_to (last_of first gs)) q ≡ true)

  -- what the nodes of the last of first, gs tell
  abbrev NodesTell : List Span → Outcome NodePart → Type 0
  NodesTell gs (done (counted ns q)) = SoRight gs ns q × (length ns ≡ count) × (nodes_from (last_of first gs) < q)
  NodesTell gs (done (uncounted ns)) = (q : ℕ) × GoesOn gs ns q
  NodesTell gs (refused e) = RestBreaks b h log ls first e

  nodes_tell : (gs : List Span) (n p : ℕ) (ns : List Node) → SoRight gs ns p → n + length ns ≡ count → nodes_from (last_of first gs) < p + n
      → nodes_from (last_of first gs) ≤ p → NodesTell gs (nodes_at n b id (nodes_to (last_of first gs)) p ns)
  unfolding nodes_at
  nodes_tell gs zero p ns s e l k = (s, omega arith, omega arith)
  nodes_tell gs (suc n) p ns s e l k =
      let stop = nodes_to (last_of first gs) in
      let m = node_at b p in
      let short : length ns < count = omega arith in
      cond_both (hands_over (le 4 b p) stop p) _ _ (NodesTell gs) (λ o. (p, (s, short, o))) (λ o.
      cond_both (bad_node (le 4 b p) stop p) _ _ (NodesTell gs) (λ g. node id gs ns p (half gs ns p s short) o g) (λ g.
      let good = passes b stop p (sym o) (sym g) in
      let size = good.parts in
      let long = length_push ns m in
      nodes_tell gs n (p + m.size) (ns ++ (m ∷ []))
      (record { part = part_push b h id (first ∷ gs) ns p m s.part good; new = s.new; apart = s.apart; few_lists = s.few_lists; few = s.few })
      (omega arith) (omega arith) (omega arith)))

  -- fragments --------------------------------------------------------------------------------------------------------------

  -- what is known of a list that was read
  pub record Fits (l : NodeList) : Type 0 where
    pub stands : Stands b h log l
    pub is_first : first_of l ≡ first
    pub new : ContainsAt (map (λ m. m.id) ls) l.id → ⊥
    pub apart : Pairwise Apart (header_span ∷ (before ++ l.fragments))
    pub few : length (before ++ l.fragments) ≤ 2048

  abbrev RestTells : Outcome NodeList → Type 0
  RestTells (done l) = Fits l
  RestTells (refused e) = RestBreaks b h log ls first e

  goes_tell : (n : ℕ) (gs fs : List Span) (f : Span) (a : Outcome NodePart) → fs ++ (f ∷ []) ≡ first ∷ gs → NodesTell gs a
      → ((ns : List Node) (q : ℕ) → GoesOn gs ns q → RestTells (list_from n b h.end count ls before id (nodes_to f) (span_at b (nodes_to f)) (fs ++ (f ∷ [])) ns))
      → RestTells (then a (list_goes (list_from n b h.end count ls before id) b id f fs))
  goes_tell n gs fs f (done (counted ns q)) e (s, c, l) k = subst (λ z. Fits (list_is id z ns q)) (sym e) (record {
    stands = record { part = s.part; counted = c; ends = l };
    is_first = refl;
    new = s.new;
    apart = s.apart;
    few = s.few;
  })
  goes_tell n gs fs f (done (uncounted ns)) e (q, g) k = k ns q g
  goes_tell n gs fs f (refused x) e t k = t

  -- a list that goes on in the fragment f behind the last of first, gs
  rest_tell : (n : ℕ) (gs : List Span) (ns : List Node) (q : ℕ) → GoesOn gs ns q → n + length (before ++ (first ∷ gs)) ≡ 2048
      → RestTells (list_from n b h.end count ls before id (nodes_to (last_of first gs)) (span_at b (nodes_to (last_of first gs))) (first ∷ gs) ns)
  rest_tell zero gs ns q (s, short, o) l =
      let last = last_of first gs in
      let f = span_at b (nodes_to last) in
      subst RestTells (sym (later_none b h.end count ls before id (nodes_to last) f first gs ns))
      (full_tells 36 h.end 3 id (nodes_to last) (before ++ (first ∷ gs)) f RestTells (omega arith) (omega arith) (λ e m. place id gs ns q (half gs ns q s short) o m))
  rest_tell (suc n) gs ns q (s, short, o) l =
      let last = last_of first gs in
      let f = span_at b (nodes_to last) in
      let real = s.part.real in
      subst RestTells (sym (later_step b h.end count ls before id (nodes_to last) f n first gs ns))
      (place_tells 36 h.end 3 id (nodes_to last) (before ++ (first ∷ gs)) f RestTells _ (omega arith) (omega arith)
      (λ e m. place id gs ns q (half gs ns q s short) o m) (λ g.
      cond_both (mislabelled b id (length (first ∷ gs)) f) _ _ RestTells
      (λ w. rest_unmarked id gs ns q (half gs ns q s short) o g
      (λ m. let one : 1 + length gs ≡ length (first ∷ gs) = omega arith in
      both_ways _ (marked_passes b id (length (first ∷ gs)) f (subst (λ z. Marked b id z f) one m) real) w)) (λ w.
      let (mark, r) = passes_marked b id (length (first ∷ gs)) f w in
      let a = append_assoc before (first ∷ gs) (f ∷ []) in
      let x = length-append before (first ∷ gs) in
      let y = length-append before (first ∷ (gs ++ (f ∷ []))) in
      let z = length_push gs f in
      let right : SoRight (gs ++ (f ∷ [])) ns (nodes_from f) = record {
        part = part_on b h id (first ∷ gs) ns q f s.part o refl g.inside mark;
        new = s.new;
        apart = subst (λ z. Pairwise Apart (header_span ∷ z)) a (pairs_push (header_span ∷ (before ++ (first ∷ gs))) f s.apart g.apart);
        few_lists = s.few_lists;
        few = omega arith;
      } in
      let at = last_push first gs f in
      goes_tell n (gs ++ (f ∷ [])) (first ∷ gs) f (nodes_at (count - length ns) b id (nodes_to f) (nodes_from f) ns) refl
      (subst (λ (z : Span). NodesTell (gs ++ (f ∷ [])) (nodes_at (count - length ns) b id (nodes_to z) (nodes_from f) ns)) at
      (nodes_tell (gs ++ (f ∷ [])) (count - length ns) (nodes_from f) ns right (omega arith)
      (subst (λ (z : Span). nodes_from z < nodes_from f + (count - length ns)) (sym at) (omega arith))
      (subst (λ (z : Span). nodes_from z ≤ nodes_from f) (sym at) (omega arith))))
      (λ ms p on. subst (λ (z : Span). RestTells (list_from n b h.end count ls before id (nodes_to z) (span_at b (nodes_to z)) (first ∷ (gs ++ (f ∷ []))) ms)) at
      (rest_tell n (gs ++ (f ∷ [])) ms p on (omega arith))))))

  -- the whole list ---------------------------------------------------------------------------------------------------------

  abbrev pub NamedBreaks : ℕ → Fault → Type 0
  NamedBreaks field e = FirstBreaks b h log ls field first e ⊎ RestBreaks b h log ls first e

  abbrev pub ListTells : ℕ → Outcome NodeList → Type 0
  ListTells field (done l) = Fits l
  ListTells field (refused e) = NamedBreaks field e

  also_tells : (field : ℕ) (a : Outcome NodeList) → RestTells a → ListTells field a
  also_tells field (done l) t = t
  also_tells field (refused e) t = inr t

  -- the list that is named next, behind the lists ls
  pub list_told : (n field : ℕ) → n ≡ 2048 - length before → length ls < 1024 → Pairwise Apart (header_span ∷ before)
      → ListTells field (list_from n b h.end count ls before id field first [] [])
  list_told zero field l few a =
      subst (ListTells field) (sym (first_none b h.end count ls before id field first))
      (full_tells 36 h.end 3 0 field before first (ListTells field) (omega arith) (omega arith) (λ e m. inl (first_place few m)))
  list_told (suc n) field l few a =
      let x = length-append before (first ∷ []) in
      subst (ListTells field) (sym (first_step b h.end count ls before id field first n))
      (place_tells 36 h.end 3 0 field before first (ListTells field) _ (omega arith) (omega arith) (λ e m. inl (first_place few m)) (λ g.
      cond_both (mislabelled b id 0 first) _ _ (ListTells field)
      (λ w. inl (first_unmarked few g (λ m. both_ways _ (marked_passes b id 0 first m.0 m.1) w))) (λ w.
      let (mark, real) = passes_marked b id 0 first w in
      cond_both (taken id ls) _ _ (ListTells field) (λ t. inl (twice few g mark real (taken_has id ls t))) (λ t.
      let new : ContainsAt (map (λ l. l.id) ls) id → ⊥ = λ x. both_ways (taken id ls) t (has_taken id ls x) in
      cond_both (eqb count 0) _ _ (ListTells field) (λ c. inl (unlisted few g mark real new (eqb-true count 0 c))) (λ c.
      let some = eqb-false count 0 c in
      let right : SoRight [] [] (nodes_from first) = record {
        part = record { inside = (g.inside, tt); marks = (mark, tt); real = real; spread = within refl };
        new = new;
        apart = pairs_push (header_span ∷ before) first a g.apart;
        few_lists = few;
        few = omega arith;
      } in
      also_tells field (nodes_then b h.end count ls before id field first n [] [])
      (goes_tell n [] [] first (nodes_at (count - 0) b id (nodes_to first) (nodes_from first) []) refl
      (nodes_tell [] (count - 0) (nodes_from first) [] right (omega arith) (omega arith) (omega arith))
      (λ ms p on. rest_tell n [] ms p on (omega arith))))))))
