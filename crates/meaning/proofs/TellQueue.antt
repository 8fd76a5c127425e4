-- What reading the lists tells: they stand, in the order in which they are named, or this is the first rule that is broken.
use Rattle.std.proofs.Common.{◌≡◌, ℕ, zero, suc, ◌+◌, ◌-◌, ◌<◌, ◌≤◌, ◌≢◌, List, [], ◌∷◌, ◌++◌, map, length, take, drop, sym, refl, ap, ◌∙◌, subst, inl, arith}
use Rattle.std.specs.List.{ContainsAt, AllByRecursion}
use Rattle.std.proofs.lemmas.List.{append_assoc, append-nil, length_push, take-append-drop}
use Rattle.std.proofs.lemmas.Bool.{cond_both}
use Rattle.std.proofs.ByRecursion.{All-append, All-weaker}
use Rattle.model.specs.declared.types.Span.{Span}
use Rattle.model.specs.declared.types.Fault.{Fault}
use Rattle.model.specs.declared.types.Header.{Header}
use Rattle.model.specs.Faults.{fault, Outcome, done, refused, then}
use Rattle.model.specs.Headers.{header_span}
use Rattle.model.specs.ListFragments.{owner}
use Rattle.model.specs.Section.{Log, NodeList, flat, list_fragments, first_of}
use Rattle.model.specs.OpenedLog.{outside}
use Rattle.model.specs.OpenedLists.{Named, named_by, named_first, named_list, lists_from}
use Rattle.model.specs.Means.{Apart, Pairwise, Stands, Logs, named_in, Reached, by_header, by_node}
use Rattle.model.specs.Breaks.{Walked}
use Rattle.model.specs.Breaks.FirstBreaks.{outside as first_outside, full as first_full}
use Rattle.meaning.proofs.Base.{pairs_join, inside}
use Rattle.meaning.proofs.Members.{In, has_from_in, in_from_has, in_left, in_right, in_cases, in_map, in_unflat, all_in, all_from_in, flat_append}
use Rattle.meaning.proofs.Places.{not_inside}
use Rattle.meaning.proofs.ReadQueue.{spans, order_more, fields_more}
use Rattle.meaning.proofs.TellList.{Fits, NamedBreaks, ListTells, list_told}

-- what is named is reached
named_reached : (h : Header) (ls : List NodeList) (q : Named) → AllByRecursion (λ l. Reached h ls (first_of l)) ls → In q (named_in h ls) → Reached h ls q.1
named_reached h ls q a i = in_cases (named_first h) (flat (map named_by ls)) q (Reached h ls q.1) i
    (λ j. by_header (has_from_in (spans (named_first h)) q.1 (in_map (λ (q : Named). q.1) (named_first h) q j)))
    (λ j. let (l, k, m) = in_unflat named_by ls q j in
    by_node {l = l} (has_from_in ls l k) (all_in (λ l. Reached h ls (first_of l)) ls l a k) (has_from_in (spans (named_by l)) q.1 (in_map (λ (q : Named). q.1) (named_by l) q m)))

-- and stays so
reached_more : (h : Header) (ls ms : List NodeList) (r : Span) → Reached h ls r → Reached h (ls ++ ms) r
reached_more h ls ms r (by_header x) = by_header x
reached_more h ls ms r (by_node {l = l} x y z) = by_node {l = l} (has_from_in (ls ++ ms) l (in_left ls ms l (in_from_has ls l x))) (reached_more h ls ms (first_of l) y) z

in_drop : {X : Type 0} (n : ℕ) (xs : List X) (q : X) (qs : List X) → q ∷ qs ≡ drop n xs → In q xs
in_drop n xs q qs e = subst (λ w. In q w) (take-append-drop n xs) (in_right (take n xs) (drop n xs) q (subst (λ w. In q w) e (inl refl)))

ids_push : (ls : List NodeList) (l : NodeList) → Pairwise (λ l m. l.id ≢ m.id) ls → (ContainsAt (map (λ m. m.id) ls) l.id → ⊥) → Pairwise (λ l m. l.id ≢ m.id) (ls ++ (l ∷ []))
ids_push ls l p t = pairs_join (λ (l m : NodeList). l.id ≢ m.id) ls (l ∷ []) p (tt, tt)
    (all_from_in (λ (k : NodeList). AllByRecursion (λ (m : NodeList). k.id ≢ m.id) (l ∷ [])) ls (λ k i. (
      λ e. t (has_from_in (map (λ (m : NodeList). m.id) ls) l.id (subst (λ z. In z (map (λ (m : NodeList). m.id) ls)) e (in_map (λ (m : NodeList). m.id) ls k i))),
      tt,
    )))

fragments_push : (log : Log) (ls : List NodeList) (l : NodeList)
    → (log.fragments ++ list_fragments ls) ++ l.fragments ≡ log.fragments ++ list_fragments (ls ++ (l ∷ []))
fragments_push log ls l =
    append_assoc log.fragments (list_fragments ls) l.fragments
    ∙ ap (λ w. log.fragments ++ w) (sym (flat_append (λ l. l.fragments) ls (l ∷ []) ∙ ap (λ w. list_fragments ls ++ w) (append-nil l.fragments)))

module _ (b : List ℕ) (h : Header) (log : Log) where
  -- nothing is read
  pub walked_none : Logs b h log → Walked b h log [] (named_first h)
  walked_none g = record {
    lists = tt;
    reached = tt;
    order = ap spans (append-nil (named_first h));
    fields = sym (append-nil (named_first h));
    ids_differ = tt;
    apart = subst (λ w. Pairwise Apart (header_span ∷ w)) (sym (append-nil log.fragments)) g.part.apart;
    few_lists = omega arith;
    few = subst (λ w. length w ≤ 2048) (sym (append-nil log.fragments)) g.part.few;
  }

  -- one list more
  walked_more : (ls : List NodeList) (q : Named) (qs : List Named) (l : NodeList) → Walked b h log ls (q ∷ qs) → length ls < 1024 → Fits b h log ls q.1 l
      → Walked b h log (ls ++ (l ∷ [])) (qs ++ named_by l)
  walked_more ls q qs l w few f =
      let n = length_push ls l in
      let here : Reached h ls q.1 = named_reached h ls q w.reached (in_drop (length ls) (named_in h ls) q qs w.fields) in
      record {
        lists = All-append (Stands b h log) ls (l ∷ []) w.lists (f.stands, tt);
        reached = All-append (λ m. Reached h (ls ++ (l ∷ [])) (first_of m)) ls (l ∷ [])
            (All-weaker (λ m. Reached h ls (first_of m)) (λ m. Reached h (ls ++ (l ∷ [])) (first_of m)) (λ m r. reached_more h ls (l ∷ []) (first_of m) r) ls w.reached)
            (subst (λ z. Reached h (ls ++ (l ∷ [])) z) (sym f.is_first) (reached_more h ls (l ∷ []) q.1 here), tt);
        order = order_more h ls q qs l w.order f.is_first;
        fields = fields_more h ls q qs l w.fields;
        ids_differ = ids_push ls l w.ids_differ f.new;
        apart = subst (λ z. Pairwise Apart (header_span ∷ z)) (fragments_push log ls l) f.apart;
        few_lists = omega arith;
        few = subst (λ z. length z ≤ 2048) (fragments_push log ls l) f.few;
      }

  -- the list that q names breaks a rule
  pub record BrokenNext (e : Fault) : Type 0 where
    pub ls : List NodeList
    pub q : Named
    pub qs : List Named
    pub walked : Walked b h log ls (q ∷ qs)
    pub breaks : NamedBreaks b h log ls q.1 q.0 e

  abbrev pub ListsTell : Outcome (List NodeList) → Type 0
  ListsTell (done g) = Walked b h log g []
  ListsTell (refused e) = BrokenNext e

  next_tell : (ls : List NodeList) (q : Named) (qs : List Named) (a : Outcome NodeList) (k : NodeList → Outcome (List NodeList)) → Walked b h log ls (q ∷ qs)
      → ListTells b h log ls q.1 q.0 a → ((l : NodeList) → Fits b h log ls q.1 l → ListsTell (k l)) → ListsTell (then a k)
  next_tell ls q qs (done l) k w t f = f l t
  next_tell ls q qs (refused e) k w t f = record { ls = ls; q = q; qs = qs; walked = w; breaks = t }

  lists_tell : (n : ℕ) (ls : List NodeList) (qs : List Named) → Walked b h log ls qs → n + length ls ≡ 1024 → ListsTell (lists_from n b h log qs ls)
  unfolding lists_from
  lists_tell n ls [] w l = w
  lists_tell zero ls (q ∷ qs) w l =
      let broken : (e : Fault) → NamedBreaks b h log ls q.1 q.0 e → BrokenNext e = λ e t. record { ls = ls; q = q; qs = qs; walked = w; breaks = t } in
      cond_both (outside 36 h.end q.1) _ _ ListsTell
      (λ x. broken (fault 5 3 q.0 0) (inl (first_outside (omega arith) (not_inside 36 h.end q.1 (omega arith) x))))
      (λ x. broken (fault 13 3 q.0 0) (inl (first_full (omega arith) (inside 36 h.end q.1 x))))
  lists_tell (suc n) ls (q ∷ qs) w l =
      next_tell ls q qs (named_list b h log ls q (owner b q.1)) (λ l. lists_from n b h log (qs ++ named_by l) (ls ++ (l ∷ []))) w
      (list_told b h log ls q.1 (2048 - length (log.fragments ++ list_fragments ls)) q.0 refl (omega arith) w.apart) (λ m f.
      let x = length_push ls m in
      lists_tell n (ls ++ (m ∷ [])) (qs ++ named_by m) (walked_more ls q qs m w (omega arith) f) (omega arith))

  -- all lists
  pub lists_told : Logs b h log → ListsTell (lists_from 1024 b h log (named_first h) [])
  lists_told g = lists_tell 1024 [] (named_first h) (walked_none g) (omega arith)
