-- The footprint of an accepted file and its free zone share no byte.
use Rattle.std.proofs.Common.{◌≡◌, ℕ, ◌+◌, ◌*◌, ◌<◌, ◌≤◌, ◌⊎◌, List, [], ◌∷◌, sym, ◌∙◌, subst, inl, inr, arith}
use Rattle.std.specs.List.{AllByRecursion}
use Rattle.model.specs.declared.types.Span.{Span}
use Rattle.model.specs.References.{end_of}
use Rattle.model.specs.Headers.{header_span}
use Rattle.model.specs.Section.{NodeList, Section, list_fragments, fragments_of}
use Rattle.model.specs.Means.{Within, Apart, Pairwise, data_spans, Means}
use Rattle.model.specs.Laws.{past_end, in_header, in_log, in_list, in_data, but_last, last_fragment, list_footprint, log_footprint, Footprint, FreeApart}
use Rattle.meaning.proofs.Base.{Cross, pairs_split}
use Rattle.meaning.proofs.Members.{In, in_from_has, in_left, in_flat, all_in}
use Rattle.lasting.proofs.Chains.{in_but_last, last_apart}
use Rattle.lasting.proofs.Places.{meant, in_fragments, list_inside, log_inside, list_end, log_end}

-- ---- fragments that are apart

cross_in : (fs gs : List Span) (f g : Span) → Cross Apart fs gs → In f fs → In g gs → Apart f g
cross_in fs gs f g c i j = all_in (Apart f) gs g (all_in (λ (x : Span). AllByRecursion (Apart x) gs) fs f c i) j

-- a place is in the fragments of one list only
not_later : (n : NodeList) (ns : List NodeList) (k : NodeList) (f g : Span) (i : ℕ) → Pairwise Apart (list_fragments (n ∷ ns)) → In k ns
    → In f n.fragments → In g k.fragments → Within f i → Within g i → ⊥
not_later n ns k f g i p j u v a c =
    let across = (pairs_split Apart n.fragments (list_fragments ns) p).2 in
    cross_in n.fragments (list_fragments ns) f g across u (in_flat (λ (w : NodeList). w.fragments) ns k g j v) i a c

one_list : (ls : List NodeList) (l k : NodeList) (f g : Span) (i : ℕ) → Pairwise Apart (list_fragments ls) → In l ls → In k ls
    → In f l.fragments → In g k.fragments → Within f i → Within g i → l ≡ k
one_list [] l k f g i p x y u v a c = absurd x
one_list (n ∷ ns) l k f g i p (inl d) (inl e) u v a c = sym d ∙ e
one_list (n ∷ ns) l k f g i p (inl d) (inr j) u v a c = absurd (not_later n ns k f g i p j (subst (λ (w : NodeList). In f w.fragments) (sym d) u) v a c)
one_list (n ∷ ns) l k f g i p (inr j) (inl e) u v a c = absurd (not_later n ns l g f i p j (subst (λ (w : NodeList). In g w.fragments) (sym e) v) u c a)
one_list (n ∷ ns) l k f g i p (inr j) (inr h) u v a c = one_list ns l k f g i (pairs_split Apart n.fragments (list_fragments ns) p).1 j h u v a c

-- the fragments of each list
each_list : (ls : List NodeList) (l : NodeList) → Pairwise Apart (list_fragments ls) → In l ls → Pairwise Apart l.fragments
each_list [] l p x = absurd x
each_list (n ∷ ns) l p (inl e) = subst (λ (w : NodeList). Pairwise Apart w.fragments) e (pairs_split Apart n.fragments (list_fragments ns) p).0
each_list (n ∷ ns) l p (inr j) = each_list ns l (pairs_split Apart n.fragments (list_fragments ns) p).1 j

-- ---- where a place of the footprint stands

-- in a fragment of a chain: one before the last, or the last, of which P holds
abbrev Used : List Span → Type 0 → ℕ → Type 0
Used fs P i = (f : Span) × In f fs × Within f i × (In f (but_last fs) ⊎ P)

module _ {b : List ℕ} {s : Section} (m : Means b s) where
  used_of_list : (l : NodeList) (r : Span) (i : ℕ) → In l s.lists → In r (list_footprint l) → Within r i
      → Used l.fragments ((i < l.free) ⊎ (end_of (last_fragment l.fragments) ≤ i + 8)) i
  used_of_list l r i j k w =
      let e = list_end m l j in
      let free_from = e.free_from in
      let free_to = e.free_to in
      let size = e.size in
      let f = last_fragment l.fragments in
      elim k [
        | inl q ↦ let (x, y) = subst (λ (r : Span). Within r i) (sym q) w in (f, e.last, (omega arith, omega arith), inr (inl (omega arith)))
        | inr (inl q) ↦ let (x, y) = subst (λ (r : Span). Within r i) (sym q) w in (f, e.last, (omega arith, omega arith), inr (inr (omega arith)))
        | inr (inr q) ↦ (r, in_but_last l.fragments r q, w, inl q)
      ]

  used_of_log : (r : Span) (i : ℕ) → In r (log_footprint s.log) → Within r i
      → Used s.log.fragments (i < (last_fragment s.log.fragments).start + 8 * s.log.used) i
  used_of_log r i k w =
      let e = log_end m in
      let used_to = e.used_to in
      let size = e.size in
      let f = last_fragment s.log.fragments in
      elim k [
        | inl q ↦ let (x, y) = subst (λ (r : Span). Within r i) (sym q) w in (f, e.last, (omega arith, omega arith), inr (omega arith))
        | inr q ↦ (r, in_but_last s.log.fragments r q, w, inl q)
      ]

  -- ---- what a place in a fragment is not

  not_in_header : (g : Span) (i : ℕ) → In g (fragments_of s) → Within g i → Within header_span i → ⊥
  not_in_header g i j x y = all_in (Apart header_span) (fragments_of s) g m.fragments_apart.0 j i y x

  not_in_data : (g r : Span) (i : ℕ) → In g (fragments_of s) → Within g i → In r (data_spans s.lists) → Within r i → ⊥
  not_in_data g r i j x k y =
      all_in (Apart r) (fragments_of s) g (all_in (λ (r : Span). AllByRecursion (Apart r) (header_span ∷ fragments_of s)) (data_spans s.lists) r m.data_apart k).1 j i y x

  -- a log fragment and one of a list
  not_both : (l : NodeList) (f g : Span) (i : ℕ) → In f s.log.fragments → In l s.lists → In g l.fragments → Within f i → Within g i → ⊥
  not_both l f g i x j y u v =
      let (logs, lists, across) = pairs_split Apart s.log.fragments (list_fragments s.lists) m.fragments_apart.1 in
      cross_in s.log.fragments (list_fragments s.lists) f g across x (in_flat (λ (w : NodeList). w.fragments) s.lists l g j y) i u v

  -- ---- the three parts of the free zone

  past_apart : (i : ℕ) → s.header.end ≤ i → Footprint s i → ⊥
  past_apart i h (in_header w) = let least = m.header.least in omega arith
  past_apart i h (in_log {r = r} k w) =
      let (f, j, x, u) = used_of_log r i (in_from_has (log_footprint s.log) r k) w in
      let (y, z) = log_inside m f j in
      let q = x.1 in
      omega arith
  past_apart i h (in_list {l = l} {r = r} g k w) =
      let n = in_from_has s.lists l g in
      let (f, j, x, u) = used_of_list l r i n (in_from_has (list_footprint l) r k) w in
      let (y, z) = list_inside m l f n j in
      let q = x.1 in
      omega arith
  past_apart i h (in_data {r = r} k w) =
      let z : end_of r ≤ s.header.end = all_in (λ (r : Span). end_of r ≤ s.header.end) (data_spans s.lists) r m.data_inside (in_from_has (data_spans s.lists) r k) in
      let q = w.1 in
      omega arith

  log_apart : (i : ℕ) → Within (last_fragment s.log.fragments) i → (last_fragment s.log.fragments).start + 8 * s.log.used ≤ i → Footprint s i → ⊥
  log_apart i here h foot =
      let g = last_fragment s.log.fragments in
      let last = (log_end m).last in
      let a = in_left s.log.fragments (list_fragments s.lists) g last in
      elim foot [
        | in_header w ↦ not_in_header g i a here w
        | in_log {r = r} k w ↦
            let (f, j, x, u) = used_of_log r i (in_from_has (log_footprint s.log) r k) w in
            elim u [
              | inl q ↦ last_apart s.log.fragments f (pairs_split Apart s.log.fragments (list_fragments s.lists) m.fragments_apart.1).0 q i x here
              | inr q ↦ omega arith
            ]
        | in_list {l = l} {r = r} n k w ↦
            let n' = in_from_has s.lists l n in
            let (f, j, x, u) = used_of_list l r i n' (in_from_has (list_footprint l) r k) w in
            not_both l g f i last n' j here x
        | in_data {r = r} k w ↦ not_in_data g r i a here (in_from_has (data_spans s.lists) r k) w
      ]

  list_apart : (i : ℕ) (l : NodeList) → In l s.lists → Within (last_fragment l.fragments) i → l.free ≤ i → i + 8 < end_of (last_fragment l.fragments) → Footprint s i → ⊥
  list_apart i l n here h h' foot =
      let g = last_fragment l.fragments in
      let last = (list_end m l n).last in
      let a = in_fragments s l g n last in
      elim foot [
        | in_header w ↦ not_in_header g i a here w
        | in_log {r = r} k w ↦
            let (f, j, x, u) = used_of_log r i (in_from_has (log_footprint s.log) r k) w in
            not_both l f g i j n last x here
        | in_list {l = l'} {r = r} n' k w ↦
            let o = in_from_has s.lists l' n' in
            let (f, j, x, u) = used_of_list l' r i o (in_from_has (list_footprint l') r k) w in
            let lists = (pairs_split Apart s.log.fragments (list_fragments s.lists) m.fragments_apart.1).1 in
            let e = one_list s.lists l l' g f i lists n o last j here x in
            elim u [
              | inl q ↦ last_apart l'.fragments f (each_list s.lists l' lists o) q i x (subst (λ (l : NodeList). Within (last_fragment l.fragments) i) e here)
              | inr (inl q) ↦ let z : l'.free ≤ i = subst (λ (l : NodeList). l.free ≤ i) e h in omega arith
              | inr (inr q) ↦ let z : i + 8 < end_of (last_fragment l'.fragments) = subst (λ (l : NodeList). i + 8 < end_of (last_fragment l.fragments)) e h' in omega arith
            ]
        | in_data {r = r} k w ↦ not_in_data g r i a here (in_from_has (data_spans s.lists) r k) w
      ]

pub free_apart : FreeApart
free_apart b s e i foot (past_end h) = past_apart (meant b s e) i h foot
free_apart b s e i foot (in_log x y) =
    let k = log_end (meant b s e) in
    let size = k.size in
    log_apart (meant b s e) i (omega arith, omega arith) (omega arith) foot
free_apart b s e i foot (in_list {l = l} n x y) =
    let j = in_from_has s.lists l n in
    let k = list_end (meant b s e) l j in
    let from = k.free_from in
    list_apart (meant b s e) i l j (omega arith, omega arith) x (omega arith) foot
