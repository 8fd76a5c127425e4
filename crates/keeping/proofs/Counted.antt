-- Each list has one row, and the fragments of all lists are as many as those of the lists.
use Rattle.std.proofs.Common.{◌≡◌, ℕ, zero, suc, ◌+◌, ◌<◌, ◌≤◌, true, false, not, eqb, ◌≢◌, List, [], ◌∷◌, map, length, filter, slice_get, Some, refl, ap, ◌∙◌, sym, subst, inl, inr, arith}
use Rattle.std.specs.List.{AllByRecursion}
use Rattle.std.proofs.lemmas.List.{length-append}
use Rattle.std.proofs.lemmas.Bool.{cases_Bool, cases_lt}
use Rattle.std.proofs.lemmas.Bool.Decides.{nat_tests}
use Rattle.model.specs.Section.{NodeList, list_fragments}
use Rattle.model.specs.OpenedLists.{taken}
use Rattle.model.specs.Means.{Pairwise}
use Rattle.meaning.proofs.Members.{In, pigeon}
use Rattle.commits.proofs.Rows.{all_both}
use Rattle.pieces.specs.declared.piece.Piece.{Piece}
use Rattle.pieces.specs.Found.{of_list}
use Rattle.tables.specs.declared.room.Row.{Row}

-- rows ---------------------------------------------------------------------------------------------------------------------

abbrev pub ids_of : List Row → List ℕ
ids_of rows = map (λ r. r.id) rows

pub in_ids : (rows : List Row) (i : ℕ) (r : Row) → slice_get rows i ≡ Some r → In r.id (ids_of rows)
in_ids [] i r e = absurd cc
in_ids (s ∷ rows) zero r e = let f : s ≡ r = cc in inl (ap (λ (x : Row). x.id) f)
in_ids (s ∷ rows) (suc i) r e = inr (in_ids rows i r e)

-- the IDs without one of two that are the same
without : (rows : List Row) (i j : ℕ) (a b : Row) → i < j → slice_get rows i ≡ Some a → slice_get rows j ≡ Some b → a.id ≡ b.id
    → (ids : List ℕ) × (suc (length ids) ≡ length rows) × ((x : ℕ) → In x (ids_of rows) → In x ids)
without [] i j a b l e f g = absurd cc
without (r ∷ rows) i zero a b l e f g = absurd (omega arith)
without (r ∷ rows) zero (suc j) a b l e f g =
    let h : r ≡ a = cc in
    let same : b.id ≡ r.id = sym (ap (λ (x : Row). x.id) h ∙ g) in
    (ids_of rows, ap suc (length_ids rows), λ x i. elim i [ inl q ↦ subst (λ z. In z (ids_of rows)) (same ∙ q) (in_ids rows j b f) | inr k ↦ k ])
  where
    length_ids : (rows : List Row) → length (ids_of rows) ≡ length rows
    length_ids [] = refl
    length_ids (s ∷ rows) = ap suc (length_ids rows)
without (r ∷ rows) (suc i) (suc j) a b l e f g =
    let (ids, n, k) = without rows i j a b (omega arith) e f g in
    (r.id ∷ ids, ap suc n, λ x m. elim m [ inl q ↦ inl q | inr y ↦ inr (k x y) ])

-- where there are no more rows than IDs that differ, and each ID has a row, it has one
module _ (xs : List ℕ) (rows : List Row) (differ : Pairwise (λ x y. x ≢ y) xs) (each : (x : ℕ) → In x xs → In x (ids_of rows)) (few : length rows ≤ length xs) where
  no_two : (i j : ℕ) (a b : Row) → i < j → slice_get rows i ≡ Some a → slice_get rows j ≡ Some b → a.id ≡ b.id → ⊥
  no_two i j a b l e f g =
      let (ids, n, k) = without rows i j a b l e f g in
      let most = pigeon xs ids differ (λ x m. k x (each x m)) in
      omega arith

  pub one_row : (i j : ℕ) (a b : Row) → slice_get rows i ≡ Some a → slice_get rows j ≡ Some b → a.id ≡ b.id → i ≡ j
  one_row i j a b e f g = elim (cases_lt i j) [
    | inl l ↦ absurd (no_two i j a b l e f g)
    | inr l ↦ elim (cases_lt j i) [
      | inl k ↦ absurd (no_two j i b a k f e (sym g))
      | inr k ↦ omega arith
    ]
  ]

-- fragments ----------------------------------------------------------------------------------------------------------------

-- those of other lists
abbrev rest : ℕ → List Piece → List Piece
rest id ps = filter (λ p. not (eqb p.list id)) ps

both_parts : (id : ℕ) (ps : List Piece) → length ps ≡ length (of_list id ps) + length (rest id ps)
both_parts id [] = refl
both_parts id (p ∷ ps) = let ih = both_parts id ps in elim (cases_Bool (eqb p.list id)) [
  | inl e ↦ rw e (omega arith)
  | inr e ↦ rw e (omega arith)
]

none_left : (id : ℕ) (ps : List Piece) → of_list id (rest id ps) ≡ []
none_left id [] = refl
none_left id (p ∷ ps) = elim (cases_Bool (eqb p.list id)) [
  | inl e ↦ rw e (none_left id ps)
  | inr e ↦ rw (e, e) (none_left id ps)
]

others_left : (id k : ℕ) (ps : List Piece) → eqb id k ≡ false → of_list k (rest id ps) ≡ of_list k ps
others_left id k [] n = refl
others_left id k (p ∷ ps) n = let ih = others_left id k ps n in elim (cases_Bool (eqb p.list id)) [
  | inl e ↦ let f : eqb p.list k ≡ false = grind (arith, nat_tests) in rw (e, f) ih
  | inr e ↦ elim (cases_Bool (eqb p.list k)) [
    | inl f ↦ rw (e, f) (ap (λ qs. p ∷ qs) ih)
    | inr f ↦ rw (e, f) ih
  ]
]

none_of : (ps : List Piece) → ((id : ℕ) → of_list id ps ≡ []) → ps ≡ []
none_of [] k = refl
none_of (p ∷ ps) k = let e : eqb p.list p.list ≡ true = grind (arith, nat_tests) in let k0 = k p.list in let n = rw e at k0 in absurd cc

pub as_many : (ls : List NodeList) (ps : List Piece) → Pairwise (λ l m. l.id ≢ m.id) ls → AllByRecursion (λ l. length (of_list l.id ps) ≡ length l.fragments) ls
    → ((id : ℕ) → taken id ls ≡ false → of_list id ps ≡ []) → length ps ≡ length (list_fragments ls)
as_many [] ps d a k = ap length (none_of ps (λ id. k id refl))
as_many (l ∷ ls) ps (n, d) (e, a) k =
    let qs : List Piece = rest l.id ps in
    let each : AllByRecursion (λ m. length (of_list m.id qs) ≡ length m.fragments) ls
    = all_both (λ m. l.id ≢ m.id) (λ (m : NodeList). length (of_list m.id ps) ≡ length m.fragments) (λ m. length (of_list m.id qs) ≡ length m.fragments) ls
    (λ m f g. let h : eqb l.id m.id ≡ false = grind (arith, nat_tests) in ap length (others_left l.id m.id ps h) ∙ g) n a in
    let none : (id : ℕ) → taken id ls ≡ false → of_list id qs ≡ []
    = λ id t. elim (cases_Bool (eqb l.id id)) [
      | inl h ↦ let same : l.id ≡ id = grind (arith, nat_tests) in subst (λ z. of_list z qs ≡ []) same (none_left l.id ps)
      | inr h ↦ others_left l.id id ps h ∙ k id (rw h t)
    ] in
    let ih = as_many ls qs d each none in
    let parts = both_parts l.id ps in
    let all = length-append l.fragments (list_fragments ls) in
    omega arith
