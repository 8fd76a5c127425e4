-- What becomes of the rows of a file.
use Rattle.std.proofs.Common.{◌≡◌, ℕ, zero, suc, ◌+◌, ◌<◌, ◌≤◌, true, eqb, ltb, ◌≢◌, ◌⊎◌, List, [], ◌∷◌, ◌++◌, length, set, slice_get, Some, refl, ap, ◌∙◌, sym, subst, inl, inr, arith}
use Rattle.std.specs.List.{AllByRecursion}
use Rattle.std.proofs.ByRecursion.{All-weaker}
use Rattle.std.proofs.lemmas.List.{length-append, length-set}
use Rattle.std.proofs.lemmas.Option.{slice_get_past}
use Rattle.std.proofs.lemmas.Bool.{cases_Bool}
use Rattle.std.proofs.lemmas.Bool.Decides.{nat_tests}
use Rattle.model.specs.Means.{Pairwise}
use Rattle.meaning.proofs.Members.{In}
use Rattle.commits.proofs.Rows.{all_both}
use Rattle.tables.specs.declared.room.Row.{Row}
use Rattle.writing.specs.declared.tails.Tail.{Tail}
use Rattle.drafts.specs.Rowed.{OwnRow, RowsFrom}
use Rattle.drafts.proofs.Rows.{rows_up}
use Rattle.keeping.specs.Rows.{row_for, with_row, with_rows}

-- one row put in place of another, or behind all -------------------------------------------------------------------------

get_set : (rows : List Row) (i : ℕ) (r x : Row) → slice_get rows i ≡ Some r → slice_get (set rows i x) i ≡ Some x
get_set [] i r x e = absurd cc
get_set (s ∷ rows) zero r x e = refl
get_set (s ∷ rows) (suc i) r x e = get_set rows i r x e

get_other : (rows : List Row) (i j : ℕ) (x r : Row) → i ≢ j → slice_get rows j ≡ Some r → slice_get (set rows i x) j ≡ Some r
get_other [] i j x r n e = e
get_other (s ∷ rows) zero zero x r n e = absurd (n refl)
get_other (s ∷ rows) zero (suc j) x r n e = e
get_other (s ∷ rows) (suc i) zero x r n e = e
get_other (s ∷ rows) (suc i) (suc j) x r n e = get_other rows i j x r (λ q. n (ap suc q)) e

get_before : (rows more : List Row) (i : ℕ) (r : Row) → slice_get rows i ≡ Some r → slice_get (rows ++ more) i ≡ Some r
get_before [] more i r e = absurd cc
get_before (s ∷ rows) more zero r e = e
get_before (s ∷ rows) more (suc i) r e = get_before rows more i r e

get_last : (rows : List Row) (r : Row) → slice_get (rows ++ (r ∷ [])) (length rows) ≡ Some r
get_last [] r = refl
get_last (s ∷ rows) r = get_last rows r

get_some : (rows : List Row) (i : ℕ) → i < length rows → (r : Row) × (slice_get rows i ≡ Some r)
get_some [] i l = absurd (omega arith)
get_some (s ∷ rows) zero l = (s, refl)
get_some (s ∷ rows) (suc i) l = get_some rows i (omega arith)

-- one tail -----------------------------------------------------------------------------------------------------------------

known : (t : Tail) (rows : List Row) (r : Row) → slice_get rows t.row ≡ Some r → with_row t rows ≡ set rows t.row (row_for r.first t)
known t rows r e = rw (with_row, e) refl

new : (t : Tail) (rows : List Row) → t.row ≡ length rows → length rows < 1024 → with_row t rows ≡ rows ++ (row_for 0 t ∷ [])
new t rows e l =
    let n = slice_get_past rows t.row (omega arith) in
    let room : ltb (length rows) 1024 ≡ true = grind (arith, nat_tests) in
    rw (with_row, n, room) refl

record Stepped (t : Tail) (rows after : List Row) : Type 0 where
  own : (first : ℕ) × (slice_get after t.row ≡ Some (row_for first t))
  others : (j : ℕ) (r : Row) → t.row ≢ j → slice_get rows j ≡ Some r → slice_get after j ≡ Some r

stepped_known : (t : Tail) (rows : List Row) → t.row < length rows → Stepped t rows (with_row t rows) × (length (with_row t rows) ≡ length rows)
stepped_known t rows l =
    let (r, e) = get_some rows t.row l in
    let k = known t rows r e in (
      record {
        own = (r.first, ap (λ z. slice_get z t.row) k ∙ get_set rows t.row r (row_for r.first t) e);
        others = λ j s n f. ap (λ z. slice_get z j) k ∙ get_other rows t.row j (row_for r.first t) s n f;
      },
      ap length k ∙ length-set rows t.row (row_for r.first t),
    )

stepped_new : (t : Tail) (rows : List Row) → t.row ≡ length rows → length rows < 1024 → Stepped t rows (with_row t rows) × (length (with_row t rows) ≡ length rows + 1)
stepped_new t rows e l =
    let k = new t rows e l in (
      record {
        own = (0, ap (λ z. slice_get z t.row) k ∙ ap (slice_get (rows ++ (row_for 0 t ∷ []))) e ∙ get_last rows (row_for 0 t));
        others = λ j s n f. ap (λ z. slice_get z j) k ∙ get_before rows (row_for 0 t ∷ []) j s f;
      },
      ap length k ∙ length-append rows (row_for 0 t ∷ []),
    )

-- all tails ----------------------------------------------------------------------------------------------------------------

abbrev pub RowsDiffer : List Tail → Type 0
RowsDiffer ts = Pairwise (λ t u. t.row ≢ u.row) ts

pub record After (ts : List Tail) (rows after : List Row) (end : ℕ) : Type 0 where
  pub number : length after ≡ end
  -- a row that is no tail's
  pub stays : (j : ℕ) (r : Row) → AllByRecursion (λ t. t.row ≢ j) ts → slice_get rows j ≡ Some r → slice_get after j ≡ Some r
  -- a row keeps its ID
  pub keeps : (j : ℕ) (r : Row) → AllByRecursion (λ t. t.row ≡ j → t.list ≡ r.id) ts → slice_get rows j ≡ Some r → (q : Row) × (slice_get after j ≡ Some q) × (q.id ≡ r.id)
  -- a tail's row
  pub own : (t : Tail) → In t ts → RowsDiffer ts → (first : ℕ) × (slice_get after t.row ≡ Some (row_for first t))

after_step : (t : Tail) (ts : List Tail) (rows one after : List Row) (end : ℕ) → Stepped t rows one → After ts one after end → After (t ∷ ts) rows after end
after_step t ts rows one after end s w = record {
  number = w.number;
  stays = λ j r a g. w.stays j r a.1 (s.others j r a.0 g);
  keeps = λ j r a g. elim (cases_Bool (eqb t.row j)) [
    | inl e ↦
        let at : t.row ≡ j = grind (arith, nat_tests) in
        let (first, o) = s.own in
        let id : t.list ≡ r.id = a.0 at in
        let more : AllByRecursion (λ u. u.row ≡ j → u.list ≡ (row_for first t).id) ts
        = All-weaker (λ (u : Tail). u.row ≡ j → u.list ≡ r.id) (λ u. u.row ≡ j → u.list ≡ t.list) (λ u f h. f h ∙ sym id) ts a.1 in
        let (q, there, same) = w.keeps j (row_for first t) more (subst (λ i. slice_get one i ≡ Some (row_for first t)) at o) in
        (q, there, same ∙ id)
    | inr e ↦ w.keeps j r a.1 (s.others j r (λ h. grind (arith, nat_tests)) g)
  ];
  own = λ u i d. elim i [
    | inl e ↦
        let (first, o) = s.own in
        let away : AllByRecursion (λ v. v.row ≢ t.row) ts = All-weaker (λ (v : Tail). t.row ≢ v.row) (λ v. v.row ≢ t.row) (λ v n h. n (sym h)) ts d.0 in
        subst (λ (z : Tail). (first : ℕ) × (slice_get after z.row ≡ Some (row_for first z))) e (first, w.stays t.row (row_for first t) away o)
    | inr j ↦ w.own u j d.1
  ];
}

pub rows_after : (first : ℕ) (ts : List Tail) (rows : List Row) (end : ℕ) → first ≤ length rows → RowsFrom first (length rows) ts end → end ≤ 1024 → After ts rows (with_rows ts rows) end
unfolding with_rows
rows_after first [] rows end l e few = record { number = e; stays = λ j r a g. g; keeps = λ j r a g. (r, g, refl); own = λ t i d. absurd i }
rows_after first (t ∷ ts) rows end l (inl (below, r)) few =
    let (s, n) = stepped_known t rows (omega arith) in
    after_step t ts rows (with_row t rows) (with_rows ts (with_row t rows)) end s
    (rows_after first ts (with_row t rows) end (omega arith) (subst (λ z. RowsFrom first z ts end) (sym n) r) few)
rows_after first (t ∷ ts) rows end l (inr (at, r)) few =
    let up = rows_up first (length rows + 1) ts end r in
    let (s, n) = stepped_new t rows at (omega arith) in
    after_step t ts rows (with_row t rows) (with_rows ts (with_row t rows)) end s
    (rows_after first ts (with_row t rows) end (omega arith) (subst (λ z. RowsFrom first z ts end) (sym n) r) few)

-- tails of different lists have different rows ---------------------------------------------------------------------------------

rows_from : (first next : ℕ) (ts : List Tail) (end : ℕ) → RowsFrom first next ts end → AllByRecursion (λ u. (u.row < first) ⊎ (next ≤ u.row)) ts
rows_from first next [] end e = tt
rows_from first next (t ∷ ts) end (inl (l, r)) = (inl l, rows_from first next ts end r)
rows_from first next (t ∷ ts) end (inr (e, r)) = (
  inr (omega arith),
  All-weaker (λ (u : Tail). (u.row < first) ⊎ (next + 1 ≤ u.row)) (λ u. (u.row < first) ⊎ (next ≤ u.row)) (λ u x. elim x [ inl l ↦ inl l | inr l ↦ inr (omega arith) ]) ts (rows_from first (next + 1) ts end r),
)

same_own : (rows : List Row) (t u : Tail) → OwnRow rows t → OwnRow rows u → t.row ≡ u.row → t.list ≡ u.list
same_own rows t u x y e =
    let f : Some x.row ≡ Some y.row = sym x.there ∙ ap (slice_get rows) e ∙ y.there in
    let g : x.row ≡ y.row = cc in
    sym x.own ∙ ap (λ (r : Row). r.id) g ∙ y.own

pub rows_differ : (rows : List Row) (first next : ℕ) (ts : List Tail) (end : ℕ) → first ≤ next → RowsFrom first next ts end → AllByRecursion (λ u. u.row < first → OwnRow rows u) ts
    → Pairwise (λ t u. t.list ≢ u.list) ts → RowsDiffer ts
rows_differ rows first next [] end l r a d = tt
rows_differ rows first next (t ∷ ts) end l (inl (below, r)) (o, a) (d, ds) = (
  all_both (λ (u : Tail). t.list ≢ u.list) (λ u. u.row < first → OwnRow rows u) (λ u. t.row ≢ u.row) ts (λ u n x h. n (same_own rows t u (o below) (x (omega arith)) h)) d a,
  rows_differ rows first next ts end l r a ds,
)
rows_differ rows first next (t ∷ ts) end l (inr (at, r)) (o, a) (d, ds) = (
  All-weaker (λ (u : Tail). (u.row < first) ⊎ (next + 1 ≤ u.row)) (λ u. t.row ≢ u.row) (λ u x h. elim x [ inl b ↦ absurd (omega arith) | inr b ↦ absurd (omega arith) ]) ts (rows_from first (next + 1) ts end r),
  rows_differ rows first (next + 1) ts end (omega arith) r a ds,
)
