-- The rows of a draft's lists, after a step.
use Rattle.std.proofs.Common.{◌≡◌, ℕ, ◌+◌, ◌<◌, ◌≤◌, true, false, cond, ◌||◌, eqb, List, [], ◌∷◌, ◌++◌, length, Bool, slice_get, Some, None, Option, refl, ap, sym, ◌∙◌, inl, inr, arith}
use Rattle.std.specs.List.{AllByRecursion}
use Rattle.std.proofs.lemmas.Bool.{cases_Bool}
use Rattle.std.proofs.lemmas.Bool.Decides.{nat_tests}
use Rattle.std.proofs.ByRecursion.{All-append, All-weaker}
use Rattle.model.specs.Section.{Section}
use Rattle.model.specs.Layouts.{Add, Layout, member}
use Rattle.commits.specs.Parts.{Part}
use Rattle.pieces.specs.declared.piece.Piece.{Piece}
use Rattle.tables.specs.declared.room.Row.{Row}
use Rattle.writing.specs.declared.tails.Tail.{Tail}
use Rattle.drafts.specs.declared.layout.DraftLayout.{DraftLayout}
use Rattle.drafts.specs.declared.step.Step.{Step}
use Rattle.drafts.specs.Lays.{Holds}
use Rattle.drafts.specs.Steps.{maybe, first_piece}
use Rattle.drafts.specs.Plans.{Plans, Makes, Spills}
use Rattle.drafts.specs.Rowed.{OwnRow, RowsFrom, row_in, Rowed, RowFor}
use Rattle.drafts.specs.Looked.{put_tail, put_made}
use Rattle.drafts.proofs.Tails.{ids_of, lists_of, member_touch, put_ids}
use Rattle.drafts.proofs.Taken.{after}

row_put : (t : Tail) (ts : List Tail) (id : ℕ) → row_in (put_tail t ts) id ≡ cond (eqb t.list id) (Some t.row) (row_in ts id)
row_put t [] id = refl
row_put t (u ∷ ts) id = elim (cases_Bool (eqb u.list t.list)) [
  | inl e ↦ elim (cases_Bool (eqb t.list id)) [
    | inl g ↦ rw (e, g) refl
    | inr g ↦ let h : eqb u.list id ≡ false = grind (arith, nat_tests) in rw (e, g, h) refl
  ]
  | inr e ↦
      let ih = row_put t ts id in
      elim (cases_Bool (eqb u.list id)) [
        | inl g ↦ let h : eqb t.list id ≡ false = grind (arith, nat_tests) in rw (e, g, h) refl
        | inr g ↦ rw (e, g) ih
      ]
]

pub row_none : (ts : List Tail) (id : ℕ) → member id (lists_of ts) ≡ false → row_in ts id ≡ None
row_none [] id m = refl
row_none (t ∷ ts) id m = elim (cases_Bool (eqb t.list id)) [
  | inl e ↦ absurd (grind (arith, nat_tests))
  | inr e ↦ rw e (row_none ts id (rw e at m))
]

all_put : (P : Tail → Type 0) (t : Tail) (ts : List Tail) → P t → AllByRecursion P ts → AllByRecursion P (put_tail t ts)
all_put P t [] p a = (p, tt)
all_put P t (u ∷ ts) p (b, a) = elim (cases_Bool (eqb u.list t.list)) [
  | inl e ↦ rw e (p, a)
  | inr e ↦ rw e (b, all_put P t ts p a)
]

-- a list that is touched has the row of its tail
own_at : (rows : List Row) (t : Tail) (ts : List Tail) → row_in ts t.list ≡ Some t.row → AllByRecursion (λ u. u.row < length rows → OwnRow rows u) ts → t.row < length rows → OwnRow rows t
own_at rows t [] e a l = absurd cc
own_at rows t (u ∷ ts) e (o, a) l = elim (cases_Bool (eqb u.list t.list)) [
  | inl g ↦
      let same : u.row ≡ t.row = let x = rw g at e in cc in
      let id : u.list ≡ t.list = grind (arith, nat_tests) in
      let w = o (omega arith) in
      record { row = w.row; there = ap (slice_get rows) (sym same) ∙ w.there; own = w.own ∙ id }
  | inr g ↦ own_at rows t ts (rw g at e) a l
]

pub rows_up : (first next : ℕ) (ts : List Tail) (end : ℕ) → RowsFrom first next ts end → next ≤ end
rows_up first next [] end e = omega arith
rows_up first next (t ∷ ts) end (inl (l, r)) = rows_up first next ts end r
rows_up first next (t ∷ ts) end (inr (l, r)) = let ih = rows_up first (next + 1) ts end r in omega arith

-- a tail in place of another of the same list and row
rows_same : (first next : ℕ) (t : Tail) (ts : List Tail) (end : ℕ) → row_in ts t.list ≡ Some t.row → RowsFrom first next ts end → RowsFrom first next (put_tail t ts) end
rows_same first next t [] end e r = absurd cc
rows_same first next t (u ∷ ts) end e r = elim (cases_Bool (eqb u.list t.list)) [
  | inl g ↦
      let same : t.row ≡ u.row = let x = rw g at e in cc in
      rw (g, same) r
  | inr g ↦ rw g (elim r [
    | inl (l, q) ↦ inl (l, rows_same first next t ts end (rw g at e) q)
    | inr (l, q) ↦ inr (l, rows_same first (next + 1) t ts end (rw g at e) q)
  ])
]

-- one more behind all, of a list that was there, and of one that was made
rows_old : (first next : ℕ) (t : Tail) (ts : List Tail) (end : ℕ) → row_in ts t.list ≡ None → t.row < first → RowsFrom first next ts end → RowsFrom first next (put_tail t ts) end
rows_old first next t [] end e l r = inl (l, r)
rows_old first next t (u ∷ ts) end e l r = elim (cases_Bool (eqb u.list t.list)) [
  | inl g ↦ absurd (let x = rw g at e in cc)
  | inr g ↦ rw g (elim r [
    | inl (a, q) ↦ inl (a, rows_old first next t ts end (rw g at e) l q)
    | inr (a, q) ↦ inr (a, rows_old first (next + 1) t ts end (rw g at e) l q)
  ])
]

rows_new : (first next : ℕ) (t : Tail) (ts : List Tail) (end : ℕ) → row_in ts t.list ≡ None → t.row ≡ end → RowsFrom first next ts end → RowsFrom first next (put_tail t ts) (end + 1)
rows_new first next t [] end e l r = inr (l ∙ sym r, ap (λ k. k + 1) r)
rows_new first next t (u ∷ ts) end e l r = elim (cases_Bool (eqb u.list t.list)) [
  | inl g ↦ absurd (let x = rw g at e in cc)
  | inr g ↦ rw g (elim r [
    | inl (a, q) ↦ inl (a, rows_new first next t ts end (rw g at e) l q)
    | inr (a, q) ↦ inr (a, rows_new first (next + 1) t ts end (rw g at e) l q)
  ])
]

-- rows that tails have stay theirs
abbrev Keeps : List Tail → List Tail → Type 0
Keeps ts us = (id r : ℕ) → row_in ts id ≡ Some r → row_in us id ≡ Some r

-- what is told of the touched lists' rows
record Rows (rows : List Row) (ts us : List Tail) (end : ℕ) : Type 0 where
  own : AllByRecursion (λ u. u.row < length rows → OwnRow rows u) us
  made : RowsFrom (length rows) (length rows) us end
  keeps : Keeps ts us

row_for_same : (rows : List Row) (ts : List Tail) (t u : Tail) → t.list ≡ u.list → t.row ≡ u.row → RowFor rows ts u → RowFor rows ts t
row_for_same rows ts t u a b (inl x) = inl (rw (a, b) x)
row_for_same rows ts t u a b (inr (x, l, o)) = inr (rw a x, rw b l, record { row = o.row; there = ap (slice_get rows) b ∙ o.there; own = o.own ∙ sym a })

-- the list itself is touched
rows_touched : (rows : List Row) (ts : List Tail) (t : Tail) (end : ℕ) → RowFor rows ts t → AllByRecursion (λ u. u.row < length rows → OwnRow rows u) ts
    → RowsFrom (length rows) (length rows) ts end → Rows rows ts (put_tail t ts) end
rows_touched rows ts t end (inl x) own made = record {
  own = all_put (λ u. u.row < length rows → OwnRow rows u) t ts (own_at rows t ts x own) own;
  made = rows_same (length rows) (length rows) t ts end x made;
  keeps = λ id r e. row_put t ts id ∙ elim (cases_Bool (eqb t.list id)) [
    | inl g ↦ let f : t.list ≡ id = grind (arith, nat_tests) in rw g (sym x ∙ ap (row_in ts) f ∙ e)
    | inr g ↦ rw g e
  ];
}
rows_touched rows ts t end (inr (x, l, o)) own made = record {
  own = all_put (λ u. u.row < length rows → OwnRow rows u) t ts (λ z. o) own;
  made = rows_old (length rows) (length rows) t ts end x l made;
  keeps = λ id r e. row_put t ts id ∙ elim (cases_Bool (eqb t.list id)) [
    | inl g ↦ let f : t.list ≡ id = grind (arith, nat_tests) in absurd (let z = sym x ∙ ap (row_in ts) f ∙ e in cc)
    | inr g ↦ rw g e
  ];
}

-- the list that is made, if one is, and its fragment
rows_made : (rows : List Row) (ts : List Tail) (highest lists : ℕ) (p : Step) → ((id : ℕ) → member id (lists_of ts) ≡ true → id ≤ highest)
    → AllByRecursion (λ u. u.row < length rows → OwnRow rows u) ts → RowsFrom (length rows) (length rows) ts lists → (made : Option Tail) → Makes highest lists p made
    → Rows rows ts (put_made made ts) p.lists × AllByRecursion (λ q. row_in (put_made made ts) q.list ≡ Some q.row) (maybe (first_piece made))
rows_made rows ts highest lists p low own made None (h, l) = (record { own = own; made = rw l made; keeps = λ id r e. e }, tt)
rows_made rows ts highest lists p low own made (Some m) (i, r, h, l) =
    let new : member m.list (lists_of ts) ≡ false = elim (cases_Bool (member m.list (lists_of ts))) [ inl x ↦ (let b = low m.list x in absurd (omega arith)) | inr x ↦ x ] in
    let none = row_none ts m.list new in
    let up = rows_up (length rows) (length rows) ts lists made in
    let same : eqb m.list m.list ≡ true = grind (arith, nat_tests) in (
      record {
        own = all_put (λ u. u.row < length rows → OwnRow rows u) m ts (λ z. absurd (omega arith)) own;
        made = rw l (rows_new (length rows) (length rows) m ts lists none r made);
        keeps = λ id k e. row_put m ts id ∙ elim (cases_Bool (eqb m.list id)) [
          | inl g ↦ let f : m.list ≡ id = grind (arith, nat_tests) in absurd (let z = sym none ∙ ap (row_in ts) f ∙ e in cc)
          | inr g ↦ rw g e
        ];
      },
      (row_put m ts m.list ∙ rw same refl, tt),
    )

spilt_row : (us : List Tail) (t : Tail) (q : Option Piece) → Spills t q → row_in us t.list ≡ Some t.row → AllByRecursion (λ q. row_in us q.list ≡ Some q.row) (maybe q)
spilt_row us t None h e = tt
spilt_row us t (Some q) (a, b) e = (rw (a, b) e, tt)

or_left : (x e : Bool) → e ≡ false → (x || e) ≡ true → x ≡ true
or_left true e f g = refl
or_left false e f g = sym f ∙ g

pub rowed_after : (rows : List Row) (s : Section) (y : Layout) (ps : List Part) (d : DraftLayout) (a : Add) (p : Step) → Holds s y ps d → Plans y a p
    → Rowed rows d → RowFor rows d.touched p.before → Rowed rows (after d p)
rowed_after rows s y ps d a p h w r f =
    let t : Tail = p.tail in
    let us : List Tail = put_tail t d.touched in
    let known : member t.list (ids_of y.tails) ≡ true = rw w.list w.known in
    let x = rows_touched rows d.touched t d.lists (row_for_same rows d.touched t p.before w.same w.row f) r.own r.made in
    let made : RowsFrom (length rows) (length rows) us y.lists = rw (sym h.lists) x.made in
    let low : (id : ℕ) → member id (lists_of us) ≡ true → id ≤ y.highest
    = λ id m.
    let e : (member id (lists_of d.touched) || eqb t.list id) ≡ true = sym (ap (member id) (put_ids t d.touched) ∙ member_touch id t.list (lists_of d.touched)) ∙ m in
    elim (cases_Bool (eqb t.list id)) [
      | inl g ↦ let b = h.below t.list known in let i : t.list ≡ id = grind (arith, nat_tests) in omega arith
      | inr g ↦
          let x1 : member id (lists_of d.touched) ≡ true = or_left (member id (lists_of d.touched)) (eqb t.list id) g e in
          let x2 : member id y.touched ≡ true = sym (ap (member id) h.touched) ∙ x1 in
          h.below id (h.known id ∙ rw x2 refl)
    ] in
    let (z, first) = rows_made rows us y.highest y.lists p low x.own made p.made w.makes in
    let vs : List Tail = put_made p.made us in
    let same : eqb t.list t.list ≡ true = grind (arith, nat_tests) in
    let own : row_in us t.list ≡ Some t.row = row_put t d.touched t.list ∙ rw same refl in
    let P : Piece → Type 0 = λ q. row_in vs q.list ≡ Some q.row in
    let old : AllByRecursion P d.added = All-weaker (λ (q : Piece). row_in d.touched q.list ≡ Some q.row) P (λ q e. z.keeps q.list q.row (x.keeps q.list q.row e)) d.added r.pieces in
    let new : AllByRecursion P (maybe p.made_piece) = rw w.first first in
    record {
      own = z.own;
      made = z.made;
      pieces = All-append P (d.added ++ maybe p.made_piece) (maybe p.piece) (All-append P d.added (maybe p.made_piece) old new) (spilt_row vs t p.piece w.spills (z.keeps t.list t.row own));
    }
