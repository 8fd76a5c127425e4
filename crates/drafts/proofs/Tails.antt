-- Tails by the IDs of their lists: in a layout, and among those that a draft touched.
use Rattle.std.proofs.Common.{◌≡◌, ℕ, ◌+◌, ◌≤◌, true, false, cond, not, ◌||◌, eqb, List, [], ◌∷◌, ◌++◌, map, length, set, suc, ltb, Bool, is_some, Some, None, Option, sym, refl, ap, ◌∙◌, inl, inr, arith}
use Rattle.std.specs.List.{position, position_or_len}
use Rattle.std.proofs.lemmas.Bool.{cases_Bool}
use Rattle.std.proofs.lemmas.Bool.Decides.{nat_tests}
use Rattle.std.proofs.lemmas.List.{length-append}
use Rattle.model.specs.Layouts.{Tail, member, touch, find_tail, with_tail}
use Rattle.writing.specs.declared.tails.Tail.{Tail as CodeTail}
use Rattle.writing.specs.Tails.{as_tail}
use Rattle.drafts.specs.Lays.{tail_in}
use Rattle.drafts.specs.Steps.{one}
use Rattle.drafts.specs.Looked.{tail_for, put_tail}

-- IDs --------------------------------------------------------------------------------------------------------------------

pub member_append : (id x : ℕ) (ids : List ℕ) → member id (ids ++ (x ∷ [])) ≡ (member id ids || eqb x id)
member_append id x [] = grind (arith, nat_tests)
member_append id x (y ∷ ids) = let ih = member_append id x ids in grind (arith, nat_tests)

pub member_touch : (id x : ℕ) (ids : List ℕ) → member id (touch x ids) ≡ (member id ids || eqb x id)
member_touch id x ids = elim (cases_Bool (member x ids)) [
  | inl e ↦ elim (cases_Bool (eqb x id)) [
    | inl f ↦ let g : x ≡ id = grind (arith, nat_tests) in let h : member id ids ≡ true = rw g at e in grind (arith, nat_tests)
    | inr f ↦ grind (arith, nat_tests)
  ]
  | inr e ↦ rw e (member_append id x ids)
]

pub length_touch : (x : ℕ) (ids : List ℕ) → length (touch x ids) ≡ length ids + one (not (member x ids))
length_touch x ids = elim (cases_Bool (member x ids)) [
  | inl e ↦ rw e (omega arith)
  | inr e ↦ rw e (length-append ids (x ∷ []))
]

pub touch_again : (x : ℕ) (ids : List ℕ) → member x ids ≡ true → touch x ids ≡ ids
touch_again x ids m = rw m refl

-- a layout's tails ---------------------------------------------------------------------------------------------------------

abbrev pub ids_of : List Tail → List ℕ
ids_of ts = map (λ t. t.id) ts

pub member_with : (t : Tail) (ts : List Tail) (id : ℕ) → member id (ids_of (with_tail t ts)) ≡ member id (ids_of ts)
member_with t [] id = refl
member_with t (u ∷ ts) id = let ih = member_with t ts id in elim (cases_Bool (eqb u.id t.id)) [
  | inl e ↦ let f : u.id ≡ t.id = grind (arith, nat_tests) in rw (e, ih, f) refl
  | inr e ↦ rw (e, ih) refl
]

-- another list's tail stays
others : (t : Tail) (ts : List Tail) (id : ℕ) → eqb t.id id ≡ false → find_tail (with_tail t ts) id ≡ find_tail ts id
unfolding find_tail
others t [] id f = refl
others t (u ∷ ts) id f = let ih = others t ts id f in elim (cases_Bool (eqb u.id t.id)) [
  | inl e ↦ let g : eqb u.id id ≡ false = grind (arith, nat_tests) in rw (e, f, g) ih
  | inr e ↦ rw (e, ih) refl
]

pub find_with : (t : Tail) (ts : List Tail) (id : ℕ) → member t.id (ids_of ts) ≡ true → find_tail (with_tail t ts) id ≡ cond (eqb t.id id) t (find_tail ts id)
unfolding find_tail
find_with t [] id m = absurd (grind arith)
find_with t (u ∷ ts) id m = elim (cases_Bool (eqb u.id t.id)) [
  | inl e ↦
      let f : u.id ≡ t.id = grind (arith, nat_tests) in
      elim (cases_Bool (eqb t.id id)) [
        | inl g ↦ rw (e, g) refl
        | inr g ↦ let h : eqb u.id id ≡ false = rw f g in rw (e, g, h) (others t ts id g)
      ]
  | inr e ↦
      let ih = find_with t ts id (rw e at m) in
      elim (cases_Bool (eqb u.id id)) [
        | inl g ↦ let h : eqb t.id id ≡ false = grind (arith, nat_tests) in rw (e, g, h) refl
        | inr g ↦ rw (e, g) ih
      ]
]

pub member_more : (m : Tail) (ts : List Tail) (id : ℕ) → member id (ids_of (ts ++ (m ∷ []))) ≡ (member id (ids_of ts) || eqb m.id id)
member_more m [] id = grind (arith, nat_tests)
member_more m (t ∷ ts) id = let ih = member_more m ts id in grind (arith, nat_tests)

pub find_more : (m : Tail) (ts : List Tail) (id : ℕ) → member m.id (ids_of ts) ≡ false → find_tail (ts ++ (m ∷ [])) id ≡ cond (eqb m.id id) m (find_tail ts id)
unfolding find_tail
find_more m [] id f = refl
find_more m (t ∷ ts) id f =
    let n : eqb t.id m.id ≡ false = grind (arith, nat_tests) in
    let ih = find_more m ts id (rw n at f) in
    elim (cases_Bool (eqb t.id id)) [
      | inl e ↦ let g : eqb m.id id ≡ false = grind (arith, nat_tests) in rw (e, g) refl
      | inr e ↦ rw e ih
    ]

-- the tails of a draft -----------------------------------------------------------------------------------------------------

abbrev pub lists_of : List CodeTail → List ℕ
lists_of ts = map (λ t. t.list) ts

pub put_ids : (t : CodeTail) (ts : List CodeTail) → lists_of (put_tail t ts) ≡ touch t.list (lists_of ts)
put_ids t [] = refl
put_ids t (u ∷ ts) = elim (cases_Bool (eqb u.list t.list)) [
  | inl e ↦ let f : t.list ≡ u.list = grind (arith, nat_tests) in rw e (ap (λ x. x ∷ lists_of ts) f)
  | inr e ↦ let ih = put_ids t ts in elim (cases_Bool (member t.list (lists_of ts))) [
    | inl m ↦ rw (e, m) (ap (λ xs. u.list ∷ xs) (rw m at ih))
    | inr m ↦ rw (e, m) (ap (λ xs. u.list ∷ xs) (rw m at ih))
  ]
]

pub put_in : (t : CodeTail) (ts : List CodeTail) (base : List Tail) (id : ℕ) → tail_in (put_tail t ts) base id ≡ cond (eqb t.list id) (as_tail t) (tail_in ts base id)
put_in t [] base id = refl
put_in t (u ∷ ts) base id = elim (cases_Bool (eqb u.list t.list)) [
  | inl e ↦ elim (cases_Bool (eqb t.list id)) [
    | inl g ↦ rw (e, g) refl
    | inr g ↦ let h : eqb u.list id ≡ false = grind (arith, nat_tests) in rw (e, g, h) refl
  ]
  | inr e ↦
      let ih = put_in t ts base id in
      elim (cases_Bool (eqb u.list id)) [
        | inl g ↦ let h : eqb t.list id ≡ false = grind (arith, nat_tests) in rw (e, g, h) refl
        | inr g ↦ rw (e, g) ih
      ]
]

pub tail_for_member : (id : ℕ) (ts : List CodeTail) → is_some (tail_for id ts) ≡ member id (lists_of ts)
tail_for_member id [] = refl
tail_for_member id (t ∷ ts) = elim (cases_Bool (eqb t.list id)) [
  | inl e ↦ rw e refl
  | inr e ↦ rw e (tail_for_member id ts)
]

-- a touched list's tail is the draft's, and another's the finished one
abbrev pub In : List CodeTail → List Tail → ℕ → Option CodeTail → Type 0
In ts base id None = (member id (lists_of ts) ≡ false) × (tail_in ts base id ≡ find_tail base id)
In ts base id (Some t) = (member id (lists_of ts) ≡ true) × (as_tail t ≡ tail_in ts base id) × (t.list ≡ id)

find_yes : (t : CodeTail) (ts : List CodeTail) (id : ℕ) → eqb t.list id ≡ true → tail_for id (t ∷ ts) ≡ Some t
find_yes t ts id e = rw e refl

find_no : (t : CodeTail) (ts : List CodeTail) (id : ℕ) → eqb t.list id ≡ false → tail_for id (t ∷ ts) ≡ tail_for id ts
find_no t ts id e = rw e refl

in_more : (t : CodeTail) (ts : List CodeTail) (base : List Tail) (id : ℕ) → eqb t.list id ≡ false → (o : Option CodeTail) → In ts base id o → In (t ∷ ts) base id o
in_more t ts base id e None (m, f) = (rw e m, rw e f)
in_more t ts base id e (Some u) (m, f, g) = (rw e m, rw e f, g)

pub tail_for_in : (ts : List CodeTail) (base : List Tail) (id : ℕ) → In ts base id (tail_for id ts)
tail_for_in [] base id = (refl, refl)
tail_for_in (t ∷ ts) base id = elim (cases_Bool (eqb t.list id)) [
  | inl e ↦ let f : t.list ≡ id = grind (arith, nat_tests) in rw (find_yes t ts id e) (rw e refl, rw e refl, f)
  | inr e ↦ rw (find_no t ts id e) (in_more t ts base id e (tail_for id ts) (tail_for_in ts base id))
]

-- put in place of the touched one, or behind all
abbrev first : CodeTail → List CodeTail → ℕ
first t ts = position_or_len (λ u. eqb u.list t.list) ts

put_where : (t : CodeTail) (ts : List CodeTail) → put_tail t ts ≡ cond (ltb (first t ts) (length ts)) (set ts (first t ts) t) (ts ++ (t ∷ []))
put_where t [] = refl
put_where t (u ∷ ts) = elim (cases_Bool (eqb u.list t.list)) [
  | inl e ↦ let h : ltb 0 (suc (length ts)) ≡ true = grind (arith, nat_tests) in rw (e, h) refl
  | inr e ↦
      let ih = put_where t ts in
      let s : set (u ∷ ts) (1 + first t ts) t ≡ u ∷ set ts (first t ts) t = let k : 1 + first t ts ≡ suc (first t ts) = omega arith in rw k refl in
      elim (cases_Bool (ltb (first t ts) (length ts))) [
        | inl g ↦ let h : ltb (1 + first t ts) (suc (length ts)) ≡ true = grind (arith, nat_tests) in rw (e, h, s) (ap (λ us. u ∷ us) (rw g at ih))
        | inr g ↦ let h : ltb (1 + first t ts) (suc (length ts)) ≡ false = grind (arith, nat_tests) in rw (e, h) (ap (λ us. u ∷ us) (rw g at ih))
      ]
]

pub put_at : (t : CodeTail) (ts : List CodeTail) (i : ℕ) → position (λ u. eqb u.list t.list) ts ≡ Some i → set ts i t ≡ put_tail t ts
put_at t ts i e = elim (cases_Bool (ltb (first t ts) (length ts))) [
  | inl g ↦ let f : first t ts ≡ i = let h = rw g at e in cc in rw f at (sym (rw g at (put_where t ts)))
  | inr g ↦ absurd (let h = rw g at e in cc)
]

put_behind : (t : CodeTail) (ts : List CodeTail) → position (λ u. eqb u.list t.list) ts ≡ None → ts ++ (t ∷ []) ≡ put_tail t ts
put_behind t ts e = elim (cases_Bool (ltb (first t ts) (length ts))) [
  | inl g ↦ absurd (let h = rw g at e in cc)
  | inr g ↦ sym (rw g at (put_where t ts))
]

-- there is room, since all tails are few
pub put_pushed : (t : CodeTail) (ts : List CodeTail) → position (λ u. eqb u.list t.list) ts ≡ None → length (put_tail t ts) ≤ 16
    → (b : Bool) (us : List CodeTail) → b ≡ ltb (length ts) 16 → us ≡ cond b (ts ++ (t ∷ [])) ts → us ≡ put_tail t ts
put_pushed t ts e few true us f g = g ∙ put_behind t ts e
put_pushed t ts e few false us f g =
    let n : length (put_tail t ts) ≡ length ts + 1 = ap length (sym (put_behind t ts e)) ∙ length-append ts (t ∷ []) in
    absurd (grind (arith, nat_tests))
