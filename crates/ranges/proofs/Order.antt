-- Ranges in the order of their starts: which of them a range can meet, and what one more leaves in order.
use Rattle.std.proofs.Common.{◌≡◌, ℕ, zero, suc, ◌+◌, ◌-◌, ◌<◌, ◌≤◌, Bool, true, false, ◌||◌, min, cond, List, [], ◌∷◌, ◌++◌, length, get_or, take, drop, Option, Some, None, Result, Ok, Err, is_ok, OnOk, sym, refl, ap, ◌∙◌, inl, inr, arith}
use Rattle.std.specs.Option.{MatchOption}
use Rattle.std.specs.List.{All, AllWithin, AllPairs, insert, list_any}
use Rattle.std.specs.List.Sorted.{IsNonDecreasingBy, IsPartitionPoint}
use Rattle.std.specs.Slice.{IsGetResult}
use Rattle.std.proofs.lemmas.List.{take-append-drop, get_or_default}
use Rattle.std.proofs.lemmas.List.Elements.{All-tail, All-drop}
use Rattle.std.proofs.lemmas.List.Folds.{list_any_none}
use Rattle.std.proofs.lemmas.Bool.{cases_lt, cases_Bool}
use Rattle.std.proofs.lemmas.Bool.Decides.{nat_tests}
use denote.Ref.{Bor}
use Rattle.model.specs.declared.types.Span.{Span}
use Rattle.model.specs.References.{span, end_of, share, meets}
use Rattle.bounded.proofs.Places.{All-front, All-back, All-insert, AllPairs-take, AllPairs-drop, AllPairs-insert}
use Rattle.ranges.specs.Ordered.{Adds}

pub meets_append : (r : Span) (xs ys : List Span) → meets r (xs ++ ys) ≡ (meets r xs || meets r ys)
meets_append r [] ys = refl
meets_append r (x ∷ xs) ys = let ih = meets_append r xs ys in grind (arith, nat_tests)

meets_any : (r : Span) (ss : List Span) → meets r ss ≡ list_any (share r) ss
meets_any r [] = refl
meets_any r (s ∷ ss) = ap (λ b. share r s || b) (meets_any r ss)

meets_none : (r : Span) (ss : List Span) → All (λ s. share r s ≡ false) ss → meets r ss ≡ false
meets_none r ss none = meets_any r ss ∙ list_any_none (share r) ss none

unmet : (r : Span) (ss : List Span) → meets r ss ≡ false → All (λ s. share r s ≡ false) ss
unmet r [] none k d l = absurd (omega arith)
unmet r (s ∷ ss) none zero d l = grind (arith, nat_tests)
unmet r (s ∷ ss) none (suc k) d l = unmet r ss (grind (arith, nat_tests)) k d (omega arith)

-- one more between others
pub adds_inserted : (ss : List Span) (i : ℕ) (s : Span) → Adds ss s (insert ss i s)
adds_inserted ss i s r =
    let whole : meets r ss ≡ (meets r (take i ss) || meets r (drop i ss))
    = ap (meets r) (sym (take-append-drop i ss)) ∙ meets_append r (take i ss) (drop i ss) in
    let more = meets_append r (take i ss) (s ∷ drop i ss) in
    grind (arith, nat_tests)

abbrev pub Apart : List Span → Type 0
Apart ss = AllPairs (λ s t. end_of s ≤ t.start) ss

-- of ranges that start before another, only the last can meet it
last_meets : (r : Span) (ss : List Span) → Apart ss → All (λ s. s.start < r.start) ss → meets r ss ≡ share r (get_or ss (length ss - 1) (span 0 0))
last_meets r [] apart low = grind (arith, nat_tests)
last_meets r (s ∷ []) apart low = grind (arith, nat_tests)
last_meets r (s ∷ (t ∷ ss)) apart low =
    let ih : meets r (t ∷ ss) ≡ share r (get_or (t ∷ ss) (suc (length ss) - 1) (span 0 0))
    = last_meets r (t ∷ ss) (λ j k d h l. apart (suc j) (suc k) d (omega arith) (omega arith)) (All-tail (λ q. q.start < r.start) s (t ∷ ss) low) in
    let gap : end_of s ≤ t.start = apart 0 1 s (omega arith) (omega arith) in
    let below : t.start < r.start = low 1 s (omega arith) in
    let none : share r s ≡ false = grind (arith, nat_tests) in
    let here : suc (suc (length ss)) - 1 ≡ suc (length ss) = omega arith in
    let next : suc (length ss) - 1 ≡ length ss = omega arith in
    rw (none, here) (rw next at ih)

-- where the first of ranges that do not is not met, none is
rest_unmet : (r s : Span) (ss : List Span) → 0 < s.size → Apart (s ∷ ss) → r.start ≤ s.start → share r s ≡ false → All (λ t. share r t ≡ false) ss
rest_unmet r s ss some apart high e k d l = let gap : end_of s ≤ (get_or ss k d).start = apart 0 (suc k) d (omega arith) (omega arith) in grind (arith, nat_tests)

-- so only the first can meet it
first_meets : (r : Span) (ss : List Span) → All (λ s. 0 < s.size) ss → Apart ss → All (λ s. r.start ≤ s.start) ss → meets r ss ≡ share r (get_or ss 0 (span 0 0))
first_meets r [] some apart high = grind (arith, nat_tests)
first_meets r (s ∷ ss) some apart high = elim (cases_Bool (share r s)) [
  | inl e ↦ grind (arith, nat_tests)
  | inr e ↦ let rest = meets_none r ss (rest_unmet r s ss (some 0 s (omega arith)) apart (high 0 s (omega arith)) e) in grind (arith, nat_tests)
]

-- whether there is one that shares a byte: past the end there is none
pub shares_there : (r : Span) (ss : List Span) (i : ℕ) (o : Option (Bor Span)) (b : Bool) → IsGetResult ss 0 i o → MatchOption o (b ≡ false) (λ s. b ≡ share r s.now) → b ≡ share r (get_or ss i (span 0 0))
shares_there r ss i None b there e = let at = there.4 (omega arith) (span 0 0) in rw (← at) (grind (arith, nat_tests))
shares_there r ss i (Some s) b there e = let at = there.4 (omega arith) (span 0 0) in rw (← at) e

module _ (ss : List Span) (some : All (λ s. 0 < s.size) ss) (apart : Apart ss) where
  rising : IsNonDecreasingBy (λ s. s.start) ss
  rising i j d h l = elim (cases_lt i j) [
    | inl b ↦ omega (arith, apart i j d b l)
    | inr b ↦ let e : i ≡ j = omega arith in rw e (omega arith)
  ]

  -- where one starts below a place, so do all up to it
  pub low_to : (start m : ℕ) (d : Span) → m < length ss → (get_or ss m d).start < start → AllWithin (λ s. s.start < start) ss 0 (m + 1)
  low_to start m d within below k e h l = omega (arith, rising k m e (omega arith) within, ap (λ s. s.start) (get_or_default ss m d e within))

  -- where one does not, neither does any from it on
  pub high_from : (start m : ℕ) (d : Span) → m < length ss → start ≤ (get_or ss m d).start → AllWithin (λ s. start ≤ s.start) ss m (length ss)
  high_from start m d within above k e h l = omega (arith, rising m k e h l, ap (λ s. s.start) (get_or_default ss m d e within))

  -- only the two beside its place can meet a range
  module _ (r : Span) (i : ℕ) (place : IsPartitionPoint (λ s. s.start < r.start) (λ s. r.start ≤ s.start) ss i)
      (front back : List Span) (is_front : front ≡ take i ss) (is_back : back ≡ drop i ss)
      (o : Option (Bor Span)) (last : IsGetResult front 0 (length front - 1) o) (a : Bool) (a_is : MatchOption o (a ≡ false) (λ s. a ≡ share r s.now)) where
    front_meets : meets r (take i ss) ≡ a
    front_meets =
        last_meets r (take i ss) (AllPairs-take (λ s t. end_of s ≤ t.start) ss i apart) (All-front (λ s. s.start < r.start) ss i place.0)
        ∙ sym (shares_there r (take i ss) _ o a (rw is_front at last) a_is)

    both : meets r ss ≡ (a || meets r (drop i ss))
    both = ap (meets r) (sym (take-append-drop i ss)) ∙ meets_append r (take i ss) (drop i ss) ∙ ap (λ b. b || meets r (drop i ss)) front_meets

    pub meets_front : a ≡ true → a ≡ meets r ss
    meets_front e = let w = both in grind (arith, nat_tests)

    pub meets_back : a ≡ false → (p : Option (Bor Span)) → IsGetResult back 0 0 p → (b : Bool) → MatchOption p (b ≡ false) (λ s. b ≡ share r s.now) → b ≡ meets r ss
    meets_back e p first b b_is =
        let w = both in
        let high = All-back (λ s. r.start ≤ s.start) ss i place.1 in
        let back_meets = first_meets r (drop i ss) (All-drop (λ s. 0 < s.size) i ss some) (AllPairs-drop (λ s t. end_of s ≤ t.start) ss i apart) high in
        let there = shares_there r (drop i ss) 0 p b (rw is_back at first) b_is in
        grind (arith, nat_tests)

-- one more that meets none stands apart from all
module _ (ss : List Span) (some : All (λ s. 0 < s.size) ss) (apart : Apart ss) (r : Span) (size : 0 < r.size) (none : meets r ss ≡ false) (i : ℕ) (within : i ≤ length ss)
    (place : IsPartitionPoint (λ s. s.start < r.start) (λ s. r.start ≤ s.start) ss i) where
  pub some_more : All (λ s. 0 < s.size) (insert ss i r)
  some_more = All-insert (λ s. 0 < s.size) ss i r size some

  pub apart_more : Apart (insert ss i r)
  apart_more = AllPairs-insert (λ s t. end_of s ≤ t.start) ss i apart r within
      (λ k d h l. let u = unmet r ss none k d (omega arith) in let z = some k d (omega arith) in let b = place.0 k d h l in grind (arith, nat_tests))
      (λ k d h l. let u = unmet r ss none k d l in let z = some k d l in let b = place.1 k d h l in grind (arith, nat_tests))

-- what an insert that had room adds
pub adds_on_ok : {E : Type 0} (o : Result (Unit {0}) E) (ss ts : List Span) (i n : ℕ) (s : Span) → i ≤ n → ts ≡ cond (is_ok o) (insert ss (min i n) s) ss → OnOk o (Adds ss s ts)
adds_on_ok (Ok u) ss ts i n s within e = let m : min i n ≡ i = omega arith in rw (e, m) (adds_inserted ss i s)
adds_on_ok (Err x) ss ts i n s within e = tt
