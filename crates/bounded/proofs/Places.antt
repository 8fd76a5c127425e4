-- A place in a list: what holds of the values before it and behind it, and what goes on holding with one value more there.
use Rattle.std.proofs.Common.{◌≡◌, ℕ, ◌+◌, ◌-◌, ◌<◌, ◌≤◌, min, Bool, true, false, cond, List, ◌∷◌, length, get_or, take, drop, inl, inr, arith}
use Rattle.std.specs.List.{All, AllPairs, AllWithin, insert}
use Rattle.std.proofs.lemmas.List.{get_or-take, get_or-drop, length-take, length-drop}
use Rattle.std.proofs.lemmas.List.Elements.{All-append, All-cons, All-take, All-drop}
use Rattle.std.proofs.lemmas.List.Edits.{length-insert, get_or-insert_below, get_or-insert_at, get_or-insert_above}
use Rattle.std.proofs.lemmas.Bool.{cases_order}

module _ {X : Type 0} (P : X → Type 0) (xs : List X) (i : ℕ) where
  pub All-front : AllWithin P xs 0 i → All P (take i xs)
  All-front all k d l =
      let n = length-take i xs in
      let b : k < i = omega arith in
      rw (get_or-take i xs k d b) (all k d (omega arith) b)

  pub All-back : AllWithin P xs i (length xs) → All P (drop i xs)
  All-back all k d l = let n = length-drop i xs in rw (get_or-drop i xs k d) (all (i + k) d (omega arith) (omega arith))

  pub All-insert : (y : X) → P y → All P xs → All P (insert xs i y)
  All-insert y p all = All-append P (take i xs) (y ∷ drop i xs) (All-take P i xs all) (All-cons P y (drop i xs) p (All-drop P i xs all))

module _ {X : Type 0} (R : X → X → Type 0) (xs : List X) (i : ℕ) (pairs : AllPairs R xs) where
  pub AllPairs-take : AllPairs R (take i xs)
  AllPairs-take j k d h l =
      let n = length-take i xs in
      let b : k < i = omega arith in
      let a : j < i = omega arith in
      rw (get_or-take i xs j d a, get_or-take i xs k d b) (pairs j k d h (omega arith))

  pub AllPairs-drop : AllPairs R (drop i xs)
  AllPairs-drop j k d h l = let n = length-drop i xs in rw (get_or-drop i xs j d, get_or-drop i xs k d) (pairs (i + j) (i + k) d (omega arith) (omega arith))

  pub AllPairs-insert : (y : X) → i ≤ length xs → AllWithin (λ x. R x y) xs 0 i → AllWithin (R y) xs i (length xs) → AllPairs R (insert xs i y)
  AllPairs-insert y within before behind j k d h l =
      let long = length-insert xs i y within in
      let here = get_or-insert_at xs i y d within in
      let below = λ (m : ℕ) (b : m < i). get_or-insert_below xs i y d m b within in
      let above : (m : ℕ) → i < m → get_or (insert xs i y) m d ≡ get_or xs (m - 1) d
      = λ m b. let e : m - 1 + 1 ≡ m = omega arith in rw e at (get_or-insert_above xs i y d (m - 1) (omega arith) within) in
      elim (cases_order j i) [
        | inl e ↦ rw (e, here, above k (omega arith)) (behind (k - 1) d (omega arith) (omega arith))
        | inr (inl b) ↦ elim (cases_order k i) [
          | inl e ↦ rw (e, here, below j b) (before j d (omega arith) b)
          | inr (inl c) ↦ rw (below j b, below k c) (pairs j k d h (omega arith))
          | inr (inr c) ↦ rw (below j b, above k c) (pairs j (k - 1) d (omega arith) (omega arith))
        ]
        | inr (inr b) ↦ rw (above j b, above k (omega arith)) (pairs (j - 1) (k - 1) d (omega arith) (omega arith))
      ]

-- what holds of a list as it was and with one value more holds after an insert, whether there was room or not
pub after_insert : {X : Type 0} (P : List X → Type 0) (xs : List X) (i n : ℕ) (y : X) → i ≤ n → P xs → P (insert xs i y) → (b : Bool) (ts : List X) → ts ≡ cond b (insert xs (min i n) y) xs → P ts
after_insert P xs i n y within was is true ts e = let m : min i n ≡ i = omega arith in rw (e, m) is
after_insert P xs i n y within was is false ts e = rw e was
