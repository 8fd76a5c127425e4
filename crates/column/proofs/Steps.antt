-- One digit more, from the right, in a column that holds spaces in front.
use Rattle.std.proofs.Common.{◌≡◌, ℕ, zero, suc, ◌+◌, ◌-◌, ◌/◌, ◌%◌, ◌^◌, ◌<◌, ◌≤◌, List, [], ◌∷◌, ◌++◌, length, take, drop, set, replicate, sym, ap, ◌∙◌, append_assoc, append-nil, arith, length-append}
use native.Mathlib.Nat.{pow-succ'}
use Rattle.std.proofs.lemmas.List.{take-replicate, take-take, set_split, take_at, drop_at, length-replicate}
use Rattle.column.specs.Column.{digits, in_column}
use Rattle.column.proofs.Digits.{digits_one, digits_more}

-- what the column is to hold, where the digits of n go in front of `end`
abbrev pub filled : List ℕ → ℕ → ℕ → List ℕ
filled xs n end = replicate (end - length (digits n)) 32 ++ (digits n ++ drop end xs)

-- in a column of spaces
pub filled_all : (n : ℕ) → filled (replicate 12 32) n 12 ≡ in_column n
unfolding in_column
filled_all n = ap (λ t. replicate (12 - length (digits n)) 32 ++ t) (append-nil (digits n))

-- a number without its last digit takes one place less
pub fewer : (n end : ℕ) → 0 < end → n < 10 ^ end → n / 10 < 10 ^ (end - 1)
fewer n zero p h = absurd (omega arith)
fewer n (suc k) p h =
    let e : suc k - 1 ≡ k = omega arith in
    rw e (omega (arith, pow-succ' 10 k))

-- spaces stand in front of `end`
module _ (xs : List ℕ) (end : ℕ) (some : 0 < end) (within : end ≤ length xs) (blank : take end xs ≡ replicate end 32) where
  last_set : (v : ℕ) → set xs (end - 1) v ≡ replicate (end - 1) 32 ++ (v ∷ drop end xs)
  last_set v =
      let e : suc (end - 1) ≡ end = omega arith in
      let front : take (end - 1) xs ≡ replicate (end - 1) 32
      = sym (take-take (end - 1) end xs (omega arith)) ∙ ap (take (end - 1)) blank ∙ take-replicate (end - 1) end 32 (omega arith) in
      set_split xs (end - 1) v (omega arith) ∙ ap (λ k. take (end - 1) xs ++ v ∷ drop k xs) e ∙ ap (λ t. t ++ v ∷ drop end xs) front

  -- the digit is the first
  pub first_digit : (n : ℕ) → n < 10 → set xs (end - 1) (48 + n % 10) ≡ filled xs n end
  first_digit n h =
      let e : n % 10 ≡ n = omega arith in
      last_set (48 + n % 10) ∙ rw (digits_one n h, e)

  -- the others stand before it
  pub digit_more : (n : ℕ) → 10 ≤ n → filled (set xs (end - 1) (48 + n % 10)) (n / 10) (end - 1) ≡ filled xs n end
  digit_more n h =
      let v = 48 + n % 10 in
      let ds = digits (n / 10) in
      let behind : drop (end - 1) (set xs (end - 1) v) ≡ v ∷ drop end xs
      = ap (drop (end - 1)) (last_set v) ∙ drop_at (replicate (end - 1) 32) _ (end - 1) (length-replicate (end - 1) 32) in
      let places : end - 1 - length ds ≡ end - length (digits n) = omega (arith, ap length (digits_more n h), length-append ds (v ∷ [])) in
      rw (behind, places, digits_more n h, append_assoc)

  pub blank_less : (v : ℕ) → take (end - 1) (set xs (end - 1) v) ≡ replicate (end - 1) 32
  blank_less v = ap (take (end - 1)) (last_set v) ∙ take_at (replicate (end - 1) 32) _ (end - 1) (length-replicate (end - 1) 32)
