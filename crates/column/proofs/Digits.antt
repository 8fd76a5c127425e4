-- The rule of the digits.
use Rattle.std.proofs.Common.{◌≡◌, ℕ, zero, suc, ◌+◌, ◌/◌, ◌%◌, ◌<◌, ◌≤◌, [], ◌∷◌, ◌++◌, ap, ◌∙◌, arith}
use Rattle.std.proofs.lemmas.Bool.Decides.{nat_tests}
use Rattle.column.specs.Column.{digits_by, digits}

-- room for more digits than there are changes nothing
enough : (j k n : ℕ) → n < j → n < k → digits_by j n ≡ digits_by k n
unfolding digits_by
enough zero k n h l = absurd (omega arith)
enough (suc j) zero n h l = absurd (omega arith)
enough (suc j) (suc k) n h l =
    let ih : 10 ≤ n → digits_by j (n / 10) ≡ digits_by k (n / 10) = λ t. enough j k (n / 10) (omega arith) (omega arith) in
    grind (arith, nat_tests)

pub digits_one : (n : ℕ) → n < 10 → digits n ≡ (48 + n) ∷ []
unfolding digits digits_by
digits_one n h =
    let e : n + 1 ≡ suc n = omega arith in
    ap (λ k. digits_by k n) e ∙ grind (arith, nat_tests)

pub digits_more : (n : ℕ) → 10 ≤ n → digits n ≡ digits (n / 10) ++ ((48 + n % 10) ∷ [])
unfolding digits digits_by
digits_more n h =
    let e : n + 1 ≡ suc n = omega arith in
    let q : digits_by n (n / 10) ≡ digits_by (n / 10 + 1) (n / 10) = enough n (n / 10 + 1) (n / 10) (omega arith) (omega arith) in
    ap (λ k. digits_by k n) e ∙ grind (arith, nat_tests)
