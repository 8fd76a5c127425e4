-- A number's decimal digits, and a number in its column.
use Rattle.std.specs.Prelude.{◌≡◌, ℕ, zero, suc, ◌+◌, ◌-◌, ◌/◌, ◌%◌, ◌<◌, ◌≤◌, cond, List, [], ◌∷◌, ◌++◌, length, replicate, nat_lt}

-- at most so many digits of n, from the right
unfoldable pub digits_by : ℕ → ℕ → List ℕ
digits_by zero n = []
digits_by (suc most) n = let front = digits_by most (n / 10) in cond (nat_lt n 10) ((48 + n) ∷ []) (front ++ ((48 + n % 10) ∷ []))

-- all of them: n has no more than n + 1 digits
unfoldable pub digits : ℕ → List ℕ
digits n = digits_by (n + 1) n

-- below 10 the digit itself; from 10 up the digits of n / 10, and then n % 10
abbrev pub DigitRule : Type 0
DigitRule = ((n : ℕ) → n < 10 → digits n ≡ (48 + n) ∷ []) × ((n : ℕ) → 10 ≤ n → digits n ≡ digits (n / 10) ++ ((48 + n % 10) ∷ []))

-- the digits at the right of a column of 12, and spaces before them
unfoldable pub in_column : ℕ → List ℕ
in_column n = replicate (12 - length (digits n)) 32 ++ digits n
