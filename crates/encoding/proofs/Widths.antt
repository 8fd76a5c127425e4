-- Numbers of other widths: bytes past those of a number are 0, and what passes the width is left out.
use Rattle.std.proofs.Common.{◌≡◌, ℕ, zero, suc, ◌+◌, ◌-◌, ◌*◌, ◌/◌, ◌%◌, ◌^◌, ◌<◌, min, List, [], ◌∷◌, ◌++◌, length, take, replicate, sym, refl, ap, ◌∙◌, mul_assoc, mul_comm, div-lt_iff_lt-mul, pow-suc, arith, rules}
use native.Mathlib.Nat.{div-div-eq-div-mul}
use native.Mathlib.Numerals.{unary_clauses}
use Rattle.std.proofs.lemmas.List.{same_lists, places}
use Rattle.model.specs.Bytes.{digits}
use Rattle.model.specs.Nodes.{node_head}
use Rattle.commits.proofs.Sizes.{length_digits}
use Rattle.encoding.specs.Buffers.{zeros}

digits_none : (n v : ℕ) → v ≡ 0 → digits n v ≡ replicate n 0
unfolding digits
digits_none zero v e = refl
digits_none (suc n) v e = let h : v % 256 ≡ 0 = omega arith in cc (h, digits_none n (v / 256) (omega arith))

-- the lowest n bytes of a number that w bytes hold
pub digits_wide : (w n v : ℕ) → v < 256 ^ w → take n (digits w v) ++ replicate (n - w) 0 ≡ digits n v
unfolding digits
digits_wide zero zero v h = refl
digits_wide zero (suc n) v h = simp unary_clauses (sym (digits_none (suc n) v (omega arith)))
digits_wide (suc w) zero v h = let none : 0 - suc w ≡ 0 = omega arith in rw none
digits_wide (suc w) (suc n) v h =
    let k : v / 256 < 256 ^ w = (div-lt_iff_lt-mul {k = 256} (omega arith)).1 (rw (← pow-suc 256 w) h) in
    simp unary_clauses (ap (λ xs. (v % 256) ∷ xs) (digits_wide w n (v / 256) k))

-- a number's eight bytes, as `to_le_bytes` tells them
abbrev pub eight_bytes : ℕ → List ℕ
eight_bytes v = (v % 256) ∷ (v / 256 % 256) ∷ (v / 65536 % 256) ∷ (v / 16777216 % 256) ∷ (v / 4294967296 % 256) ∷ (v / 1099511627776 % 256) ∷ (v / 281474976710656 % 256) ∷ (v / 72057594037927936 % 256) ∷ []

pub eight_digits : (v : ℕ) → eight_bytes v ≡ digits 8 v
unfolding digits
eight_digits v = simp div-div-eq-div-mul

-- what passes the width
pub digits_low : (n v k : ℕ) → digits n (v + 256 ^ n * k) ≡ digits n v
unfolding digits
digits_low zero v k = refl
digits_low (suc n) v k =
    let y : ℕ = 256 ^ n * k in
    let e : 256 ^ suc n * k ≡ 256 * y = rw (pow-suc, mul_comm (256 ^ n) 256, mul_assoc) in
    let a : (v + 256 ^ suc n * k) % 256 ≡ v % 256 = omega arith in
    let b : (v + 256 ^ suc n * k) / 256 ≡ v / 256 + y = omega arith in
    cc (a, ap (digits n) b, digits_low n (v / 256) k)

-- a number's eight bytes, cut to a width or with zeros behind them
pub digits_split : (v width n m : ℕ) (bytes : List ℕ) → v < 2 ^ 64
    → bytes ≡ eight_bytes v
    → n ≡ min width 8 → m ≡ n → take m bytes ++ zeros (width - n) ≡ digits width v
digits_split v width n m bytes h e a b =
    let l : length (digits 8 v) ≡ 8 = length_digits 8 v in
    let cut : take m (digits 8 v) ≡ take width (digits 8 v) = same_lists _ _ (search (rules, places)) (λ k d g. grind (arith, places)) in
    let left : width - n ≡ width - 8 = omega arith in
    rw (e, eight_digits v, cut, left) (digits_wide 8 width v h)

-- the lowest four bytes of a node's first number
pub head_low : (v id fixed payload base : ℕ) → v ≡ id + 1024 * (fixed + payload % 4194304) + 134217728 * base + 2147483648 → digits 4 v ≡ node_head id (fixed + payload) base
head_low v id fixed payload base h =
    let e : v + 256 ^ 4 * (payload / 4194304) ≡ id + 2 ^ 10 * (fixed + payload) + 2 ^ 27 * base + 2 ^ 31 = omega arith in
    sym (digits_low 4 v (payload / 4194304)) ∙ ap (digits 4) e
