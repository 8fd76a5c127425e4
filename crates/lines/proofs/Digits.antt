-- The digits of a column's definition are those that are printed, and a column is text.
use Rattle.std.proofs.Common.{◌≡◌, ℕ, zero, suc, ◌+◌, ◌-◌, ◌^◌, ◌<◌, ◌≤◌, List, [], ◌∷◌, length, replicate, Some, None, inl, inr, arith, sym, refl}
use Rattle.std.specs.Fmt.{decimal}
use Rattle.std.specs.Str.{IsUtf8}
use Rattle.std.proofs.lemmas.Bool.{cases_lt}
use Rattle.std.proofs.lemmas.Bool.Decides.{nat_tests}
use Rattle.std.proofs.lemmas.Fmt.{AppendsLastDigit, decimal_from_appends, length-decimal-le_succ, IsAscii-decimal}
use Rattle.std.proofs.lemmas.Str.{IsUtf8-nil, IsUtf8-append, IsUtf8-from_ascii}
use Rattle.column.specs.Column.{digits_by, digits, in_column}

appends : AppendsLastDigit digits_by
unfolding digits_by
appends = record { one = λ k n h. grind (arith, nat_tests); more = λ k n h. grind (arith, nat_tests) }

pub digits_printed : (n : ℕ) → n < 2 ^ 64 → decimal n ≡ digits n
unfolding digits
digits_printed n h = sym (decimal_from_appends digits_by appends (n + 1) n h (length-decimal-le_succ n h))

spaces_are_text : (k : ℕ) → IsUtf8 (replicate k 32)
unfolding lib.Utf8.encode
spaces_are_text zero = IsUtf8-nil
spaces_are_text (suc k) = IsUtf8-append (32 ∷ []) (replicate k 32) (32 ∷ [], (refl, refl)) (spaces_are_text k)

in_column_is_text : (n : ℕ) → n < 2 ^ 64 → IsUtf8 (in_column n)
unfolding in_column
in_column_is_text n h =
    let ds : IsUtf8 (digits n) = rw (sym (digits_printed n h)) (IsUtf8-from_ascii (decimal n) (IsAscii-decimal n h)) in
    IsUtf8-append (replicate (12 - length (digits n)) 32) (digits n) (spaces_are_text _) ds

-- whatever bytes a column has, they are text
pub column_is_text : (n : ℕ) (bytes : List ℕ) → n < 2 ^ 64 → (n < 10 ^ 12 → Some bytes ≡ Some (in_column n)) → (10 ^ 12 ≤ n → Some bytes ≡ None)
    → IsUtf8 bytes
column_is_text n bytes h fits wide = elim (cases_lt n (10 ^ 12)) [
  | inl small ↦
      let there = fits small in
      let same : bytes ≡ in_column n = cc in
      rw same (in_column_is_text n h)
  | inr large ↦ let none = wide large in absurd cc
]
