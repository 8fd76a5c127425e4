-- The header's fields, as `to_le_bytes` tells their bytes.
use Rattle.std.proofs.Common.{◌≡◌, ℕ, ◌/◌, ◌%◌, List, [], ◌∷◌, sym}
use native.Mathlib.Nat.{div-div-eq-div-mul}
use Rattle.model.specs.Bytes.{digits}
use Rattle.encoding.proofs.Widths.{eight_bytes, eight_digits}

abbrev pub four_bytes : ℕ → List ℕ
four_bytes v = (v % 256) ∷ (v / 256 % 256) ∷ (v / 65536 % 256) ∷ (v / 16777216 % 256) ∷ []

pub count_bytes : (v : ℕ) → digits 4 v ≡ four_bytes v
unfolding digits
count_bytes v = simp div-div-eq-div-mul

pub place_bytes : (v : ℕ) → digits 8 v ≡ eight_bytes v
place_bytes v = sym (eight_digits v)
