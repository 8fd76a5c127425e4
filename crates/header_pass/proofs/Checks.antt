-- A comparison of two rows.
use Rattle.std.proofs.Common.{◌≡◌, ℕ, Bool, List, Decides, refl, rules}
use Rattle.std.proofs.lemmas.Slice.Eq.{IsBytesEq, compares_Decides}
use Rattle.model.specs.Bytes.{same_row}

row_compares : IsBytesEq same_row
unfolding same_row
row_compares = record { empty = refl; shorter = λ y ys. refl; longer = λ x xs. refl; heads = λ x y xs ys. refl }

-- what a comparison of two rows decides is what `same_row` says
pub row_decided : (xs ys : List ℕ) (r : Bool) → Decides r (xs ≡ ys) → r ≡ same_row xs ys
row_decided xs ys r d = let e = compares_Decides same_row row_compares xs ys in search rules
