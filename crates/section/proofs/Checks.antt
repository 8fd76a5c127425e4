-- The checks of a commit, by what the code knows.
use Rattle.std.proofs.Common.{◌≡◌, ℕ, ◌+◌, ◌&&◌, eqb, List, [], ◌∷◌, length, refl, ap, ◌∙◌}
use Rattle.std.proofs.lemmas.List.{length-append, length-map}
use Rattle.std.specs.Prelude.{nat_eq}
use Rattle.std.specs.Cmp.Lexicographic.{pointwise}
use Rattle.model.specs.Bytes.{same_row}
use Rattle.model.specs.LogFragments.{entry, sentinel}
use Rattle.writing.specs.declared.tails.Tail.{Tail}
use Rattle.committing.specs.CommitWrites.{counts_of, entries_for}

pub entries_length : (ts : List Tail) → length (entries_for ts) ≡ length ts + 1
entries_length ts =
    length-append (counts_of ts) (sentinel (counts_of ts) ∷ []) ∙ ap (λ n. n + 1) (length-map ts (λ (t : Tail). entry t.list t.count))

-- two rows are compared byte by byte
pub row_test : (xs ys : List ℕ) → pointwise nat_eq xs ys ≡ same_row xs ys
unfolding same_row
row_test [] [] = refl
row_test [] (y ∷ ys) = refl
row_test (x ∷ xs) [] = refl
row_test (x ∷ xs) (y ∷ ys) = ap (λ q. eqb x y && q) (row_test xs ys)
