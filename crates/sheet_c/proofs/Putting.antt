-- Lists put to a row's front, one after the other.
use Rattle.std.proofs.Common.{◌≡◌, ℕ, zero, suc, ◌+◌, ◌<◌, List, [], ◌∷◌, ◌++◌, map, length, take, drop, get_or, slice_set, ap, subst, arith}
use Rattle.tables.specs.declared.room.Row.{Row}
use Rattle.sheet_c.specs.declared.shapes.SheetList.{SheetList}
use Rattle.sheet_c.specs.Shapes.{list_as}

put_next : (rows : List Row) (was : List SheetList) (i : ℕ) (x : SheetList) (d : Row) → i < length rows → i < length was → x ≡ list_as (get_or rows i d)
    → slice_set (map list_as (take i rows) ++ drop i was) i x ≡ map list_as (take (suc i) rows) ++ drop (suc i) was
put_next [] was i x d a b e = absurd (omega arith)
put_next (r ∷ rows) [] i x d a b e = absurd (omega arith)
put_next (r ∷ rows) (w ∷ was) zero x d a b e = ap (λ (y : SheetList). y ∷ was) e
put_next (r ∷ rows) (w ∷ was) (suc i) x d a b e = ap (λ (t : List SheetList). list_as r ∷ t) (put_next rows was i x d (omega arith) (omega arith) e)

pub put_one : (rows : List Row) (was : List SheetList) (i : ℕ) (x : SheetList) (d : Row) → i < length rows → i < length was → x ≡ list_as (get_or rows i d)
    → slice_set (map list_as (take i rows) ++ drop i was) i x ≡ map list_as (take (i + 1) rows) ++ drop (i + 1) was
put_one rows was i x d a b e =
    let next : suc i ≡ i + 1 = omega arith in
    subst (λ (n : ℕ). slice_set (map list_as (take i rows) ++ drop i was) i x ≡ map list_as (take n rows) ++ drop n was) next (put_next rows was i x d a b e)
