-- The rows of a draft's lists: those that were there keep theirs, and those made get the next ones.
use Rattle.std.specs.Prelude.{◌≡◌, ℕ, ◌+◌, ◌<◌, ◌⊎◌, cond, List, [], ◌∷◌, length, Some, None, Option, ◌==◌, slice_get}
use Rattle.std.specs.List.{AllByRecursion}
use Rattle.tables.specs.declared.room.Row.{Row}
use Rattle.writing.specs.declared.tails.Tail.{Tail}
use Rattle.drafts.specs.declared.layout.DraftLayout.{DraftLayout}

-- the row of a tail is its list's
pub record OwnRow (rows : List Row) (t : Tail) : Type 0 where
  pub row : Row
  pub there : slice_get rows t.row ≡ Some row
  pub own : row.id ≡ t.list

-- the rows from `next` up to `end` are those of the lists made, in their order; rows below `first` were there
abbrev pub RowsFrom : ℕ → ℕ → List Tail → ℕ → Type 0
RowsFrom first next [] end = next ≡ end
RowsFrom first next (t ∷ ts) end = ((t.row < first) × RowsFrom first next ts end) ⊎ ((t.row ≡ next) × RowsFrom first (next + 1) ts end)

-- the row of the list `id`, if it is touched
abbrev pub row_in : List Tail → ℕ → Option ℕ
row_in [] id = None
row_in (t ∷ ts) id = cond (t.list == id) (Some t.row) (row_in ts id)

pub record Rowed (rows : List Row) (d : DraftLayout) : Type 0 where
  pub own : AllByRecursion (λ t. t.row < length rows → OwnRow rows t) d.touched
  pub made : RowsFrom (length rows) (length rows) d.touched d.lists
  pub pieces : AllByRecursion (λ p. row_in d.touched p.list ≡ Some p.row) d.added

-- the row of a tail that an add begins with: the one that the draft has for the list, or that of the finished list
abbrev pub RowFor : List Row → List Tail → Tail → Type 0
RowFor rows ts t = (row_in ts t.list ≡ Some t.row) ⊎ ((row_in ts t.list ≡ None) × (t.row < length rows) × OwnRow rows t)
