-- The rows of the lists that a draft touched.
use Rattle.std.specs.Prelude.{ℕ, ◌+◌, cond, List, [], ◌∷◌, ◌++◌, length, set, Some, None, nat_lt, slice_get}
use Rattle.tables.specs.declared.room.Row.{Row}
use Rattle.writing.specs.declared.tails.Tail.{Tail}

-- the row of the list with this tail
abbrev pub row_for : ℕ → Tail → Row
row_for first t = record { id = t.list; first = first; fragments = t.number + 1; nodes = t.count; free = t.free }

-- a tail's row is as the tail says; where there is none, one comes behind the others, as long as there is room
abbrev pub with_row : Tail → List Row → List Row
with_row t rows = elim (slice_get rows t.row) [ Some r ↦ set rows t.row (row_for r.first t) | None ↦ cond (nat_lt (length rows) 1024) (rows ++ (row_for 0 t ∷ [])) rows ]

unfoldable pub with_rows : List Tail → List Row → List Row
with_rows [] rows = rows
with_rows (t ∷ ts) rows = with_rows ts (with_row t rows)
