-- The lists of an opened file as rows.
use Rattle.std.specs.Prelude.{ℕ, ◌+◌, List, [], ◌∷◌, length}
use Rattle.model.specs.Section.{NodeList}
use Rattle.tables.specs.declared.room.Row.{Row}

-- the row of a list whose fragments stand from the index `at` on among all
abbrev pub row_of : ℕ → NodeList → Row
row_of at l = record { id = l.id; first = at; fragments = length l.fragments; nodes = length l.nodes; free = l.free }

abbrev pub rows_of : ℕ → List NodeList → List Row
rows_of at [] = []
rows_of at (l ∷ ls) = row_of at l ∷ rows_of (at + length l.fragments) ls
