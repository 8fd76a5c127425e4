-- The lines of a listing, as bytes.
use Rattle.std.specs.Prelude.{ℕ, ◌^◌, cond, List, [], ◌∷◌, ◌++◌, length, nat_lt, Some, None, Option}
use Rattle.std.specs.List.{flat_map}
use Rattle.model.specs.declared.types.Fault.{Fault}
use Rattle.model.specs.Faults.{fault, Outcome, done, refused}
use Rattle.model.specs.Section.{Section}
use Rattle.column.specs.Column.{digits, in_column}
use Rattle.section.specs.declared.access.Access.{Access}
use Rattle.section.specs.declared.access.Figures.{Figures}
use Rattle.section.specs.Figures.{figures_of}
use Rattle.section.specs.OpenAnswers.{opened_in}

-- a number in a column of 12; one that has more digits stands behind a space
unfoldable pub column_of : ℕ → List ℕ
column_of n = cond (nat_lt n (10 ^ 12)) (in_column n) (32 ∷ digits n)

-- numbers, each in its column, and the line's end
unfoldable pub line : List ℕ → List ℕ
line ns = flat_map column_of ns ++ (10 ∷ [])

-- count, end, lists, fragments, and the whole percent of the file that is header and fragments
abbrev pub figures_line : Figures → List ℕ
figures_line f = line (f.count ∷ f.end ∷ f.lists ∷ f.fragments ∷ f.percent ∷ [])

-- a list's ID, and how many nodes and fragments it has
abbrev pub list_line : ℕ → ℕ → ℕ → List ℕ
list_line id nodes fragments = line (id ∷ nodes ∷ fragments ∷ [])

-- the figures, and a line for each list in the order of opening
abbrev pub section_lines : Section → List ℕ
section_lines s = figures_line (figures_of s) ++ flat_map (λ l. list_line l.id (length l.nodes) (length l.fragments)) s.lists

-- number, layer, place, list
abbrev pub refusal_line : Fault → List ℕ
refusal_line f = line (f.number ∷ f.layer ∷ f.place ∷ f.list ∷ [])

-- the lines of what opening finds
abbrev pub listing : Outcome Section → List ℕ
listing (done s) = section_lines s
listing (refused f) = refusal_line f

-- what opening finds, with room for so many counts. A file that is open is refused as busy, 14
abbrev pub found : Option Access → ℕ → List ℕ → Outcome Section
found (Some a) room b = refused (fault 14 4 0 0)
found None room b = opened_in room b
