-- The data references of a list's nodes, read again fragment by fragment, and those of all lists.
use Rattle.std.specs.Prelude.{◌≡◌, ℕ, List, [], ◌∷◌, ◌++◌, map, length, take, drop, None}
use Rattle.std.specs.List.{AllByRecursion}
use Rattle.model.specs.declared.types.Span.{Span}
use Rattle.model.specs.Faults.{Check}
use Rattle.model.specs.Nodes.{Node, referring}
use Rattle.model.specs.Section.{NodeList, flat}
use Rattle.model.specs.Opened.{data_checks}
use Rattle.model.specs.Means.{Inside, Spread}
use Rattle.tables.specs.declared.room.Row.{Row}
use Rattle.tables.specs.Rows.{row_of}
use Rattle.refusals.specs.Checked.{told_by}

-- a row is that of the list l, whose fragments stand at its index among all, in the file, and hold its nodes
pub record Lies (b : List ℕ) (end : ℕ) (row : Row) (all : List Span) (l : NodeList) : Type 0 where
  pub before : List Span
  pub after : List Span
  pub row_is : row ≡ row_of (length before) l
  pub fragments_are : all ≡ before ++ (l.fragments ++ after)
  pub inside : AllByRecursion (Inside 36 end) l.fragments
  pub spread : Spread b l.fragments l.nodes l.free

-- the nodes of the fragments that are left, none behind the last
abbrev pub Remains : List ℕ → List Span → List Node → ℕ → Type 0
Remains b [] ns q = ns ≡ []
Remains b (f ∷ fs) ns q = Spread b (f ∷ fs) ns q

-- i of the spans, the fragments of the row's list l, were read again, and the data of none of their nodes is wrong; `left` nodes are left
pub record Passing (b : List ℕ) (end : ℕ) (all : List Span) (row : Row) (l : NodeList) (spans : List Span) (i left : ℕ) : Type 0 where
  pub id : row.id ≡ l.id
  pub inside : AllByRecursion (Inside 36 end) spans
  pub passed : List Node
  pub rest : List Node
  pub whole : l.nodes ≡ passed ++ rest
  pub none : told_by (data_checks end all row.id (referring 1 passed)) ≡ None
  pub remains : Remains b (drop i spans) rest l.free
  pub number : left ≡ length rest

abbrev pub list_data : ℕ → List Span → NodeList → List Check
list_data end all l = data_checks end all l.id (referring 1 l.nodes)

-- the data of the first k lists is right
abbrev pub Seen : ℕ → List Span → List NodeList → ℕ → Type 0
Seen end all ls k = told_by (flat (map (list_data end all) (take k ls))) ≡ None
