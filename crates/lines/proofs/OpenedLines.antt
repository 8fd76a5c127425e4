-- What is printed of an opened file are the lines of the section that it is opened as.
use Rattle.std.proofs.Common.{◌≡◌, ℕ, ◌+◌, List, [], ◌∷◌, ◌++◌, length, Option, Some, None, refl, ap}
use Rattle.std.specs.List.{flat_map}
use Rattle.model.specs.Faults.{Outcome, done, refused, then}
use Rattle.model.specs.Section.{NodeList, Section}
use Rattle.tables.specs.declared.room.Row.{Row}
use Rattle.tables.specs.Rows.{rows_of}
use Rattle.section.specs.declared.access.Access.{Access}
use Rattle.section.specs.declared.access.Figures.{Figures}
use Rattle.section.specs.Figures.{figures_of}
use Rattle.section.specs.OpenAnswers.{opened_in, open_answer, ListsRows}
use Rattle.lines.specs.Lines.{figures_line, list_line, listing, found}
use Rattle.lines.specs.Printed.{row_line}

rows_lines : (at : ℕ) (ls : List NodeList)
    → flat_map row_line (rows_of at ls) ≡ flat_map (λ (l : NodeList). list_line l.id (length l.nodes) (length l.fragments)) ls
rows_lines at [] = refl
rows_lines at (l ∷ ls) = ap (λ t. list_line l.id (length l.nodes) (length l.fragments) ++ t) (rows_lines (at + length l.fragments) ls)

of_outcome : (f : Figures) (rows : List Row) (o : Outcome Section) → done f ≡ then o (λ s. done (figures_of s)) → ListsRows o rows
    → figures_line f ++ flat_map row_line rows ≡ listing o
of_outcome f rows (done s) e r =
    let same : f ≡ figures_of s = cc in
    rw (same, r) (ap (λ t. figures_line (figures_of s) ++ t) (rows_lines (length s.log.fragments) s.lists))
of_outcome f rows (refused x) e r = absurd cc

pub listed_lines : (a : Option Access) (room : ℕ) (b : List ℕ) (f : Figures) (rows : List Row) → done f ≡ open_answer a room b
    → (a ≡ None → ListsRows (opened_in room b) rows) → figures_line f ++ flat_map row_line rows ≡ listing (found a room b)
listed_lines (Some x) room b f rows e r = absurd cc
listed_lines None room b f rows e r = of_outcome f rows (opened_in room b) e (r refl)
