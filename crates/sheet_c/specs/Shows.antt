-- What looks answer to C. Each call opens the file in the lent bytes, with room for so many counts.
use Rattle.std.specs.Prelude.{◌≡◌, ℕ, List, ◌++◌, map, length, take, drop, Option}
use Rattle.model.specs.Faults.{Outcome, done, refused, then}
use Rattle.model.specs.Section.{Section}
use Rattle.model.specs.Looks.{Look, Seen, node, bytes, equal, Looked, answered, seen_in}
use Rattle.tables.specs.declared.room.Room.{Room}
use Rattle.tables.specs.declared.room.Row.{Row}
use Rattle.tables.specs.Rows.{rows_of}
use Rattle.section.specs.declared.access.Access.{Access}
use Rattle.section.specs.declared.access.Figures.{Figures}
use Rattle.section.specs.Figures.{figures_of}
use Rattle.section.specs.Keeping.{Sound}
use Rattle.section.specs.LookAnswers.{look_of}
use Rattle.section.specs.OpenAnswers.{opened_in}
use Rattle.sheet_c.specs.declared.shapes.SheetFault.{SheetFault}
use Rattle.sheet_c.specs.declared.shapes.SheetList.{SheetList}
use Rattle.sheet_c.specs.declared.shapes.SheetNode.{SheetNode}
use Rattle.sheet_c.specs.Shapes.{fault_as, list_as, node_with, no_fault, no_memory}

-- memory is wanted, and all is as it was; or a call tells what it finds
pub data Unless_lacks (f : SheetFault) (Same Else : Type 0) : Type 0 where
  lacks : f ≡ no_memory → Same → Unless_lacks f Same Else
  shows : Else → Unless_lacks f Same Else

-- what is found is told, or the fault, and all is as it was
abbrev pub Tells : {A : Type 0} → Outcome A → SheetFault → (A → Type 0) → Type 0 → Type 0
Tells (done a) f Then Same = (f ≡ no_fault) × Then a
Tells (refused x) f Then Same = (f ≡ fault_as x) × Same

-- a look, where the file is opened with room for so many counts
abbrev pub look_in : ℕ → List ℕ → Look → Looked
look_in room b l = answered l (then (opened_in room b) (λ s. seen_in b s l))

-- what is seen is a node
abbrev pub IsNode : SheetNode → Seen → Type 0
IsNode n (node id base reference payload) = n ≡ node_with id base (length payload) reference
IsNode n (bytes x) = ⊥
IsNode n (equal x) = ⊥

-- the lists of a section are put to a row's front, as many as it takes
abbrev pub with_lists : List Row → List SheetList → List SheetList
with_lists rows was = map list_as (take (length was) rows) ++ drop (length rows) was

abbrev pub rows_in : Section → List Row
rows_in s = rows_of (length s.log.fragments) s.lists

-- a file of the bytes b was opened: its figures, its lists, and its looks
pub record Holds (room : ℕ) (b : List ℕ) (kept : List ℕ) (tables : Room) (access : Option Access) (figures : Figures) : Type 0 where
  pub section : Section
  pub opens : opened_in room b ≡ done section
  pub figures' : figures ≡ figures_of section
  pub rows : tables.lists ≡ rows_in section
  pub sound : Sound kept tables access
  pub looks : (l : Look) → look_of access kept l ≡ look_in room b l
