-- The state of the rules that a file of the code stands for.
use Rattle.std.specs.Prelude.{◌≡◌, ℕ, true, false, Bool, List, Some, None, Ok, Err, Option, Result}
use Rattle.model.specs.Section.{Section}
use Rattle.model.specs.Layouts.{Add}
use Rattle.model.specs.Calls.{State, open_file, after}
use Rattle.model.specs.Journal.{shut}
use Rattle.model.specs.Laws.{Sound}
use Rattle.tables.specs.declared.room.Room.{Room}
use Rattle.tables.specs.declared.room.Row.{Row}
use Rattle.drafts.specs.declared.layout.DraftLayout.{DraftLayout}
use Rattle.drafts.specs.Lays.{Lays}
use Rattle.drafts.specs.Rowed.{Rowed}
use Rattle.section.specs.declared.access.Access.{Access}
use Rattle.section.specs.Keeping.{Keeps}

-- the open draft, if one is open: its layout is that of the adds done in it
abbrev pub InDraft : Section → List Row → DraftLayout → Bool → Option (List Add) → Type 0
InDraft s rows d false adds = adds ≡ None
InDraft s rows d true None = ⊥
InDraft s rows d true (Some adds) = Lays s adds d × Rowed rows d

-- an opened file: the state is that of its store's bytes and ceiling, and sound; the tables keep what the bytes hold
pub record Knows (b : List ℕ) (most : ℕ) (room : Room) (d : DraftLayout) (a : Access) (st : State) : Type 0 where
  pub bytes : st.bytes ≡ b
  pub ceiling : st.ceiling ≡ most
  pub finished : ℕ
  pub sound : Sound st finished most
  pub mark : sound.access.mark ≡ a.mark
  pub begins : sound.access.begins ≡ a.begins
  pub draft : InDraft sound.section room.lists d a.drafting sound.access.draft
  pub keeps : Keeps b sound.section room a

abbrev pub StandsFor : List ℕ → ℕ → Room → DraftLayout → Option Access → State → Type 0
StandsFor b most room d None st = st ≡ shut b most
StandsFor b most room d (Some a) st = Knows b most room d a st

-- a refused open leaves the state, an accepted one opens it
abbrev pub opened_state : {T E : Type 0} → State → ℕ → Result T E → State
opened_state st mark (Ok x) = after st (open_file mark)
opened_state st mark (Err e) = st
