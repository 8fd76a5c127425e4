-- What open answers.
use Rattle.std.specs.Prelude.{◌≡◌, ℕ, ◌<◌, ◌≤◌, false, cond, List, [], length, Some, None, Ok, Err, Option, Result, ◌==◌, nat_lt, slice_index, vec_items}
use Rattle.std.specs.List.{AllByRecursion}
use Rattle.model.specs.declared.types.Fault.{Fault}
use Rattle.model.specs.Faults.{fault, Outcome, done, refused, unless, then}
use Rattle.model.specs.Headers.{header_at}
use Rattle.model.specs.Section.{Section, fragments_of}
use Rattle.model.specs.Opened.{header_checks, part_log, opened}
use Rattle.counts.specs.Noted.{numbered}
use Rattle.log_pass.specs.Logs.{all_counts}
use Rattle.refusals.specs.declared.faults.OpenFault.{OpenFault}
use Rattle.refusals.specs.Refusals.{told}
use Rattle.tables.specs.declared.room.Room.{Room}
use Rattle.tables.specs.declared.room.Row.{Row}
use Rattle.tables.specs.Rows.{rows_of}
use Rattle.data_pass.specs.Files.{Filed}
use Rattle.section.specs.declared.access.Access.{Access}
use Rattle.section.specs.declared.access.Figures.{Figures}
use Rattle.section.specs.Figures.{figures_of}
use Rattle.section.specs.Keeping.{Keeps}

-- 100 room: the log gives more counts than the caller has made room for; the place is that of the first too many
abbrev pub within_room : {A : Type 0} → ℕ → List ℕ → Outcome A → Outcome A
within_room room counts rest = cond (nat_lt room (length counts)) (refused (fault 100 2 (slice_index counts room) 0)) rest

-- what the bytes of a store hold, or the first broken rule, with room for so many counts.
-- This is `opened` where the log gives no more counts than that.
unfoldable pub opened_in : ℕ → List ℕ → Outcome Section
opened_in room b = unless (header_checks b) (within_room room (all_counts b (header_at b)) (part_log b (header_at b)))

-- with room for the log's counts, that is what the rules say of the bytes
abbrev pub RoomSuffices : Type 0
RoomSuffices = (room : ℕ) (b : List ℕ) → length (all_counts b (header_at b)) ≤ room → opened_in room b ≡ opened b

-- with less, a file that its header does not refuse is refused for want of room, and for nothing else
abbrev pub RoomWants : Type 0
RoomWants = (room : ℕ) (b : List ℕ) → room < length (all_counts b (header_at b)) → AllByRecursion (λ c. c.0 ≡ false) (header_checks b)
    → opened_in room b ≡ refused (fault 100 2 (slice_index (all_counts b (header_at b)) room) 0)

-- whatever the room, what is accepted is what the rules accept
abbrev pub RoomAccepts : Type 0
RoomAccepts = (room : ℕ) (b : List ℕ) (s : Section) → opened_in room b ≡ done s → opened b ≡ done s

-- and what is refused, but for want of room, the rules refuse alike
abbrev pub RoomRefuses : Type 0
RoomRefuses = (room : ℕ) (b : List ℕ) (f : Fault) → opened_in room b ≡ refused f → (f.number == 100) ≡ false → opened b ≡ refused f

-- an answer as an outcome
abbrev pub outcome : Result Figures OpenFault → Outcome Figures
outcome (Ok f) = done f
outcome (Err e) = refused (told e)

-- 14 busy: it is open
abbrev pub open_answer : Option Access → ℕ → List ℕ → Outcome Figures
open_answer (Some a) room b = refused (fault 14 4 0 0)
open_answer None room b = then (opened_in room b) (λ s. done (figures_of s))

-- a file that was just opened has the mark, and no draft was begun
abbrev pub Fresh : ℕ → Access → Type 0
Fresh mark a = (a.mark ≡ mark) × (a.begins ≡ 0) × (a.drafting ≡ false)

-- an opened file that is busy stays as it is; a refused one is shut, an accepted one has the mark
abbrev pub Marks : Option Access → ℕ → Outcome Figures → Option Access → Type 0
Marks (Some a) mark r after = after ≡ Some a
Marks None mark (refused f) after = after ≡ None
Marks None mark (done x) None = ⊥
Marks None mark (done x) (Some a) = Fresh mark a

-- the lists of an accepted file stand in the order of opening; a file that its header refuses, in layer 1, has none
abbrev pub ListsRows : Outcome Section → List Row → Type 0
ListsRows (done s) rows = rows ≡ rows_of (length s.log.fragments) s.lists
ListsRows (refused f) rows = f.layer ≡ 1 → rows ≡ []

-- the tables are full: they have every count of the finished log, and every fragment
pub record Full (s : Section) (room : Room) : Type 0 where
  pub changes : vec_items room.counts.changes ≡ numbered 1 s.log.transactions
  pub finished : room.counts.finished ≡ length s.log.transactions
  pub fragments : length room.fragments ≡ length (fragments_of s)

-- an accepted file was read whole into the tables; a commit may later find no room for its counts
abbrev pub Fills : Outcome Section → Room → Type 0
Fills (done s) room = Full s room
Fills (refused f) room = Unit {0}

-- a file was read: it is accepted, and the tables hold it
pub record ReadsAs (mark : ℕ) (b : List ℕ) (capacity : ℕ) (room : Room) (a : Access) : Type 0 where
  pub section : Section
  pub opens : opened_in capacity b ≡ done section
  pub fits : opened b ≡ done section
  pub keeps : Keeps b section room a
  pub full : Full section room
  pub marked : Fresh mark a
  pub filed : Filed section.log section.lists room.lists room.fragments

-- header, log, lists and data references are read, or this is the first broken rule; where it is the header's, no list is left
abbrev pub ReadsFile : ℕ → List ℕ → ℕ → Room → Result Access OpenFault → Type 0
ReadsFile mark b capacity room (Ok a) = ReadsAs mark b capacity room a
ReadsFile mark b capacity room (Err e) = (opened_in capacity b ≡ refused (told e)) × ((told e).layer ≡ 1 → room.lists ≡ [])
