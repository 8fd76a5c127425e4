-- What an opened file keeps of what it holds.
use Rattle.std.specs.Prelude.{◌≡◌, ℕ, ◌+◌, List, length, Some, None, Option}
use Rattle.model.specs.Faults.{done}
use Rattle.model.specs.Section.{Section, fragments_of}
use Rattle.model.specs.Layouts.{blank}
use Rattle.model.specs.Opened.{opened}
use Rattle.commits.specs.Extends.{sizes}
use Rattle.tables.specs.declared.room.Room.{Room}
use Rattle.tables.specs.Kept.{Kept}
use Rattle.committing.specs.CommitWrites.{EndsLog}
use Rattle.section.specs.declared.access.Access.{Access}

-- the header, where the log ends, how many fragments there are, how many bytes these and the header have, the highest list ID, and what the tables keep
pub record Keeps (b : List ℕ) (s : Section) (room : Room) (a : Access) : Type 0 where
  pub header : a.header ≡ s.header
  pub log : EndsLog s a.log
  pub fragments : a.fragments ≡ length (fragments_of s)
  pub used : a.used ≡ 1024 + sizes (fragments_of s)
  pub highest : a.highest ≡ (blank s).highest
  pub kept : Kept b s room

-- a shut file keeps nothing; an opened one keeps what opening finds in its bytes
abbrev pub Sound : List ℕ → Room → Option Access → Type 0
Sound b room None = Unit {0}
Sound b room (Some a) = (s : Section) × (opened b ≡ done s) × Keeps b s room a
