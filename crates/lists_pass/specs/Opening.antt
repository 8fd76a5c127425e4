-- Reading all lists, in the definitions' words.
use Rattle.std.specs.Prelude.{◌≡◌, ℕ, ◌-◌, ◌≤◌, List, [], ◌++◌, length, drop, Ok, Err, Result}
use Rattle.model.specs.declared.types.Span.{Span}
use Rattle.model.specs.declared.types.Header.{Header}
use Rattle.model.specs.Faults.{done, refused}
use Rattle.model.specs.Section.{Log, NodeList, count_in, list_fragments}
use Rattle.model.specs.OpenedLists.{named_first, lists_from}
use Rattle.counts.specs.declared.changes.Change.{Change}
use Rattle.counts.specs.Noted.{noted}
use Rattle.refusals.specs.declared.faults.InList.{InList}
use Rattle.tables.specs.declared.room.Row.{Row}
use Rattle.tables.specs.declared.queue.Named.{Named}
use Rattle.refusals.specs.Refusals.{list_told}
use Rattle.tables.specs.Queues.{Held}
use Rattle.tables.specs.Rows.{rows_of}
use Rattle.tables.specs.Kept.{Indexed}
use Rattle.pieces.specs.declared.piece.Piece.{Piece}

-- the room holds a log: its counts and its fragments, and no list yet
pub record Holds (log : Log) (cs : List Change) (all : List Span) (rows : List Row) : Type 0 where
  pub counts : (id : ℕ) → noted cs id ≡ count_in log.transactions id
  pub fragments : all ≡ log.fragments
  pub none : rows ≡ []

-- n lists were read: what is left to read gives what the whole gives
pub record Opening (b : List ℕ) (h : Header) (log : Log) (n : ℕ) (rows : List Row) (ps : List Piece) (all : List Span) (queue : List Named) : Type 0 where
  pub lists : List NodeList
  pub names : List (ℕ × Span)
  pub number : n ≡ length lists
  pub few : n ≤ 1024
  pub held : Held queue names
  pub row : rows ≡ rows_of (length log.fragments) lists
  pub fragments : all ≡ log.fragments ++ list_fragments lists
  pub indexed : Indexed b lists rows ps
  pub fewer : length ps ≤ length all
  pub goes : lists_from 1024 b h log (named_first h) [] ≡ lists_from (1024 - n) b h log (drop n names) lists

-- all lists were read: the rows, the fragments and the pieces are theirs
pub record AllRead (b : List ℕ) (h : Header) (log : Log) (rows : List Row) (ps : List Piece) (all : List Span) : Type 0 where
  pub lists : List NodeList
  pub row : rows ≡ rows_of (length log.fragments) lists
  pub fragments : all ≡ log.fragments ++ list_fragments lists
  pub indexed : Indexed b lists rows ps
  pub gives : lists_from 1024 b h log (named_first h) [] ≡ done lists

abbrev pub ReadsAll : {T : Type 0} → List ℕ → Header → Log → List Row → List Piece → List Span → Result T InList → Type 0
ReadsAll b h log rows ps all (Ok u) = AllRead b h log rows ps all
ReadsAll b h log rows ps all (Err e) = lists_from 1024 b h log (named_first h) [] ≡ refused (list_told e)
