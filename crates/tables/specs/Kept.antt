-- What the tables of an opened file keep of what it holds.
use Rattle.std.specs.Prelude.{◌≡◌, ℕ, ◌≤◌, false, List, [], length, take, Some, vec_items, slice_get}
use Rattle.std.specs.List.{AllByRecursion}
use Rattle.model.specs.Section.{NodeList, Section}
use Rattle.model.specs.OpenedLists.{taken}
use Rattle.counts.specs.Noted.{numbered}
use Rattle.pieces.specs.declared.piece.Piece.{Piece}
use Rattle.pieces.specs.Found.{of_list}
use Rattle.pieces.specs.Indexed.{Pieced}
use Rattle.tables.specs.declared.room.Room.{Room}
use Rattle.tables.specs.declared.room.Row.{Row}

-- the row of a list, but for where its first fragment stands among all: only opening asks for that
pub record RowOf (l : NodeList) (r : Row) : Type 0 where
  pub id : r.id ≡ l.id
  pub fragments : r.fragments ≡ length l.fragments
  pub nodes : r.nodes ≡ length l.nodes
  pub free : r.free ≡ l.free

-- a list is found again: under its ID are its fragments, which name its row
pub record Found (b : List ℕ) (rows : List Row) (ps : List Piece) (l : NodeList) : Type 0 where
  pub at : ℕ
  pub row : Row
  pub there : slice_get rows at ≡ Some row
  pub is_row : RowOf l row
  pub pieces : Pieced b l.id at 0 l.fragments l.nodes (of_list l.id ps)

-- each list is found, and no others
pub record Indexed (b : List ℕ) (ls : List NodeList) (rows : List Row) (ps : List Piece) : Type 0 where
  pub each : AllByRecursion (Found b rows ps) ls
  pub none : (id : ℕ) → taken id ls ≡ false → of_list id ps ≡ []
  pub number : length rows ≡ length ls

-- the counts of the log's first transactions, as many as were noted, and where each list's nodes stand
pub record Kept (b : List ℕ) (s : Section) (room : Room) : Type 0 where
  pub changes : vec_items room.counts.changes ≡ numbered 1 (take room.counts.finished s.log.transactions)
  pub finished : room.counts.finished ≤ length s.log.transactions
  pub lists : Indexed b s.lists room.lists room.pieces.rows
