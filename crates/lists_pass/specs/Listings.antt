-- Reading one list whole, in the definitions' words.
use Rattle.std.specs.Prelude.{◌≡◌, ℕ, ◌+◌, ◌-◌, ◌<◌, ◌≤◌, false, cond, List, [], ◌∷◌, ◌++◌, length, Ok, Err, Result, nat_lt}
use Rattle.model.specs.declared.types.Span.{Span}
use Rattle.model.specs.Faults.{fault, Outcome, done, refused, unless, then}
use Rattle.model.specs.Nodes.{Node}
use Rattle.model.specs.ListFragments.{owner, nodes_from, nodes_to}
use Rattle.model.specs.Section.{NodeList}
use Rattle.model.specs.OpenedLog.{outside}
use Rattle.model.specs.OpenedLists.{nodes_at, list_goes, list_from, named_by}
use Rattle.counts.specs.declared.changes.Change.{Change}
use Rattle.counts.specs.Noted.{noted}
use Rattle.refusals.specs.declared.faults.InList.{InList}
use Rattle.tables.specs.declared.room.Row.{Row}
use Rattle.tables.specs.declared.queue.Named.{Named}
use Rattle.lists_pass.specs.declared.begun.Begun.{Begun}
use Rattle.refusals.specs.Refusals.{list_told}
use Rattle.tables.specs.Queues.{Names, names_of}
use Rattle.tables.specs.Rows.{row_of}
use Rattle.pieces.specs.declared.piece.Piece.{Piece}
use Rattle.pieces.specs.Found.{of_list, some_of}
use Rattle.lists_pass.specs.ListPieces.{SameIds, PiecesSoFar, HasPieces}

-- a list's first fragment has passed
pub record Begins (b : List ℕ) (cs : List Change) (ps : List Piece) (q : Named) (at : ℕ) (x : Begun) : Type 0 where
  pub list : x.list ≡ owner b q.span
  pub count : x.count ≡ noted cs (owner b q.span)
  pub first : x.first ≡ at
  pub fragment : x.fragment.span ≡ q.span
  pub few : at < 2048
  pub new : some_of (of_list x.list ps) ≡ false

-- what is left of a list behind the checks of its fragment f; fs and ns were read before
unfoldable pub rest_of : List ℕ → ℕ → ℕ → List Span → ℕ → List NodeList → Span → List Span → List Node → Outcome NodeList
rest_of b end count before id ls f fs ns =
    then (nodes_at (count - length ns) b id (nodes_to f) (nodes_from f) ns)
    (list_goes (list_from (2048 - (length before + (length fs + 1))) b end count ls before id) b id f fs)

-- k nodes of a list and its first n fragments were read, the last of them f: what is left gives what the whole gives.
-- All but f have their pieces, with the index at which the list's row will stand.
pub record Listing (b : List ℕ) (end : ℕ) (before : List Span) (x : Begun) (row : ℕ) (f : Span) (n k : ℕ) (ps qs : List Piece) (all : List Span)
    (was is : List Named) : Type 0 where
  pub fs : List Span
  pub nodes : List Node
  pub sequence : n ≡ length fs + 1
  pub number : k ≡ length nodes
  pub held : all ≡ before ++ (fs ++ (f ∷ []))
  pub pieces : PiecesSoFar b x.list row k fs nodes ps qs
  pub fewer : length qs < length all
  pub names : Names was (names_of nodes) is
  pub goes : (ls : List NodeList)
      → rest_of b end x.count before x.list ls x.fragment.span [] [] ≡ rest_of b end x.count before x.list ls f fs nodes

-- a list was read whole: it has one more row and its pieces, its fragments stand behind those before, and what it names behind all names
pub record Rested (b : List ℕ) (end : ℕ) (before : List Span) (x : Begun) (rows after : List Row) (ps qs : List Piece) (all : List Span)
    (was is : List Named) : Type 0 where
  pub list : NodeList
  pub id : list.id ≡ x.list
  pub row : after ≡ rows ++ (row_of (length before) list ∷ [])
  pub held : all ≡ before ++ list.fragments
  pub pieces : HasPieces b (length rows) list ps qs
  pub fewer : length qs ≤ length all
  pub names : Names was (named_by list) is
  pub gives : (ls : List NodeList) → rest_of b end x.count before x.list ls x.fragment.span [] [] ≡ done list

abbrev pub Rests : {T : Type 0} → List ℕ → ℕ → List Span → Begun → List Row → List Row → List Piece → List Piece → List Span → List Named → List Named
    → Result T InList → Type 0
Rests b end before x rows after ps qs all was is (Ok u) = Rested b end before x rows after ps qs all was is
Rests b end before x rows after ps qs all was is (Err e) =
    (ls : List NodeList) → rest_of b end x.count before x.list ls x.fragment.span [] [] ≡ refused (list_told e)

-- the list that a name stands for, behind the rows and the fragments read before; the 1,025th is refused
unfoldable pub list_of : List ℕ → ℕ → List Change → List Span → List Row → List NodeList → Named → Outcome NodeList
list_of b end cs before rows ls q =
    let id = owner b q.span in
    cond (nat_lt (length rows) 1024)
    (list_from (2048 - length before) b end (noted cs id) ls before id q.field q.span [] [])
    (unless ((outside 36 end q.span, fault 5 3 q.field 0) ∷ []) (refused (fault 13 3 q.field 0)))

-- the list that a name stands for was read whole
pub record Listed (b : List ℕ) (end : ℕ) (cs : List Change) (before : List Span) (rows : List Row) (q : Named) (after : List Row) (ps qs : List Piece) (all : List Span)
    (was is : List Named) : Type 0 where
  pub list : NodeList
  pub few : length rows < 1024
  pub new : some_of (of_list list.id ps) ≡ false
  pub row : after ≡ rows ++ (row_of (length before) list ∷ [])
  pub held : all ≡ before ++ list.fragments
  pub pieces : HasPieces b (length rows) list ps qs
  pub fewer : length qs ≤ length all
  pub names : Names was (named_by list) is
  pub gives : (ls : List NodeList) → SameIds ls ps → list_of b end cs before rows ls q ≡ done list

abbrev pub Lists : {T : Type 0} → List ℕ → ℕ → List Change → List Span → List Row → Named → List Row → List Piece → List Piece → List Span → List Named
    → List Named → Result T InList → Type 0
Lists b end cs before rows q after ps qs all was is (Ok u) = Listed b end cs before rows q after ps qs all was is
Lists b end cs before rows q after ps qs all was is (Err e) = (ls : List NodeList) → SameIds ls ps → list_of b end cs before rows ls q ≡ refused (list_told e)
