-- The pieces of a list that is read, among those of all lists.
use Rattle.std.specs.Prelude.{◌≡◌, ℕ, ◌+◌, ◌≤◌, false, List, ◌∷◌, ◌++◌, length, ◌==◌}
use Rattle.std.specs.List.{AllByRecursion}
use Rattle.model.specs.declared.types.Span.{Span}
use Rattle.model.specs.Nodes.{Node}
use Rattle.model.specs.Section.{NodeList}
use Rattle.model.specs.OpenedLists.{taken}
use Rattle.pieces.specs.declared.piece.Piece.{Piece}
use Rattle.pieces.specs.Found.{of_list, some_of, put_in}
use Rattle.pieces.specs.Indexed.{Pieced}

-- the lists with pieces are those that were read
abbrev pub SameIds : List NodeList → List Piece → Type 0
SameIds ls ps = (id : ℕ) → taken id ls ≡ some_of (of_list id ps)

-- the table qs is ps with a piece more
pub record Puts (p : Piece) (ps qs : List Piece) : Type 0 where
  pub rows : (id : ℕ) → of_list id qs ≡ put_in p id (of_list id ps)
  pub longer : length qs ≡ length ps + 1

-- the lists but one have the same pieces
abbrev pub OthersStay : ℕ → List Piece → List Piece → Type 0
OthersStay id ps qs = (other : ℕ) → (id == other) ≡ false → of_list other qs ≡ of_list other ps

-- the fragments fs of the list id hold its first k nodes ns, and have their pieces, besides those of other lists in ps:
-- with the pieces of the fragments that follow, the list has all its own
pub record PiecesSoFar (b : List ℕ) (id row k : ℕ) (fs : List Span) (ns : List Node) (ps qs : List Piece) : Type 0 where
  pub goes : (g : Span) (gs : List Span) (ms : List Node) (rs : List Piece) → Pieced b id row k (g ∷ gs) ms rs
      → Pieced b id row 0 (fs ++ (g ∷ gs)) (ns ++ ms) (of_list id qs ++ rs)
  pub low : AllByRecursion (λ q. q.from ≤ k) (of_list id qs)
  pub others : OthersStay id ps qs

-- the list l has its pieces, besides those of other lists in ps
pub record HasPieces (b : List ℕ) (row : ℕ) (l : NodeList) (ps qs : List Piece) : Type 0 where
  pub own : Pieced b l.id row 0 l.fragments l.nodes (of_list l.id qs)
  pub others : OthersStay l.id ps qs
