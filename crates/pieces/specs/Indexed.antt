-- Where a list's nodes stand, as they are found again: for each fragment how many nodes come before it.
use Rattle.std.specs.Prelude.{◌≡◌, ℕ, ◌+◌, List, [], ◌∷◌, ◌++◌, length}
use Rattle.model.specs.declared.types.Span.{Span}
use Rattle.model.specs.Nodes.{Node}
use Rattle.model.specs.ListFragments.{nodes_from, nodes_to}
use Rattle.model.specs.Means.{Nodes}
use Rattle.pieces.specs.declared.piece.Piece.{Piece}

abbrev pub piece : ℕ → ℕ → ℕ → Span → Piece
piece id from row f = record { list = id; from = from; row = row; fragment = f }

-- the fragments fs of the list id, whose row has an index, hold the nodes ns behind `from` others; ps has a piece for each of them
pub data Pieced (b : List ℕ) (id row : ℕ) : ℕ → List Span → List Node → List Piece → Type 0 where
  ends : {from : ℕ} {f : Span} {ns : List Node} (q : ℕ) → Nodes b (nodes_to f) (nodes_from f) ns q
      → Pieced b id row from (f ∷ []) ns (piece id from row f ∷ [])
  goes : {from : ℕ} {f g : Span} {gs : List Span} {all : List Node} {ps : List Piece} (ns ms : List Node) (p : ℕ) → Nodes b (nodes_to f) (nodes_from f) ns p
      → Pieced b id row (from + length ns) (g ∷ gs) ms ps → all ≡ ns ++ ms → Pieced b id row from (f ∷ (g ∷ gs)) all (piece id from row f ∷ ps)
