-- The fragments of a list, once those that a draft made are put in.
use Rattle.std.specs.Prelude.{ℕ, List, [], ◌∷◌}
use Rattle.pieces.specs.declared.piece.Piece.{Piece}
use Rattle.pieces.specs.Found.{put_in}

-- the fragments of the list `id`, once each of ps is put in
unfoldable pub put_all : List Piece → ℕ → List Piece → List Piece
put_all [] id qs = qs
put_all (p ∷ ps) id qs = put_all ps id (put_in p id qs)
