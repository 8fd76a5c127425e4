-- The order of the fragments: by list, then by the nodes before them.
use Rattle.std.specs.Prelude.{◌≡◌, ℕ, ◌<◌, Bool, ◌&&◌, ◌||◌, List, [], ◌∷◌, ◌++◌, length, take, filter, ◌==◌, nat_le, nat_lt, slice_index_or}
use Rattle.model.specs.References.{span}
use Rattle.pieces.specs.declared.piece.Piece.{Piece}
use Rattle.pieces.specs.Found.{of_list}

abbrev pub no_piece : Piece
no_piece = record { list = 0; from = 0; row = 0; fragment = span 0 0 }

abbrev pub piece_at : List Piece → ℕ → Piece
piece_at ps i = slice_index_or ps i no_piece

-- a fragment does not stand above one of the list `id` with `from` nodes before it
abbrev pub up_to : ℕ → ℕ → Piece → Bool
up_to id from p = nat_lt p.list id || (p.list == id && nat_le p.from from)

-- a list's fragments with at most `from` nodes before them
abbrev pub front_of : ℕ → ℕ → List Piece → List Piece
front_of id from ps = filter (λ p. nat_le p.from from) (of_list id ps)

-- the i-th fragment is the last of them
pub record IsLast (id from : ℕ) (ps : List Piece) (i : ℕ) : Type 0 where
  pub within : i < length ps
  pub own : (piece_at ps i).list ≡ id
  pub front : front_of id from ps ≡ of_list id (take i ps) ++ (piece_at ps i ∷ [])
