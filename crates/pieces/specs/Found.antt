-- Where a node is found: the fragments of its list in their order, and the last of them with no more nodes before it than the node has.
use Rattle.std.specs.Prelude.{ℕ, Bool, true, false, cond, not, leb, List, [], ◌∷◌, ◌++◌, Some, None, filter, Option, ◌==◌, nat_eq, nat_le}
use Rattle.pieces.specs.declared.piece.Piece.{Piece}

-- the fragments of one list
abbrev pub of_list : ℕ → List Piece → List Piece
of_list id ps = filter (λ p. nat_eq p.list id) ps

-- there are some
abbrev pub some_of : List Piece → Bool
some_of [] = false
some_of (p ∷ ps) = true

unfoldable pub last_piece : List Piece → Option Piece
last_piece [] = None
last_piece (p ∷ ps) = elim (last_piece ps) [ None ↦ Some p | Some q ↦ Some q ]

-- the last one with at most `index` nodes before it: the node with that index stands in it
abbrev pub last_from : ℕ → List Piece → Option Piece
last_from index ps = last_piece (filter (λ p. leb p.from index) ps)

-- a list's fragments with one more, behind all that have no more nodes before them
abbrev pub behind : Piece → List Piece → List Piece
behind p ps = filter (λ q. leb q.from p.from) ps ++ (p ∷ filter (λ q. not (nat_le q.from p.from)) ps)

-- the fragments of the list `id`, once p is put in
abbrev pub put_in : Piece → ℕ → List Piece → List Piece
put_in p id ps = cond (p.list == id) (behind p ps) ps
