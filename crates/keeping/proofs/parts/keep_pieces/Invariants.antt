-- what is left gives the whole, and there is room for it
use Rattle.std.proofs.Common.{◌≡◌, ℕ, ◌+◌, ◌≤◌, length, drop}
use Rattle.pieces.specs.Found.{of_list}
use Rattle.keeping.specs.Pieces.{put_all}
use Rattle.keeping.proofs.parts.keep_pieces.Given as goal

abbrev pub invariant-loop-piece : goal.invariant-loop-piece
invariant-loop-piece l =
    length l.initial.pieces.rows + length l.added ≤ 2048
    → (length l.pieces.rows ≡ length l.initial.pieces.rows + l.piece-index)
    × ((id : ℕ) → put_all (drop l.piece-index l.added) id (of_list id l.pieces.rows) ≡ put_all l.added id (of_list id l.initial.pieces.rows))
