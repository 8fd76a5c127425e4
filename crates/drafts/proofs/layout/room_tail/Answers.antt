-- A reached list is found, with its row.
use Rattle.std.proofs.Common.{sym}
use Rattle.drafts.proofs.Finished.{no_piece, no_row, fragments_of_row, finished, own_row}
use Rattle.drafts.proofs.layout.room_tail.Goals as goal

pub returns-in_err-piece-clause-tail : goal.returns-in_err-piece-clause-tail
returns-in_err-piece-clause-tail c = λ b s k o. no_piece b s c.args.room.now c.args.list k c.in_err-piece.ensures _ c.from_residual.ensures

pub returns-in_err-row-clause-tail : goal.returns-in_err-row-clause-tail
returns-in_err-row-clause-tail c = λ b s k o. absurd (no_row b s c.args.room.now c.args.list k _ c.in_ok-piece.ensures (sym c.in_err-row.ensures))

pub returns-clause-tail : goal.returns-clause-tail
returns-clause-tail c = λ b s k o.
    let few = (fragments_of_row b s c.args.room.now c.args.list k _ c.in_ok-piece.ensures c.in_ok-row.row (sym c.in_ok-row.ensures)).1 o in
    finished b s c.args.room.now c.args.list k _ c.in_ok-piece.ensures c.in_ok-row.row (sym c.in_ok-row.ensures) _ (c.last_number.ensures few)

pub returns-clause-row : goal.returns-clause-row
returns-clause-row c = λ b s k. own_row b s c.args.room.now c.args.list k _ c.in_ok-piece.ensures c.in_ok-row.row (sym c.in_ok-row.ensures) _
