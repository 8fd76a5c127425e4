-- The last one before the place is one of the list, or none is.
use Rattle.std.proofs.Common.{refl, arith}
use Rattle.pieces.proofs.Placed.{none_before, last_there}
use Rattle.pieces.proofs.table.Pieces.last_up_to.Goals as goal

pub returns-in_err-last : goal.returns-in_err-last
returns-in_err-last c =
    let d = c.args.self.now in
    let p = c.place_behind.ensures in
    rw c.from_residual.ensures (none_before _ d.ordered c.args.list c.args.from _ (omega arith) p.parts (omega (arith, c.in_err-last.ensures)))

pub returns : goal.returns
returns c =
    let d = c.args.self.now in
    let p = c.place_behind.ensures in
    let last = c.in_ok-last.ensures in
    rw (c.then_some.ensures, c.as_slice.ensures.values) (last_there _ d.ordered c.args.list c.args.from _ (omega arith) p.parts _ (omega (arith, last.0, last.1)) _ refl)
