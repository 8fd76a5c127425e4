-- The starts rise, so what holds at `middle` holds of all before it, or of all from it on.
use Rattle.std.proofs.Common.{arith}
use Rattle.model.specs.References.{span}
use Rattle.ranges.proofs.Order.{low_to, high_from}
use Rattle.ranges.proofs.Ranges.place_of.Goals as goal

pub loop-low-preserved-then-spans-middle : goal.loop-low-preserved-then-spans-middle
loop-low-preserved-then-spans-middle c =
    let d = c.args.self.now in
    let below = rw c.as_slice-spans.ensures.values at c.if-spans-middle.true in
    (omega arith, omega arith, low_to _ d.some d.ordered _ _ (span 0 0) (omega arith) below, c.loop-low.invariant.3)

pub loop-low-preserved : goal.loop-low-preserved
loop-low-preserved c =
    let d = c.args.self.now in
    let above = rw c.as_slice-spans.ensures.values at c.if-spans-middle.false in
    (omega arith, omega arith, c.loop-low.invariant.2, high_from _ d.some d.ordered _ _ (span 0 0) (omega arith) above)
