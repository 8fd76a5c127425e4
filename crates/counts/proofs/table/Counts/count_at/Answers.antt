-- A change of a later transaction is passed over, and the one before it is of the same list.
use Rattle.std.proofs.Common.{◌∙◌, arith}
use Rattle.counts.proofs.Newest.{starts, within, arrives, goes, falls, ends}
use Rattle.counts.proofs.table.Counts.count_at.Goals as goal

pub loop-at-init : goal.loop-at-init
loop-at-init c = let d = c.args.self.now in starts _ _ d.changes.ok.0 c.args.k c.args.list _ (c.newest-at.ensures ∙ d.newest c.args.list)

pub index-change-requires : goal.index-change-requires
index-change-requires c = within _ _ c.args.self.now.changes.ok.0 c.args.k c.args.list _ (rw c.in-Some.is at c.loop-at.invariant)

pub before-at-requires : goal.before-at-requires
before-at-requires c = within _ _ c.args.self.now.changes.ok.0 c.args.k c.args.list _ (rw c.in-Some.is at c.loop-at.invariant)

pub returns-then-change-from : goal.returns-then-change-from
returns-then-change-from c =
    arrives _ _ c.args.self.now.changes.ok.0 c.args.k c.args.list _ (rw c.in-Some.is at c.loop-at.invariant) _ c.index-change.ensures (omega (arith, c.from.ensures))

pub loop-at-smaller : goal.loop-at-smaller
loop-at-smaller c = rw c.in-Some.is (falls _ _ _ c.before-at.ensures)

pub loop-at-preserved : goal.loop-at-preserved
loop-at-preserved c =
    let d = c.args.self.now in
    let back = rw c.in-Some.is at c.loop-at.invariant in
    goes _ _ d.changes.ok.0 c.args.k c.args.list _ back _ c.index-change.ensures (omega (arith, c.from.ensures)) _ c.before-at.ensures

pub returns : goal.returns
returns c = ends _ _ c.args.self.now.changes.ok.0 c.args.k c.args.list (rw c.in_default.is at c.loop-at.invariant)
