use Rattle.std.proofs.Common.{arith}
use Rattle.looks.proofs.Comparing.{same_more, same_not, same_end}
use Rattle.looks.proofs.compared.same_bytes.Goals as goal

pub loop-at-preserved : goal.loop-at-preserved
loop-at-preserved g c = (
  omega arith,
  λ i j.
      same_more _ _ _ _ c.loop-at.at c.min-n.result (omega arith) i j _ _ _ _ (g.met.S.Store.within c.args.store.now) (g.met.S.Store.fits c.args.store.now)
      c.saturating_add-here.ensures c.saturating_add-there.ensures c.same_chunk.ensures (c.loop-at.invariant.1 i j) c.if-not-same_chunk.false,
)

pub returns-then-not-same_chunk : goal.returns-then-not-same_chunk
returns-then-not-same_chunk g c = λ i j.
    same_not _ _ _ _ c.loop-at.at c.min-n.result (omega arith) i j _ _ _ _ (g.met.S.Store.within c.args.store.now) (g.met.S.Store.fits c.args.store.now)
    c.saturating_add-here.ensures c.saturating_add-there.ensures c.same_chunk.ensures (c.loop-at.invariant.1 i j) c.if-not-same_chunk.true

pub returns : goal.returns
returns g c = λ i j. same_end _ _ _ _ c.loop-at.at (omega arith) (c.loop-at.invariant.1 i j)
