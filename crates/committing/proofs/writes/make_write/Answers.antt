use Rattle.committing.proofs.Trails.{made_one}
use Rattle.committing.proofs.writes.make_write.Goals as goal

pub returns-clause-made : goal.returns-clause-made
returns-clause-made g c = made_one _ _ _ _ _ _ g.met.S.SavingStore.more c.put_at.ensures.trail c.put_at.ensures.later
