use Rattle.journals.proofs.Answered.{saw_leaves}
use Rattle.journals.proofs.making.make.Goals as goal

pub returns-in-Look-clause-makes : goal.returns-in-Look-clause-makes
returns-in-Look-clause-makes g c = λ st k. saw_leaves g.S.Store.bytes g.S.Store.most c.args.file.now st k g.S.SavingStore.wrote g.met.S.SavingStore.none c.args.hand c.args.call _ _ c.in-Look.is (c.look.ensures st k)
