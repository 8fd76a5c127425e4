use Rattle.journals.proofs.Journals.{made_runs}
use Rattle.journals.proofs.runs.run_new.Goals as goal

pub returns-clause-runs : goal.returns-clause-runs
returns-clause-runs g c =
    made_runs g.S.Store.bytes g.S.Store.most g.S.SavingStore.wrote c.args.store c.new-file.result c.run-left.new.file c.args.calls.items c.args.lines.now.items c.run-left.new.lines.items
    c.new-file.ensures.store c.new-file.ensures.stands (g.met.S.Store.byte c.args.store) (g.met.S.Store.within c.args.store) _ c.run-left.ensures.runs
