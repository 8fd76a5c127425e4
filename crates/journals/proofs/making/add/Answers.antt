use Rattle.journals.specs.declared.calls.Call.TheVariants as calls
use Rattle.journals.proofs.Answered.{added_leaves}
use Rattle.journals.proofs.making.add.Goals as goal

pub returns : goal.returns
returns g c = λ st k. added_leaves g.S.Store.bytes g.S.Store.most c.args.file.now st k c.add-done.new.self g.S.SavingStore.wrote c.args.hand (calls.Add c.args.new) _ c.in-Some.is _ _ _ c.add-done.ensures.draft c.adds_bytes.ensures (c.add-done.ensures.answer st k) (c.add-done.ensures.after st k) (c.add-done.ensures.writes st k)
