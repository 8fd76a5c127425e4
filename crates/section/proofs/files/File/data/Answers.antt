-- The look is that at the store and the tables of the opened file.
use Rattle.model.specs.Looks.{data_look}
use Rattle.section.proofs.Shown.{shown}
use Rattle.section.proofs.files.File.data.Goals as goal

pub returns : goal.returns
returns g c = λ k. let o = c.in_ok-opened.ensures in shown _ _ _ _ (data_look c.args.k c.args.list c.args.index c.args.place c.args.size c.args.buffer.now) _ k o.2 (rw (o.0, o.1) at c.data.ensures)
