-- The look is that at the store and the tables of the opened file.
use Rattle.model.specs.Looks.{node_look}
use Rattle.section.proofs.Shown.{shown}
use Rattle.section.proofs.files.File.node.Goals as goal

pub returns : goal.returns
returns g c = λ k. let o = c.in_ok-opened.ensures in shown _ _ _ _ (node_look c.args.k c.args.list c.args.index c.args.buffer.now) _ k o.2 (rw (o.0, o.1) at c.node.ensures)
