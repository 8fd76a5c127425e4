use Rattle.std.proofs.Common.{ap}
use Rattle.journals.specs.Telling.{look_as}
use Rattle.journals.proofs.Answered.{looks_as}
use Rattle.journals.proofs.making.look.Goals as goal

pub returns-in-Node : goal.returns-in-Node
returns-in-Node g c = λ st k. looks_as g.S.Store.bytes g.S.Store.most c.args.file.now st k c.args.at _ _ (ap look_as c.in-Node.is) c.node.ensures

pub returns-in-Data : goal.returns-in-Data
returns-in-Data g c = λ st k. looks_as g.S.Store.bytes g.S.Store.most c.args.file.now st k c.args.at _ _ (ap look_as c.in-Data.is) c.data.ensures

pub returns-in-Alike : goal.returns-in-Alike
returns-in-Alike g c = λ st k. looks_as g.S.Store.bytes g.S.Store.most c.args.file.now st k c.args.at _ _ (ap look_as c.in-Alike.is) c.alike.ensures
