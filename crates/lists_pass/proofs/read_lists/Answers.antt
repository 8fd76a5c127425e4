use Rattle.std.proofs.Common.{[], map, ap}
use Rattle.tables.specs.Queues.{pair_of}
use Rattle.lists_pass.proofs.read_lists.Goals as goal

pub returns-clause-answer : goal.returns-clause-answer
returns-clause-answer g c = λ log holds empty. c.read_named.ensures.answer log holds (c.name_first.ensures [] (ap (map pair_of) empty))
