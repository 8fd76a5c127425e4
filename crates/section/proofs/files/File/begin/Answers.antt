use Rattle.section.proofs.Rests.{begun_answer, begun_stands}
use Rattle.section.proofs.files.File.begin.Goals as goal

pub returns-clause-answer : goal.returns-clause-answer
returns-clause-answer g c = λ st k. begun_answer _ _ _ _ _ _ c.in_ok-access.ensures st k _ c.last_of.ensures

pub returns-clause-after : goal.returns-clause-after
returns-clause-after g c = λ st k. begun_stands _ _ _ _ _ _ c.in_ok-access.ensures st k _ _ c.len.ensures c.begin.ensures.lays c.begin.ensures.rowed
