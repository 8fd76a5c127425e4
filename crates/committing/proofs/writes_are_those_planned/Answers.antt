use Rattle.committing.proofs.Planned.{writes_planned}
use Rattle.committing.proofs.writes_are_those_planned.Goals as goal

pub returns : goal.returns
returns c = writes_planned
