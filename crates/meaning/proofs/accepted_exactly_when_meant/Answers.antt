use Rattle.meaning.proofs.OpensMeans.{opened_means}
use Rattle.meaning.proofs.accepted_exactly_when_meant.Goals as goal

pub returns : goal.returns
returns c = opened_means
