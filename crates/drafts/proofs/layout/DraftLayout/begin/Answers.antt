-- Nothing is touched, and nothing added.
use Rattle.drafts.proofs.Begun.{begun}
use Rattle.drafts.proofs.layout.DraftLayout.begin.Goals as goal

pub returns-clause-lays : goal.returns-clause-lays
returns-clause-lays c = λ s e f l h. begun s _ e f l h c.clear.ensures c.clear-2.ensures
