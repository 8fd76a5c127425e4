use Rattle.section.proofs.Rests.{abandoned_stands}
use Rattle.section.proofs.files.File.abandon.Goals as goal

pub returns-clause-after : goal.returns-clause-after
returns-clause-after g c = λ st k. abandoned_stands _ _ _ _ _ c.args.draft _ c.in_ok-access.ensures st k _ c.without_draft.ensures
