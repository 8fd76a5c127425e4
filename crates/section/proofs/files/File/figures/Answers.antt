use Rattle.section.proofs.Opens.{figures_told}
use Rattle.section.proofs.files.File.figures.Goals as goal

pub returns-clause-figures : goal.returns-clause-figures
returns-clause-figures g c = figures_told _ _ _ _ _ c.in-Some.is c.figures_by.ensures
