use Rattle.format.proofs.FormSteps.{said_width, said_unit}
use Rattle.format.proofs.forms.Form.of_size.Goals as goal

pub returns-clause-width : goal.returns-clause-width
returns-clause-width c = said_width c.args.format _ _ _ _ _ c.of.ensures

pub returns-clause-unit : goal.returns-clause-unit
returns-clause-unit c = said_unit c.args.format _ _ _ _ _ c.of.ensures
