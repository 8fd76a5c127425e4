-- Both parts of the rule.
use Rattle.column.proofs.Digits.{digits_one, digits_more}
use Rattle.column.proofs.digit_rule.Goals as goal

pub returns : goal.returns
returns c = (digits_one, digits_more)
