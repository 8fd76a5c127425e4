use Rattle.std.proofs.Common.{arith}
use Rattle.model.proofs.Printed.{word_past}
use Rattle.model.proofs.words.word.Goals as goal

pub returns-in_default : goal.returns-in_default
returns-in_default c = word_past c.args.number (omega (arith, c.in_default))
