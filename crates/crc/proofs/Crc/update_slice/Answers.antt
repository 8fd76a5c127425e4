-- Turns of eight bytes, and the rest byte by byte.
use Rattle.std.proofs.Common.{rules}
use Rattle.crc.proofs.Rows.{in_turns}
use Rattle.crc.proofs.Crc.update_slice.Goals as goal

pub returns : goal.returns
returns c = in_turns _ 8 _ c.fold-register.result _ _ (search rules) (search rules)
