-- An entry of the tables is what their rule says.
use Rattle.std.proofs.Common.{◌+◌, ◌*◌, ap, ◌∙◌, arith}
use lib.Bits.{bit_xor, bit_and, and_mask, xor_lt}
use Rattle.model.specs.Crc.{steps, crc_32}
use Rattle.crc.proofs.Table.{entry}
use Rattle.crc.proofs.spread.Goals as goal

-- antt computes the tables that the rule makes, and finds them to be the code's
pub returns : goal.returns
unfolding steps
returns c =
    let r = c.args.register in
    let b = c.args.byte in
    entry c.args.zeros (bit_xor (bit_and r 255) b) c.requires (xor_lt 8 (bit_and r 255) b (omega (arith, and_mask r 8)) (omega arith))
    ∙ ap (λ x. steps crc_32 (8 + 8 * c.args.zeros) (bit_xor x b)) (and_mask r 8)
