-- A byte comes in.
use Rattle.std.proofs.Common.{◌/◌, sym, ap, ◌∙◌, arith}
use lib.Bits.{bit_xor}
use Rattle.crc.proofs.Reflected.{fed_low}
use Rattle.crc.proofs.after_byte.Goals as goal

pub returns : goal.returns
returns c =
    let r = c.args.register in
    ap (λ x. bit_xor x (r / 256)) c.spread.ensures ∙ sym (fed_low _ _ _ r c.args.byte (omega arith))
