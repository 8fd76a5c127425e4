-- Eight bytes come in: the entries for the last four stand first.
use Rattle.std.proofs.Common.{arith}
use Rattle.crc.proofs.Eight.{eight_turn}
use Rattle.crc.proofs.after_eight.Goals as goal

pub returns : goal.returns
returns c =
    eight_turn _ _ _ c.args.register c.args.bytes.now (omega arith) c.fits-bytes c.told-bytes
    c.spread-5.ensures c.spread-6.ensures c.spread-7.ensures c.spread-8.ensures
    c.spread.ensures c.spread-2.ensures c.spread-3.ensures c.spread-4.ensures
