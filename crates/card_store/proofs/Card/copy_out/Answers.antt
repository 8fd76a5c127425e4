use Rattle.std.proofs.Common.{◌≡◌, ◌+◌, get_or, take, sym, ◌∙◌, arith}
use Rattle.std.proofs.lemmas.List.{get_or_read_under}
use Rattle.card_store.proofs.CardFacts.{row_of, length_row, length_bytes, byte_of}
use Rattle.card_store.proofs.Parts.{read_one, read_on}
use Rattle.store.specs.RowsLemmas.{piece_take}
use Rattle.card_store.proofs.Card.copy_out.Goals as goal

pub returns-then-n-eq1 : goal.returns-then-n-eq1
returns-then-n-eq1 c =
    let d = c.args.self.now in
    let l = length_row d in
    let x : c.index.result.now ≡ get_or (row_of d) c.args.p 0
    = grind (arith, get_or_read_under _ _ _ _ 0 c.index.ensures c.spot_of.ensures.bound d.buffer.ok.0, c.spot_of.ensures.value, byte_of d c.args.p (omega (arith, d.within))) in
    read_one (row_of d) c.args.into.now d.len c.args.p c.args.n c.index.result.now c.if-n-eq1.true c.requires.row (omega (arith, d.within)) c.requires.buffer x

pub loop-done-preserved : goal.loop-done-preserved
loop-done-preserved c =
    let d = c.args.self.now in
    let l = length_row d in
    let b = length_bytes d in
    let part = c.copy_from_slice.ensures.after ∙ c.part.ensures.bytes
    ∙ sym (piece_take (row_of d) (c.args.p + c.loop-done.done) c.in_block-count.result d.len (omega arith) (omega (arith, d.within))) in (
      omega arith,
      read_on (take d.len (row_of d)) c.args.into.now c.loop-done.into c.copy_from_slice.new.self c.args.p c.loop-done.done c.in_block-count.result (omega arith) (omega arith) c.loop-done.invariant.1 part,
    )
