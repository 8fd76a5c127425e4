use Rattle.std.proofs.Common.{take, ap, ◌∙◌, arith}
use Rattle.std.proofs.lemmas.List.{take_all}
use Rattle.model.specs.Bytes.{written}
use Rattle.card_store.proofs.CardFacts.{row_of, length_row}
use Rattle.card_store.proofs.Parts.{written_on}
use Rattle.store.specs.RowsLemmas.{written_front}
use Rattle.card_store.proofs.Card.paste.Goals as goal

pub loop-done-preserved : goal.loop-done-preserved
loop-done-preserved c =
    let d = c.args.self.now in
    let l = length_row d in (
      omega arith,
      written_on (row_of d) _ _ c.args.p c.loop-done.done c.in_block-count.result c.args.new.now (omega arith) (omega arith) c.loop-done.invariant.1 c.put_part.ensures.row,
      c.put_part.ensures.blocks ∙ c.loop-done.invariant.2,
      c.put_part.ensures.len ∙ c.loop-done.invariant.3,
    )

pub returns-clause-row : goal.returns-clause-row
returns-clause-row c =
    let d = c.args.self.now in
    let l = length_row d in
    ap (take c.max-self.result) (c.loop-done.invariant.1 ∙ ap (written (row_of d) c.args.p) (take_all c.loop-done.done c.args.new.now (omega arith)))
    ∙ written_front (row_of d) d.len c.args.p c.args.new.now c.max-self.result (omega (arith, d.within)) c.requires.start (omega arith) (omega arith)
