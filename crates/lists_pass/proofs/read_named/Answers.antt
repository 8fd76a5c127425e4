use Rattle.std.proofs.Common.{vec_items, sym, ap, ◌∙◌, arith}
use Rattle.counts.specs.Noted.{noted}
use Rattle.lists_pass.proofs.ListWalks.{handed_on}
use Rattle.lists_pass.proofs.Openings.{opening_more, opening_refused, opening_end}
use Rattle.lists_pass.proofs.read_named.Goals as goal

pub loop-next-preserved : goal.loop-next-preserved
loop-next-preserved g c =
    let i = c.loop-next.invariant in (
      c.read_list.ensures.counts ∙ i.0,
      λ log holds held. let o = i.1 log holds held in
          opening_more _ c.in-Some.named o (λ id. ap (λ k. noted (vec_items k.changes) id) i.0 ∙ holds.counts id) (sym c.in-Some.ensures) (c.in_ok-read_list.ensures.answer o.fewer),
    )

pub returns-in_default-clause-answer : goal.returns-in_default-clause-answer
returns-in_default-clause-answer g c = λ log holds held. opening_end (c.loop-next.invariant.1 log holds held) c.in_default.ensures c.loop-next-test.true

pub returns-in_err-read_list-clause-answer : goal.returns-in_err-read_list-clause-answer
returns-in_err-read_list-clause-answer g c = λ log holds held.
    let i = c.loop-next.invariant in
    let o = i.1 log holds held in
    rw (handed_on c.from_residual.result _ c.from_residual.ensures.1)
    (opening_refused _ c.in-Some.named o (λ id. ap (λ k. noted (vec_items k.changes) id) i.0 ∙ holds.counts id) c.loop-next-test.true
    (sym c.in-Some.ensures) (c.in_err-read_list.ensures.answer o.fewer))

pub returns-clause-answer : goal.returns-clause-answer
returns-clause-answer g c = λ log holds held. let few = (c.loop-next.invariant.1 log holds held).few in absurd (omega arith)
