use Rattle.std.proofs.Common.{length, ap, arith}
use Rattle.std.proofs.lemmas.Bool.Decides.{nat_tests}
use Rattle.data_pass.proofs.ListSteps.{passing_none, passing_more, passing_err, passing_end, stays}
use Rattle.data_pass.proofs.listed.Listed.check_list.Goals as goal
use Rattle.data_pass.proofs.listed.Listed.check_list.Goals.{then-span-lt36-via-then-span-lt36, then-span-lt36-via-else-span-lt36+then-passes}

pub loop-span-init : goal.loop-span-init
loop-span-init g c = λ l x. passing_none _ _ _ c.args.row.now l _ _ _ x (omega (arith, c.as_slice.ensures.few, ap length c.as_slice.ensures.spans)) c.saturating_add-end.ensures c.as_slice.ensures.spans c.in-Some.ensures.lookup.0.2

pub loop-span-preserved : goal.loop-span-preserved
loop-span-preserved g c = λ l x. passing_more _ _ _ c.args.row.now l _ _ _ (c.loop-span.invariant l x) _ c.loop-span-test.true _ c.in_ok-left.ensures

pub returns-in_err-left : goal.returns-in_err-left
returns-in_err-left g c = λ l x.
    passing_err _ _ _ c.args.row.now l _ _ _ (c.loop-span.invariant l x) _ c.loop-span-test.true c.in_err-left.field-0.0 c.from_residual.result c.in_err-left.ensures c.from_residual.ensures.1

pub returns-then-span-lt36 : goal.returns-then-span-lt36
returns-then-span-lt36 g c = λ l x.
    let inside = stays _ _ _ c.args.row.now l _ _ _ (c.loop-span.invariant l x) (record { start = 0; size = 0 }) c.loop-span-test.true in
    elim c.then-span-lt36.branch [
      | then-span-lt36-via-then-span-lt36 w ↦ absurd (omega (arith, inside.0, w.if-span-lt36.true))
      | then-span-lt36-via-else-span-lt36+then-passes w ↦ absurd (grind (arith, nat_tests, inside.1, w.if-passes.ensures))
    ]

pub returns : goal.returns
returns g c = λ l x. passing_end _ _ _ c.args.row.now l _ _ _ (c.loop-span.invariant l x) c.loop-span-test.false
