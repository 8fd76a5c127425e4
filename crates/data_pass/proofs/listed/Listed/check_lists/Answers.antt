use Rattle.data_pass.proofs.AllSteps.{seen_more, seen_err, seen_end}
use Rattle.data_pass.proofs.listed.Listed.check_lists.Goals as goal

pub loop-row-preserved : goal.loop-row-preserved
loop-row-preserved g c = λ h log ls e walked filed.
    seen_more _ h log ls _ _ _ e walked filed _ _ (c.loop-row.invariant h log ls e walked filed) c.loop-row-test.true c.in_ok-check_list.ensures

pub returns-in_err-check_list : goal.returns-in_err-check_list
returns-in_err-check_list g c = λ h log ls e walked filed.
    seen_err _ h log ls _ _ _ e walked filed _ _ (c.loop-row.invariant h log ls e walked filed) c.loop-row-test.true c.in_err-check_list.field-0.0 c.from_residual.result
    c.in_err-check_list.ensures c.from_residual.ensures.1

pub returns : goal.returns
returns g c = λ h log ls e walked filed. seen_end _ h log ls _ _ _ e walked filed _ (c.loop-row.invariant h log ls e walked filed) c.loop-row-test.false
