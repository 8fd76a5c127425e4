-- The step's checks come behind the first three; where all pass, the step is planned.
use Rattle.std.proofs.Common.{sym}
use Rattle.drafts.proofs.Told.{told, list_added, row_told}
use Rattle.drafts.proofs.layout.DraftLayout.plan.Goals as goal

pub returns-clause-tells : goal.returns-clause-tells
returns-clause-tells c = λ b s adds k o h w.
    told s _ _ c.args.self.now h w c.args.ceiling _ c.in-Some.before c.args.add.now.list (list_added c.args.add.now)
    (c.in-Some.ensures.tail b s adds k o h) (sym c.if-is_too_large.ensures) (sym c.if-has_bad_id.ensures)
    c.step.result c.step.ensures.made c.checked.result c.checked.ensures.says c.checked.ensures.same

pub returns-clause-row : goal.returns-clause-row
returns-clause-row c = λ b s k. row_told _ _ c.args.add.now.list c.in-Some.before c.step.result (c.in-Some.ensures.row b s k) c.step.ensures.before c.checked.result c.checked.ensures.same
