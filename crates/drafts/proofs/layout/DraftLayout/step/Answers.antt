-- Each part of the step is as its function answers it.
use Rattle.drafts.proofs.Stepped.{step_is}
use Rattle.drafts.proofs.layout.DraftLayout.step.Goals as goal

pub returns-clause-made : goal.returns-clause-made
returns-clause-made c = λ reach few less large.
    step_is _ _ _ _ _ _ reach few less large _ c.node_len-len.ensures _ c.first_end-at.ensures _ c.saturating_add.ensures _ c.made_tail-made.ensures _ c.fits.ensures _ c.end_behind.ensures
    _ c.is_some.ensures _ c.with_more-fragments.ensures _ c.with_more.ensures _ c.is_some-2.ensures _ c.with_more-2.ensures
    _ c.highest_with.ensures _ c.moved.ensures _ c.first_piece.ensures _ c.spilt_piece.ensures
