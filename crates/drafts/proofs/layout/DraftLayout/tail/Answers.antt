-- The draft's own tail, or the finished one.
use Rattle.drafts.proofs.Looked.{tail_touched, tail_finished, row_touched, row_finished}
use Rattle.drafts.proofs.layout.DraftLayout.tail.Goals as goal

pub returns-in-Some-clause-tail : goal.returns-in-Some-clause-tail
returns-in-Some-clause-tail c = λ b s adds k o h. tail_touched s _ _ c.args.self.now c.args.list h c.in-Some.tail c.in-Some.ensures

pub returns-in-Some-clause-row : goal.returns-in-Some-clause-row
returns-in-Some-clause-row c = λ b s k. row_touched _ _ c.args.list c.in-Some.tail c.in-Some.ensures

pub returns-in-None-clause-tail : goal.returns-in-None-clause-tail
returns-in-None-clause-tail c = λ b s adds k o h. tail_finished s _ _ c.args.self.now c.args.list h c.in-None.ensures _ (c.room_tail.ensures.tail b s k o)

pub returns-in-None-clause-row : goal.returns-in-None-clause-row
returns-in-None-clause-row c = λ b s k. row_finished _ _ c.args.list c.in-None.ensures _ (c.room_tail.ensures.row b s k)
