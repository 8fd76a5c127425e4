-- A sentinel: its sum differs, or it ends the transaction under way.
use Rattle.log_pass.proofs.OneEntry.{takes_sum}
use Rattle.log_pass.proofs.end_transaction.Goals as goal

pub returns-then-finish-logged-clause-takes : goal.returns-then-finish-logged-clause-takes
returns-then-finish-logged-clause-takes c = λ k h. takes_sum h _ _ _ c.finish.result c.finish.ensures c.if-finish-logged.true
