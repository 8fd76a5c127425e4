-- What the walk has passed says nothing of the list's count after `k` transactions.
use Rattle.std.proofs.Common.{vec_items, vec_len}
use Rattle.counts.proofs.Newest.{Back, after}
use Rattle.counts.proofs.table.Counts.count_at.Given as goal

abbrev pub invariant-loop-at : goal.invariant-loop-at
invariant-loop-at l = Back (vec_items l.self.changes) (vec_len l.self.changes) l.k l.list l.at

abbrev pub decreases-loop-at : goal.decreases-loop-at
decreases-loop-at l = after l.at
