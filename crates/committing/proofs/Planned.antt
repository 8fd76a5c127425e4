-- The writes are those that the rules plan.
use Rattle.std.proofs.Common.{refl}
use Rattle.model.specs.Committing.{committing}
use Rattle.committing.specs.CommitWrites.{log_writes, end_then, commit_writes, WritesCommitted}

pub writes_planned : WritesCommitted
unfolding committing log_writes end_then commit_writes
writes_planned b s adds guid l ends = rw (ends.fragment, ends.used) (refl, refl)
