-- the lists so far stand at the array's front
use Rattle.std.proofs.Common.{◌≡◌, take, length}
use Rattle.committing.specs.CommitWrites.{counts_of}
use Rattle.committing.proofs.entries.counts.Given as goal

abbrev pub invariant-loop-i : goal.invariant-loop-i
invariant-loop-i l = (length l.all ≡ 17) × (take l.i l.all ≡ counts_of (take l.i l.touched))
