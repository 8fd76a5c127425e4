-- At the i-th entry: what is left gives what the whole gives, for each reading that was held at first.
use Rattle.std.proofs.Common.{◌≡◌}
use Rattle.model.specs.OpenedLog.{Reading}
use Rattle.log_pass.specs.LogSteps.{Holds}
use Rattle.log_pass.proofs.Entries.{Going}
use Rattle.log_pass.proofs.read_entries.Given as goal

abbrev pub invariant-loop-i : goal.invariant-loop-i
invariant-loop-i g l =
    (l.counts.room ≡ l.initial.counts.room)
    × ((k : Reading) → Holds l.count l.initial.counts l.initial.crc k
    → Going (g.S.Store.bytes l.store) l.count l.fragment.span l.i k l.initial.counts l.counts l.crc)
