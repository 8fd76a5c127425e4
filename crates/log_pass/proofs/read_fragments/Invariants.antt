-- At each fragment: what is left gives what the whole gives.
use Rattle.std.proofs.Common.{◌≡◌}
use Rattle.log_pass.proofs.Fragments.{Walking}
use Rattle.log_pass.proofs.read_fragments.Given as goal

abbrev pub invariant-loop-read : goal.invariant-loop-read
invariant-loop-read g l =
    Walking (g.S.Store.bytes l.store) l.checked.header l._read l.fragments l.named.field l.named.span l.counts l.crc
    × (l.counts.room ≡ l.initial.counts.room)
