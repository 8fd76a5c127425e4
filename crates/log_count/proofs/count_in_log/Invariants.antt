-- Before each fragment: what is ahead gives the count.
use Rattle.std.proofs.Common.{◌≡◌, ◌-◌, ◌≤◌}
use Rattle.model.specs.Faults.{done}
use Rattle.model.specs.Opened.{opened}
use Rattle.model.specs.Section.{Section, count_at}
use Rattle.log_count.proofs.Fragments.{Ahead}
use Rattle.log_count.proofs.count_in_log.Given as goal

abbrev pub invariant-loop-read : goal.invariant-loop-read
invariant-loop-read g l = (s : Section) → opened (g.S.Store.bytes l.store) ≡ done s → l.fn.first ≡ s.header.log → l.k ≤ s.header.count
    → Ahead (g.S.Store.bytes l.store) l.list (count_at s.log l.k l.list) (2048 - l._read) l.fragment l.tally
