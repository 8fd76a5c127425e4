-- What stands below `low` starts below `start`, and what stands from `high` on does not.
use Rattle.std.proofs.Common.{◌-◌, ◌<◌, ◌≤◌, length}
use Rattle.std.specs.List.{AllWithin}
use Rattle.ranges.proofs.Ranges.place_of.Given as goal

abbrev pub invariant-loop-low : goal.invariant-loop-low
invariant-loop-low l =
    (l.low ≤ l.high)
    × (l.high ≤ length l.self.spans)
    × AllWithin (λ s. s.start < l.start) l.self.spans 0 l.low
    × AllWithin (λ s. l.start ≤ s.start) l.self.spans l.high (length l.self.spans)

abbrev pub decreases-loop-low : goal.decreases-loop-low
decreases-loop-low l = l.high - l.low
