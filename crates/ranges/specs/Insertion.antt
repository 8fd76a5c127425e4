-- Which ranges are added, and why others are not.
use Rattle.std.specs.Prelude.{ℕ, cond, List, ◌==◌, nat_lt, Result, Ok, Err}
use Rattle.model.specs.declared.types.Span.{Span}
use Rattle.model.specs.declared.limits.TheConstants.{MOST_FRAGMENTS}
use Rattle.model.specs.References.{meets}
use Rattle.ranges.specs.declared.NotAdded.{NotAdded}
use Rattle.ranges.specs.declared.NotAdded.TheVariants.{Empty, Shared, Full}

-- what inserting a range into n others answers
abbrev pub inserted : Span → List Span → ℕ → Result (Unit {0}) NotAdded
inserted s ss n = cond (s.size == 0) (Err Empty) (cond (meets s ss) (Err Shared) (cond (nat_lt n MOST_FRAGMENTS) (Ok tt) (Err Full)))
