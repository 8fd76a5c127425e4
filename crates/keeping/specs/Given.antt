-- The counts that a transaction gives, and when they are noted.
use Rattle.std.specs.Prelude.{ℕ, Bool, ◌&&◌, List, map, length, nat_eq, nat_le}
use Rattle.model.specs.declared.types.Entry.{Entry}
use Rattle.model.specs.LogFragments.{entry}
use Rattle.writing.specs.declared.tails.Tail.{Tail}

-- the counts of the lists touched, in the order of first touch
abbrev pub given : List Tail → List Entry
given ts = map (λ t. entry t.list t.count) ts

-- a transaction's counts are noted where those of the `count` transactions before it are, and there is room
abbrev pub notes : (finished count left : ℕ) → List Tail → Bool
notes finished count left ts = nat_eq finished count && nat_le (length ts) left
