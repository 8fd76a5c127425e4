-- A list's end in reach, whatever the draft's.
use Rattle.std.proofs.Common.{ℕ, arith}
use Rattle.writing.specs.declared.tails.Tail.{Tail}
use Rattle.writing.specs.Tails.{InReach}

pub near : (end : ℕ) (t : Tail) → InReach end t → InReach 0 t
near end t r = record { end' = omega arith; number = r.number; fragment = r.fragment; free = r.free }
