-- The end of a list in the code, in the model's words.
use Rattle.std.specs.Prelude.{ℕ, ◌+◌, ◌^◌, ◌<◌, ◌≤◌}
use Rattle.model.specs.Means.{Inside}
use Rattle.model.specs.Layouts.{tail}
use Rattle.writing.specs.declared.tails.Tail.{Tail}

abbrev pub as_tail : Tail → Rattle.model.specs.Layouts.Tail
as_tail t = tail t.list t.fragment t.number t.free t.count

-- the list's end lies by 2^40, as does the draft's, so that no sum of places passes 2^64
pub record InReach (end : ℕ) (t : Tail) : Type 0 where
  pub end' : end ≤ 2 ^ 40
  pub number : t.number + 1 < 2 ^ 32
  pub fragment : Inside 36 (2 ^ 40) t.fragment
  pub free : t.free ≤ 2 ^ 40
