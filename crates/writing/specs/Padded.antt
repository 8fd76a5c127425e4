-- A new piece in a file.
use Rattle.std.specs.Prelude.{ℕ, ◌+◌, ◌-◌, ◌%◌, List, ◌++◌, length, replicate}
use Rattle.model.specs.Bytes.{Write, put}

-- a new piece at a draft's end, with zeros up to the next place divisible by 8
abbrev pub padded : ℕ → List ℕ → Write
padded end new = put end (new ++ replicate ((8 - (end + length new) % 8) % 8) 0)
