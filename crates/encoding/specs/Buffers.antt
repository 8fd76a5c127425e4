-- The bytes of one write, put together in a buffer that takes 65,544: data of 65,536 with the zeros behind it.
use Rattle.std.specs.Prelude.{ℕ, ◌-◌, ◌%◌, List, ◌++◌, take, replicate}

abbrev pub most : ℕ
most = 65544

-- what a buffer holds, once `new` is put behind `old`: no more than it takes
unfoldable pub pushed : List ℕ → List ℕ → List ℕ
pushed old new = take most (old ++ new)

-- how many zeros lead from a place to the next one divisible by 8
abbrev pub to_eight : ℕ → ℕ
to_eight place = (8 - place % 8) % 8

abbrev pub zeros : ℕ → List ℕ
zeros n = replicate n 0
