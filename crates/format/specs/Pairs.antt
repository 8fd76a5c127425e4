-- A node's reference in a slice of bytes: a start and a size.
use Rattle.std.specs.Prelude.{ℕ, ◌+◌, ◌*◌, cond, List, length, Some, None, Option, nat_lt}
use Rattle.model.specs.Bytes.{le}
use Rattle.model.specs.References.{start_width, size_width, unit}

-- the pair, if the bytes suffice
abbrev pub reference_of : List ℕ → ℕ → ℕ → Option (ℕ × ℕ)
reference_of bytes stp cb =
    cond (nat_lt (length bytes) (start_width stp + size_width cb)) None
    (Some (unit stp * le (start_width stp) bytes 0, unit cb * le (size_width cb) bytes (start_width stp)))
