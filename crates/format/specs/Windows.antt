-- Bytes read from a row into a buffer.
use Rattle.std.specs.Prelude.{◌≡◌, ℕ, ◌+◌, ◌<◌, List, length, slice_index}

-- the buffer holds the row's bytes from p on, 0 past its end
abbrev pub Window : List ℕ → ℕ → List ℕ → Type 0
Window row p buffer = (i : ℕ) → i < length buffer → slice_index buffer i ≡ slice_index row (p + i)
