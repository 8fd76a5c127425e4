-- References: a start and a size, as they are read and as they are written.
use Rattle.std.specs.Prelude.{ℕ, ◌+◌, ◌-◌, ◌*◌, ◌^◌, Bool, false, cond, not, ◌&&◌, ◌||◌, List, [], ◌∷◌, ◌++◌, ◌==◌, nat_lt}
use Rattle.model.specs.declared.types.Span.{Span}
use Rattle.model.specs.Bytes.{le, digits}

abbrev pub span : ℕ → ℕ → Span
span s n = record { start = s; size = n }

-- the place behind its last byte
abbrev pub end_of : Span → ℕ
end_of r = r.start + r.size

abbrev pub nil : Span
nil = span (2 ^ 64 - 1) 0

-- nil (the start 2^64 - 1 and the size 0) and zero (both 0) refer to nothing
abbrev pub absent : Span → Bool
absent r = r.size == 0 && (r.start == 0 || r.start == 2 ^ 64 - 1)

abbrev pub present : Span → Bool
present r = not (absent r)

-- two ranges share a byte; a range of size 0 shares none
abbrev pub share : Span → Span → Bool
share r s = nat_lt 0 r.size && nat_lt 0 s.size && nat_lt r.start (end_of s) && nat_lt s.start (end_of r)

-- a range shares a byte with one of a list
abbrev pub meets : Span → List Span → Bool
meets r [] = false
meets r (s ∷ ss) = share r s || meets r ss

-- a reference of a fixed form: a start of 8 bytes, a size of 4
abbrev pub span_at : List ℕ → ℕ → Span
span_at b p = span (le 8 b p) (le 4 b (p + 8))

abbrev pub span_bytes : Span → List ℕ
span_bytes r = digits 8 r.start ++ digits 4 r.size

-- one of four, by a format from 0 to 3
unfoldable pub by_format : ℕ → ℕ → ℕ → ℕ → ℕ → ℕ
by_format f a b c d = cond (f == 0) a (cond (f == 1) b (cond (f == 2) c d))

-- a reference in a node: how many bytes its start and its size take, and by what each is multiplied
abbrev pub start_width : ℕ → ℕ
start_width stp = by_format stp 8 4 2 4

abbrev pub size_width : ℕ → ℕ
size_width cb = by_format cb 4 8 1 2

abbrev pub unit : ℕ → ℕ
unit format = by_format format 1 1 8 8

-- the start and the size together
abbrev pub span_in : List ℕ → ℕ → ℕ → ℕ → Span
span_in b p stp cb = span (unit stp * le (start_width stp) b p) (unit cb * le (size_width cb) b (p + start_width stp))
