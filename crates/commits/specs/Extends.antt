-- Fragments, and more of 1,024 bytes.
use Rattle.std.specs.Prelude.{◌≡◌, ℕ, ◌+◌, ◌*◌, List, length}
use Rattle.std.specs.List.{sum_by}
use Rattle.model.specs.declared.types.Span.{Span}

-- how many bytes ranges have together
abbrev pub sizes : List Span → ℕ
sizes fs = sum_by (λ f. f.size) fs

-- by their number and their bytes, the ranges fs are the ranges gs and some more, each of 1,024 bytes
pub record Extends (gs fs : List Span) : Type 0 where
  pub more : ℕ
  pub number : length fs ≡ length gs + more
  pub bytes : sizes fs ≡ sizes gs + 1024 * more
