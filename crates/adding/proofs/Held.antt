-- What a buffer holds: all that was put there, where there was room for it.
use Rattle.std.proofs.Common.{◌≡◌, ℕ, ◌+◌, ◌≤◌, List, [], ◌++◌, length, ap, ◌∙◌, arith}
use Rattle.std.proofs.lemmas.List.{length-append, length-replicate, take_all}
use Rattle.model.specs.References.{span, span_bytes}
use Rattle.model.specs.Nodes.{terminator}
use Rattle.model.specs.ListFragments.{new_fragment}
use Rattle.commits.proofs.Sizes.{length_digits, length_span_bytes, length_new_fragment}
use Rattle.encoding.specs.Buffers.{most, pushed, to_eight, zeros}

fits : (old new : List ℕ) → length old + length new ≤ most → pushed old new ≡ old ++ new
unfolding pushed
fits old new h = take_all most (old ++ new) (omega (arith, length-append old new))

-- a piece with the zeros behind it
pub pad_fits : (end : ℕ) (old : List ℕ) → length old ≤ 65536 → pushed old (zeros (to_eight (end + length old))) ≡ old ++ zeros (to_eight (end + length old))
pad_fits end old h = fits old (zeros (to_eight (end + length old))) (omega (arith, length-replicate {A = ℕ} (to_eight (end + length old)) 0))

-- what is put into an empty buffer
pub fills : (was new : List ℕ) → was ≡ [] → length new ≤ most → pushed was new ≡ new
fills was new e h = ap (λ xs. pushed xs new) e ∙ fits [] new (omega arith)

pub terminator_fits : length terminator ≤ most
terminator_fits = omega (arith, length_digits 4 0x800010FF)

pub span_fills : (was : List ℕ) (start size : ℕ) → was ≡ [] → pushed was (span_bytes (span start size)) ≡ span_bytes (span start size)
span_fills was start size e = let l = length_span_bytes (span start size) in fills was (span_bytes (span start size)) e (omega arith)

pub fragment_fits : (list number : ℕ) (node : List ℕ) → length node ≤ 988 → length (new_fragment list number node) ≤ 65536
fragment_fits list number node h = omega (arith, length_new_fragment list number node h)
