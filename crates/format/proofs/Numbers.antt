-- How large the numbers in bytes are.
use Rattle.std.proofs.Common.{ℕ, zero, suc, ◌+◌, ◌^◌, ◌<◌, List, get_or, pow-suc, arith}
use Rattle.model.specs.Bytes.{le}

pub le_lt : (n : ℕ) (b : List ℕ) (p : ℕ) → ((i : ℕ) → get_or b i 0 < 256) → le n b p < 256 ^ n
unfolding le
le_lt zero b p s = omega arith
le_lt (suc n) b p s = rw pow-suc (omega (arith, s p, le_lt n b (p + 1) s))
