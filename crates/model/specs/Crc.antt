-- A cyclic redundancy check, as a register that takes one bit a step.
use Rattle.std.specs.Prelude.{ℕ, zero, suc, ◌/◌, ◌%◌, cond, List, [], ◌∷◌, ◌==◌, bit_xor}

pub record Scheme : Type 0 where
  pub poly : ℕ
  -- the bit that falls out of the register at a step, and what the register holds when it has moved by one
  pub out : ℕ → ℕ
  pub moved : ℕ → ℕ
  -- where a byte comes in
  pub into : ℕ → ℕ
  -- what the register holds at first, and what is added to it at the end
  pub first : ℕ
  pub last : ℕ

-- one step: the register moves by a bit, and where the bit that falls out is 1, the polynomial is added
abbrev pub stepped : Scheme → ℕ → ℕ
stepped s r = cond (s.out r == 1) (bit_xor (s.moved r) s.poly) (s.moved r)

-- n steps
unfoldable pub steps : Scheme → ℕ → ℕ → ℕ
steps s zero r = r
steps s (suc n) r = steps s n (stepped s r)

-- a byte comes in, and eight steps follow
unfoldable pub fed : Scheme → ℕ → ℕ → ℕ
fed s r b = steps s 8 (bit_xor r (s.into b))

-- the bytes of a row, one after the other
unfoldable pub run : Scheme → ℕ → List ℕ → ℕ
run s r [] = r
run s r (b ∷ bs) = run s (fed s r b) bs

unfoldable pub crc_of : Scheme → List ℕ → ℕ
crc_of s bs = bit_xor (run s s.first bs) s.last

-- CRC-32: the polynomial 0x04C11DB7, here lowest bit first; from all ones, inverted at the end
abbrev pub crc_32 : Scheme
crc_32 = record { poly = 0xEDB88320; out = λ r. r % 2; moved = λ r. r / 2; into = λ b. b; first = 0xFFFFFFFF; last = 0xFFFFFFFF }
