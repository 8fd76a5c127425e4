-- A scheme whose lowest bit falls out first: a byte's part by a table, and the rest of the register moves down.
use Rattle.std.proofs.Common.{◌≡◌, ℕ, zero, suc, ◌+◌, ◌*◌, ◌/◌, ◌%◌, ◌^◌, ◌<◌, List, ◌∷◌, length, sym, ap, ◌∙◌, arith}
use lib.Bits.{bit_xor, xor_shr, xor_mod, xor_comm, xor_zero_r, shifted_half, shifted_even, xor_shifted}
use Rattle.std.proofs.lemmas.Nat.{div-add-mod'}
use Rattle.model.specs.Crc.{Scheme, steps, fed, run}
use Rattle.crc.proofs.Linear.{Lawful, steps_xor, steps_steps, run_xor}

-- any polynomial, first register and last addition
abbrev pub reflected : ℕ → ℕ → ℕ → Scheme
reflected p f l = record { poly = p; out = λ r. r % 2; moved = λ r. r / 2; into = λ b. b; first = f; last = l }

module _ (p f l : ℕ) where
  abbrev s : Scheme
  s = reflected p f l

  lawful : Lawful s
  lawful = record { bit = λ r. grind arith; out_xor = λ a b. xor_mod a b 1; moved_xor = λ a b. xor_shr a b 1 }

  -- n steps take n zero bits out at the low end
  zeros_out : (n h : ℕ) → steps s n (h * 2 ^ n) ≡ h
  unfolding steps
  zeros_out zero h = omega arith
  zeros_out (suc n) h = ap (steps s n) (rw (shifted_even h n) (shifted_half h n)) ∙ zeros_out n h

  -- eight steps: the low byte by the table, the rest moves down
  eight_steps : (r : ℕ) → steps s 8 r ≡ bit_xor (steps s 8 (r % 256)) (r / 256)
  eight_steps r =
      ap (steps s 8) (sym (xor_shifted (r / 256) 8 (r % 256) (omega arith) ∙ div-add-mod' r 256))
      ∙ steps_xor s lawful 8 (r / 256 * 256) (r % 256)
      ∙ ap (λ x. bit_xor x (steps s 8 (r % 256))) (zeros_out 8 (r / 256))
      ∙ xor_comm (r / 256) (steps s 8 (r % 256))

  -- the same where a byte comes in
  pub fed_low : (r b : ℕ) → b < 256 → fed s r b ≡ bit_xor (steps s 8 (bit_xor (r % 256) b)) (r / 256)
  unfolding fed
  fed_low r b h =
      let e : b / 256 ≡ 0 = omega arith in
      let m : b % 256 ≡ b = omega arith in
      eight_steps (bit_xor r b) ∙ ap (bit_xor (steps s 8 (bit_xor r b % 256))) (xor_shr r b 8 ∙ rw e (xor_zero_r (r / 256)))
      ∙ ap (λ x. bit_xor (steps s 8 x) (r / 256)) (xor_mod r b 8 ∙ ap (bit_xor (r % 256)) m)

  -- the first byte of a row meets the register's low byte, and the others the rest of the register
  pub run_low : (r b : ℕ) (bs : List ℕ) → b < 256 → run s r (b ∷ bs) ≡ bit_xor (steps s (8 + 8 * length bs) (bit_xor (r % 256) b)) (run s (r / 256) bs)
  unfolding run
  run_low r b bs h =
      let x = bit_xor (r % 256) b in
      ap (λ y. run s y bs) (fed_low r b h) ∙ run_xor s lawful (steps s 8 x) (r / 256) bs
      ∙ ap (λ y. bit_xor y (run s (r / 256) bs)) (steps_steps s 8 (8 * length bs) x)
