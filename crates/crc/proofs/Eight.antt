-- Eight bytes in a row, each by a table of its own.
use Rattle.std.proofs.Common.{◌≡◌, ℕ, ◌/◌, ◌%◌, ◌^◌, ◌<◌, List, [], ◌∷◌, length, get_or, sym, refl, ap, ◌∙◌, arith}
use lib.Bits.{bit_xor, xor_assoc, xor_comm, xor_zero_r}
use Rattle.std.proofs.lemmas.List.FromFn.{fill_by_all}
use Rattle.model.specs.Crc.{Scheme, steps, run}
use Rattle.crc.proofs.Reflected.{reflected, run_low}
use Rattle.crc.proofs.Rows.{run_end}

-- the last four first
last_first : (x₀ x₁ x₂ x₃ x₄ x₅ x₆ x₇ : ℕ)
    → bit_xor (bit_xor (bit_xor (bit_xor (bit_xor (bit_xor (bit_xor x₄ x₅) x₆) x₇) x₀) x₁) x₂) x₃
    ≡ bit_xor x₀ (bit_xor x₁ (bit_xor x₂ (bit_xor x₃ (bit_xor x₄ (bit_xor x₅ (bit_xor x₆ x₇))))))
last_first x₀ x₁ x₂ x₃ x₄ x₅ x₆ x₇ =
    simp xor_assoc (simp xor_assoc at (xor_comm (bit_xor x₄ (bit_xor x₅ (bit_xor x₆ x₇))) (bit_xor x₀ (bit_xor x₁ (bit_xor x₂ x₃)))))

module _ (p f l : ℕ) where
  abbrev s : Scheme
  s = reflected p f l

  -- after four of the eight bytes nothing is left of the register
  run_eight : (r b₀ b₁ b₂ b₃ b₄ b₅ b₆ b₇ : ℕ) → r < 2 ^ 32
      → b₀ < 256 → b₁ < 256 → b₂ < 256 → b₃ < 256 → b₄ < 256 → b₅ < 256 → b₆ < 256 → b₇ < 256
      → run s r (b₀ ∷ b₁ ∷ b₂ ∷ b₃ ∷ b₄ ∷ b₅ ∷ b₆ ∷ b₇ ∷ [])
      ≡ bit_xor (steps s 64 (bit_xor (r % 256) b₀)) (bit_xor (steps s 56 (bit_xor (r / 2 ^ 8 % 256) b₁))
      (bit_xor (steps s 48 (bit_xor (r / 2 ^ 16 % 256) b₂)) (bit_xor (steps s 40 (bit_xor (r / 2 ^ 24 % 256) b₃))
      (bit_xor (steps s 32 b₄) (bit_xor (steps s 24 b₅) (bit_xor (steps s 16 b₆) (steps s 8 b₇)))))))
  run_eight r b₀ b₁ b₂ b₃ b₄ b₅ b₆ b₇ h h₀ h₁ h₂ h₃ h₄ h₅ h₆ h₇ =
      let low = run_low p f l in
      let q₂ : r / 256 / 256 ≡ r / 2 ^ 16 = omega arith in
      let q₃ : r / 2 ^ 16 / 256 ≡ r / 2 ^ 24 = omega arith in
      let q₄ : r / 2 ^ 24 / 256 ≡ 0 = omega arith in
      rw (low, low, q₂, low, q₃, low, q₄, low, low, low, low, run_end s, xor_zero_r)

  -- a turn, where each x is the entry for its byte
  pub eight_turn : (r : ℕ) (bs : List ℕ) → r < 2 ^ 32 → ((k : ℕ) → get_or bs k 0 < 256) → length bs ≡ 8 → {x₀ x₁ x₂ x₃ x₄ x₅ x₆ x₇ : ℕ}
      → x₀ ≡ steps s 64 (bit_xor (r % 256) (get_or bs 0 0)) → x₁ ≡ steps s 56 (bit_xor (r / 2 ^ 8 % 256) (get_or bs 1 0))
      → x₂ ≡ steps s 48 (bit_xor (r / 2 ^ 16 % 256) (get_or bs 2 0)) → x₃ ≡ steps s 40 (bit_xor (r / 2 ^ 24 % 256) (get_or bs 3 0))
      → x₄ ≡ steps s 32 (get_or bs 4 0) → x₅ ≡ steps s 24 (get_or bs 5 0) → x₆ ≡ steps s 16 (get_or bs 6 0) → x₇ ≡ steps s 8 (get_or bs 7 0)
      → bit_xor (bit_xor (bit_xor (bit_xor (bit_xor (bit_xor (bit_xor x₄ x₅) x₆) x₇) x₀) x₁) x₂) x₃ ≡ run s r bs
  eight_turn r bs small z n {x₀} {x₁} {x₂} {x₃} {x₄} {x₅} {x₆} {x₇} e₀ e₁ e₂ e₃ e₄ e₅ e₆ e₇ =
      last_first x₀ x₁ x₂ x₃ x₄ x₅ x₆ x₇
      ∙ simp (e₀, e₁, e₂, e₃, e₄, e₅, e₆, e₇) (sym (run_eight r _ _ _ _ _ _ _ _ small (z 0) (z 1) (z 2) (z 3) (z 4) (z 5) (z 6) (z 7)))
      ∙ ap (run s r) (sym (fill_by_all (λ k. get_or bs k 0) bs 8 0 n (λ k h. refl)))
