-- The register of any lawful scheme is linear over "exclusive or".
use Rattle.std.proofs.Common.{◌≡◌, ℕ, zero, suc, ◌+◌, ◌*◌, ◌⊎◌, List, [], ◌∷◌, length, sym, refl, ap, ◌∙◌, inl, inr, suc-add, zero-add, arith}
use lib.Bits.{bit_xor, xor_comm, xor_assoc, xor_self, xor_zero_r}
use Rattle.model.specs.Crc.{Scheme, stepped, steps, fed, run}

-- (a + p) + b = (a + b) + p
swap : (a p b : ℕ) → bit_xor (bit_xor a p) b ≡ bit_xor (bit_xor a b) p
swap a p b = xor_assoc a p b ∙ ap (bit_xor a) (xor_comm p b) ∙ sym (xor_assoc a b p)

-- (a + p) + (b + p) = a + b
cancel : (a b p : ℕ) → bit_xor (bit_xor a p) (bit_xor b p) ≡ bit_xor a b
cancel a b p =
    swap a p (bit_xor b p) ∙ ap (λ x. bit_xor x p) (sym (xor_assoc a b p)) ∙ xor_assoc (bit_xor a b) p p
    ∙ ap (bit_xor (bit_xor a b)) (xor_self p) ∙ xor_zero_r (bit_xor a b)

-- what makes a scheme's step linear
pub record Lawful (s : Scheme) : Type 0 where
  pub bit : (r : ℕ) → (s.out r ≡ 0) ⊎ (s.out r ≡ 1)
  pub out_xor : (a b : ℕ) → s.out (bit_xor a b) ≡ bit_xor (s.out a) (s.out b)
  pub moved_xor : (a b : ℕ) → s.moved (bit_xor a b) ≡ bit_xor (s.moved a) (s.moved b)

pub stepped_xor : (s : Scheme) → Lawful s → (a b : ℕ) → stepped s (bit_xor a b) ≡ bit_xor (stepped s a) (stepped s b)
stepped_xor s L a b = cases (L.bit a) (L.bit b)
  where
    cases : (s.out a ≡ 0) ⊎ (s.out a ≡ 1) → (s.out b ≡ 0) ⊎ (s.out b ≡ 1) → stepped s (bit_xor a b) ≡ bit_xor (stepped s a) (stepped s b)
    cases (inl x) (inl y) = simp (L.out_xor, L.moved_xor, x, y)
    cases (inl x) (inr y) = simp (L.out_xor, L.moved_xor, x, y) (xor_assoc (s.moved a) (s.moved b) s.poly)
    cases (inr x) (inl y) = simp (L.out_xor, L.moved_xor, x, y) (sym (swap (s.moved a) s.poly (s.moved b)))
    cases (inr x) (inr y) = simp (L.out_xor, L.moved_xor, x, y) (sym (cancel (s.moved a) (s.moved b) s.poly))

pub steps_xor : (s : Scheme) → Lawful s → (n a b : ℕ) → steps s n (bit_xor a b) ≡ bit_xor (steps s n a) (steps s n b)
unfolding steps
steps_xor s L zero a b = refl
steps_xor s L (suc n) a b = ap (steps s n) (stepped_xor s L a b) ∙ steps_xor s L n (stepped s a) (stepped s b)

pub steps_steps : (s : Scheme) (n m r : ℕ) → steps s m (steps s n r) ≡ steps s (n + m) r
unfolding steps
steps_steps s zero m r = ap (λ k. steps s k r) (sym (zero-add m))
steps_steps s (suc n) m r = steps_steps s n m (stepped s r) ∙ ap (λ k. steps s k r) (sym (suc-add n m))

-- what is added to the register before a byte is added, eight steps on, after it
pub fed_xor : (s : Scheme) → Lawful s → (a c b : ℕ) → fed s (bit_xor a c) b ≡ bit_xor (steps s 8 a) (fed s c b)
unfolding fed
fed_xor s L a c b = ap (steps s 8) (xor_assoc a c (s.into b)) ∙ steps_xor s L 8 a (bit_xor c (s.into b))

-- the same over a row of bytes
pub run_xor : (s : Scheme) → Lawful s → (a c : ℕ) (bs : List ℕ) → run s (bit_xor a c) bs ≡ bit_xor (steps s (8 * length bs) a) (run s c bs)
unfolding run steps
run_xor s L a c [] = refl
run_xor s L a c (b ∷ bs) =
    let e : 8 + 8 * length bs ≡ 8 * suc (length bs) = omega arith in
    ap (λ r. run s r bs) (fed_xor s L a c b) ∙ run_xor s L (steps s 8 a) (fed s c b) bs
    ∙ ap (λ r. bit_xor r (run s (fed s c b) bs)) (steps_steps s 8 (8 * length bs) a ∙ ap (λ k. steps s k a) e)
