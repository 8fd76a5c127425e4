-- Whether two pieces of a row are the same, chunk by chunk.
use Rattle.std.proofs.Common.{◌≡◌, ℕ, suc, ◌+◌, ◌-◌, ◌^◌, ◌<◌, ◌≤◌, min, Bool, true, false, ◌&&◌, eqb, ◌≢◌, List, [], ◌∷◌, ◌++◌, length, get_or, take, drop, sym, refl, ap, ap₂, ◌∙◌, inl, inr, arith}
use Rattle.std.specs.Cmp.Lexicographic.{pointwise}
use Rattle.std.proofs.lemmas.List.{places, take-append-drop, take-take, drop-drop, drop-take}
use Rattle.std.proofs.lemmas.Bool.{cases_Bool}
use Rattle.model.specs.Bytes.{piece, same_row}
use Rattle.format.specs.Windows.{Window}
use Rattle.format.proofs.Fetched.{piece_window}

-- equality as the code has it
pointwise_is : (xs ys : List ℕ) → pointwise eqb xs ys ≡ same_row xs ys
unfolding same_row
pointwise_is [] [] = refl
pointwise_is [] (y ∷ ys) = refl
pointwise_is (x ∷ xs) [] = refl
pointwise_is (x ∷ xs) (y ∷ ys) = ap (λ t. eqb x y && t) (pointwise_is xs ys)

same_join : (xs ys us vs : List ℕ) → length xs ≡ length us → same_row (xs ++ ys) (us ++ vs) ≡ (same_row xs us && same_row ys vs)
unfolding same_row
same_join [] ys [] vs e = refl
same_join [] ys (u ∷ us) vs e = absurd (omega arith)
same_join (x ∷ xs) ys [] vs e = absurd (omega arith)
same_join (x ∷ xs) ys (u ∷ us) vs e =
    let ih = same_join xs ys us vs (omega arith) in
    elim (cases_Bool (eqb x u)) [
      | inl t ↦ rw t ih
      | inr t ↦ rw t
    ]

other_length : (xs ys : List ℕ) → length xs ≢ length ys → same_row xs ys ≡ false
unfolding same_row
other_length [] [] n = absurd (n refl)
other_length [] (y ∷ ys) n = refl
other_length (x ∷ xs) [] n = refl
other_length (x ∷ xs) (y ∷ ys) n =
    let ih = other_length xs ys (λ e. n (ap suc e)) in
    elim (cases_Bool (eqb x y)) [
      | inl t ↦ rw t ih
      | inr t ↦ rw t
    ]

pub length_piece : (b : List ℕ) (p n : ℕ) → p + n ≤ length b → length (piece b p n) ≡ n
unfolding piece
length_piece b p n h = grind (arith, places)

piece_split : (b : List ℕ) (p n k : ℕ) → k ≤ n → piece b p n ≡ piece b p k ++ piece b (p + k) (n - k)
unfolding piece
piece_split b p n k h =
    let e : n ≡ k + (n - k) = omega arith in
    let rest : drop k (take n (drop p b)) ≡ take (n - k) (drop (p + k) b)
    = ap (λ z. drop k (take z (drop p b))) e ∙ drop-take k (n - k) (drop p b) ∙ ap (λ z. take (n - k) z) (drop-drop k p b) in
    sym (take-append-drop k (take n (drop p b))) ∙ ap₂ (λ xs ys. xs ++ ys) (take-take k n (drop p b) h) rest

-- pieces of different lengths
pub other_size : (b : List ℕ) (p q m n : ℕ) → m ≢ n → p + m ≤ length b → q + n ≤ length b → false ≡ same_row (piece b p m) (piece b q n)
other_size b p q m n d i j = sym (other_length (piece b p m) (piece b q n) (λ e. d (sym (length_piece b p m i) ∙ e ∙ length_piece b q n j)))

-- a chunk, and what is left behind it
pub same_split : (b : List ℕ) (p q n k : ℕ) → k ≤ n → p + n ≤ length b → q + n ≤ length b
    → same_row (piece b p n) (piece b q n) ≡ (same_row (piece b p k) (piece b q k) && same_row (piece b (p + k) (n - k)) (piece b (q + k) (n - k)))
same_split b p q n k h i j =
    ap₂ same_row (piece_split b p n k h) (piece_split b q n k h)
    ∙ same_join (piece b p k) (piece b (p + k) (n - k)) (piece b q k) (piece b (q + k) (n - k)) (length_piece b p k (omega arith) ∙ sym (length_piece b q k (omega arith)))

front : (row buffer : List ℕ) (p n : ℕ) → Window row p buffer → n ≤ length buffer → p + n ≤ length row → take n buffer ≡ piece row p n
front row buffer p n w h i =
    let part : Window row p (take n buffer) = λ j l.
    let lower : j < length buffer = grind (arith, places) in
    let e : get_or (take n buffer) j 0 ≡ get_or buffer j 0 = grind (arith, places) in
    e ∙ w j lower in
    piece_window row (take n buffer) p n part (grind (arith, places)) i

-- two buffers compared
pub same_fronts : (row one other : List ℕ) (p q n : ℕ) → Window row p one → Window row q other → n ≤ length one → n ≤ length other → p + n ≤ length row → q + n ≤ length row
    → pointwise eqb (take n one) (take n other) ≡ same_row (piece row p n) (piece row q n)
same_fronts row one other p q n v w h i j k = pointwise_is (take n one) (take n other) ∙ ap₂ same_row (front row one p n v h j) (front row other q n w i k)

-- the comparison of two pieces of n bytes, of which `at` were the same
module _ (b : List ℕ) (p q n at k : ℕ) (fits : at + k ≤ n) (one : p + n ≤ length b) (other : q + n ≤ length b) where
  abbrev left : ℕ → Bool
  left i = same_row (piece b (p + i) (n - i)) (piece b (q + i) (n - i))

  next : left at ≡ (same_row (piece b (p + at) k) (piece b (q + at) k) && left (at + k))
  next =
      let e : n - at - k ≡ n - (at + k) = omega arith in
      let f : p + at + k ≡ p + (at + k) = omega arith in
      let g : q + at + k ≡ q + (at + k) = omega arith in
      let s = same_split b (p + at) (q + at) (n - at) k (omega arith) (omega arith) (omega arith) in
      rw (e, f, g) at s

  module _ (most here there : ℕ) (r : Bool) (within : length b ≤ most) (few : most < 2 ^ 64) (here_is : here ≡ min (p + at) (2 ^ 64 - 1)) (there_is : there ≡ min (q + at) (2 ^ 64 - 1))
      (same : here + k ≤ length b → there + k ≤ length b → r ≡ same_row (piece b here k) (piece b there k)) (so_far : same_row (piece b p n) (piece b q n) ≡ left at) where
    chunk : same_row (piece b (p + at) k) (piece b (q + at) k) ≡ r
    chunk =
        let e : here ≡ p + at = omega arith in
        let f : there ≡ q + at = omega arith in
        sym (same (omega arith) (omega arith) ∙ ap₂ (λ i j. same_row (piece b i k) (piece b j k)) e f)

    pub same_more : r ≡ true → same_row (piece b p n) (piece b q n) ≡ left (at + k)
    same_more t = let e = chunk ∙ t in so_far ∙ next ∙ rw e

    pub same_not : r ≡ false → false ≡ same_row (piece b p n) (piece b q n)
    same_not t = let e = chunk ∙ t in sym (so_far ∙ next ∙ rw e)

pub same_end : (b : List ℕ) (p q n at : ℕ) → n ≤ at → same_row (piece b p n) (piece b q n) ≡ same_row (piece b (p + at) (n - at)) (piece b (q + at) (n - at)) → true ≡ same_row (piece b p n) (piece b q n)
unfolding piece same_row
same_end b p q n at l e = let g : n - at ≡ 0 = omega arith in sym (e ∙ rw g)
