-- What a buffer holds after a read, and the numbers in it.
use Rattle.std.proofs.Common.{◌≡◌, ℕ, zero, suc, ◌+◌, ◌-◌, ◌<◌, ◌≤◌, min, List, ◌++◌, length, get_or, take, drop, replicate, Ok, Err, Result, sym, refl, ap, ◌∙◌, inl, inr, ⊎_elim, add-zero, add_assoc, zero-add, arith}
use Rattle.std.proofs.lemmas.List.{places, ext_get_or, get_or_past}
use Rattle.std.proofs.lemmas.Bool.{cases_lt}
use Rattle.model.specs.Bytes.{le, piece}
use Rattle.store.specs.declared.base.StoreFault.{StoreFault}
use Rattle.store.specs.Rows.{Reads}
use Rattle.format.specs.Windows.{Window}

-- n bytes that stand elsewhere, with zeros behind them, are the same number
pub le_padded : (m n : ℕ) (b c : List ℕ) (p q : ℕ) → n ≤ m → ((i : ℕ) → i < n → get_or b (p + i) 0 ≡ get_or c (q + i) 0) → ((i : ℕ) → n ≤ i → i < m → get_or b (p + i) 0 ≡ 0)
    → le m b p ≡ le n c q
unfolding le
le_padded zero zero b c p q h s z = refl
le_padded zero (suc n) b c p q h s z = absurd (omega arith)
le_padded (suc m) zero b c p q h s z =
    let e = le_padded m zero b c (p + 1) q (omega arith) (λ i l. absurd (omega arith)) (λ i k l. rw add_assoc (z (1 + i) (omega arith) (omega arith))) in
    let f = rw add-zero at (z 0 (omega arith) (omega arith)) in
    omega (arith, e, f)
le_padded (suc m) (suc n) b c p q h s z =
    cc (
      add-zero p,
      add-zero q,
      s 0 (omega arith),
      le_padded m n b c (p + 1) (q + 1) (omega arith) (λ i l. rw (add_assoc, add_assoc) (s (1 + i) (omega arith)))
          (λ i k l. rw add_assoc (z (1 + i) (omega arith) (omega arith))),
    )

-- n bytes that stand elsewhere are the same number
pub le_moved : (n : ℕ) (b c : List ℕ) (p q : ℕ) → ((i : ℕ) → i < n → get_or b (p + i) 0 ≡ get_or c (q + i) 0) → le n b p ≡ le n c q
le_moved n b c p q s = le_padded n n b c p q (omega arith) s (λ i h l. absurd (omega arith))

-- the number of n bytes of a buffer, at k
pub le_window : (n : ℕ) (row buffer : List ℕ) (p k : ℕ) → Window row p buffer → k + n ≤ length buffer → le n buffer k ≡ le n row (p + k)
le_window n row buffer p k w h = le_moved n buffer row k (p + k) (λ i l. w (k + i) (omega arith) ∙ ap (λ j. get_or row j 0) (sym (add_assoc p k i)))

-- the number of its first n bytes
pub le_front : (n : ℕ) (row buffer : List ℕ) (p : ℕ) → Window row p buffer → n ≤ length buffer → le n buffer 0 ≡ le n row p
le_front n row buffer p w h = le_window n row buffer p 0 w (omega arith) ∙ ap (le n row) (add-zero p)

-- the number of a part of a buffer, from k on
pub le_part : (row buffer part : List ℕ) (p k n : ℕ) → Window row p buffer → k + n ≤ length buffer → length part ≡ n → ((i : ℕ) → i < n → get_or part i 0 ≡ get_or buffer (k + i) 0)
    → le (length part) part 0 ≡ le n row (p + k)
le_part row buffer part p k n w h e s =
    ap (λ m. le m part 0) e ∙ le_moved n part buffer 0 k (λ i l. ap (λ j. get_or part j 0) (zero-add i) ∙ s i l) ∙ le_window n row buffer p k w h

past : (row : List ℕ) (p n m i : ℕ) → n ≡ min (length row - p) m → n ≤ i → i < m → get_or row (p + i) 0 ≡ 0
past row p n m i e h l = get_or_past row (p + i) 0 (omega arith)

-- a buffer with zeros from n on, n being as many bytes as the row has from p on, or as the buffer takes: a read of n bytes makes it a window
window_read : {T : Type 0} (row : List ℕ) (p n : ℕ) (was is : List ℕ) (r : Result T StoreFault) → n ≡ min (length row - p) (length was)
    → ((i : ℕ) → n ≤ i → i < length was → get_or was i 0 ≡ 0) → Reads row p n was is r → Window row p is
unfolding piece
window_read row p n was is (Ok x) e z (a, f, q) i h =
    let m : length is ≡ length was = ap length q ∙ grind (arith, places) in
    ⊎_elim
    (λ (lt : i < n). ap (λ ys. get_or ys i 0) q ∙ grind (arith, places))
    (λ (ge : n ≤ i).
    let k : get_or (take n (drop p row) ++ drop n was) i 0 ≡ get_or was i 0 = grind (arith, places) in
    ap (λ ys. get_or ys i 0) q ∙ k ∙ z i ge (omega arith) ∙ sym (past row p n (length was) i e ge (omega arith)))
    (cases_lt i n)
window_read row p n was is (Err x) e z (a, same, q) i h =
    let none : n ≡ 0 = omega (arith, length_none row p n was e a) in
    let m = ap length same in
    ap (λ ys. get_or ys i 0) same ∙ z i (omega arith) (omega arith) ∙ sym (past row p n (length was) i e (omega arith) (omega arith))
  where
    length_none : (row : List ℕ) (p n : ℕ) (was : List ℕ) → n ≡ min (length row - p) (length was) → (p + n ≤ length row → n ≤ length was → ⊥) → length row < p + n
    length_none row p n was e a = elim (cases_lt (length row) (p + n)) [ inl lt ↦ lt | inr ge ↦ absurd (a ge (omega arith)) ]

-- a read that is done and takes the whole buffer makes it a window
pub window_whole : (row : List ℕ) (p : ℕ) (was is : List ℕ) → p + length was ≤ length row → is ≡ piece row p (length was) ++ drop (length was) was → Window row p is
unfolding piece
window_whole row p was is f q i h =
    let m : length is ≡ length was = ap length q ∙ grind (arith, places) in
    ap (λ ys. get_or ys i 0) q ∙ grind (arith, places)

-- so a read into a buffer whose part from n on was filled with 0
pub window_fill : {T : Type 0} (row : List ℕ) (p n : ℕ) (buffer part is : List ℕ) (r : Result T StoreFault) → n ≡ min (length row - p) (length buffer)
    → part ≡ replicate (length (take (length buffer - n) (drop n buffer))) 0 → Reads row p n (take n buffer ++ (part ++ drop (length buffer - n) (drop n buffer))) is r
    → Window row p is
window_fill row p n buffer part is r e z d =
    let was = take n buffer ++ (part ++ drop (length buffer - n) (drop n buffer)) in
    let l : length was ≡ length buffer = grind (arith, places) in
    window_read row p n was is r (e ∙ ap (min (length row - p)) (sym l)) (λ i a b. grind (arith, places)) d

-- a buffer that is a window into a row is a piece of it, where the row reaches so far
pub piece_window : (row buffer : List ℕ) (p n : ℕ) → Window row p buffer → length buffer ≡ n → p + n ≤ length row → buffer ≡ piece row p n
unfolding piece
piece_window row buffer p n w l h =
    let m : length (take n (drop p row)) ≡ n = grind (arith, places) in
    ext_get_or 0 buffer (take n (drop p row)) (l ∙ sym m) (λ i b. w i b ∙ grind (arith, places))
