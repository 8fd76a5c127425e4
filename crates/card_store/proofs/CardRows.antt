-- Laws of a card's row.
use Rattle.std.proofs.Common.{◌≡◌, ℕ, suc, ◌+◌, ◌-◌, ◌*◌, ◌/◌, ◌%◌, ◌<◌, ◌≤◌, List, [], ◌∷◌, length, get_or, take, drop, sym, refl, ap, ◌∙◌, ⊎_elim, arith}
use Rattle.std.proofs.lemmas.List.{length-append, length-take, length-drop, ext_get_or, get_or-take, get_or-drop}
use Rattle.std.proofs.lemmas.Bool.{cases_lt, cases_order}
use Rattle.std.proofs.lemmas.List.{places}
use Rattle.std.proofs.lemmas.List.Concat.{get_or-flat_map}
use Rattle.store.specs.RowsLemmas.{length_written}
use Rattle.model.specs.Bytes.{piece, written}
use Rattle.card_store.specs.Cards.{block, card_row, spot, Inside, Apart}

length_block : (buffer : List ℕ) (b : ℕ) → 512 * b + 512 ≤ length buffer → length (block buffer b) ≡ 512
length_block buffer b h = simp (length-take, length-drop) (omega arith)

inside_rest : (size b : ℕ) (bs : List ℕ) → Inside size (b ∷ bs) (length (b ∷ bs)) → Inside size bs (length bs)
inside_rest size b bs ins i h = ins (suc i) (omega arith)

pub length_card_row : (buffer blocks : List ℕ) → Inside (length buffer) blocks (length blocks) → length (card_row buffer blocks) ≡ 512 * length blocks
length_card_row buffer [] ins = refl
length_card_row buffer (b ∷ bs) ins =
    let l = length_block buffer b (ins 0 (omega arith)) in
    let r = length_card_row buffer bs (inside_rest (length buffer) b bs ins) in
    simp length-append (omega arith)

pub get_or_card_row : (buffer blocks : List ℕ) (k : ℕ) → Inside (length buffer) blocks (length blocks) → k < 512 * length blocks
    → get_or (card_row buffer blocks) k 0 ≡ get_or buffer (spot blocks k) 0
get_or_card_row buffer blocks k ins h =
    let here = length_block buffer (get_or blocks (k / 512) 0) (ins (k / 512) (omega arith)) in
    let t = length-take (k / 512) blocks in
    let front = length_card_row buffer (take (k / 512) blocks) (λ i b.
    let same = get_or-take (k / 512) blocks i 0 (omega arith) in let e = ins i (omega arith) in omega arith) in
    let at : k ≡ length (card_row buffer (take (k / 512) blocks)) + k % 512 = omega arith in
    ap (λ i. get_or (card_row buffer blocks) i 0) at
    ∙ get_or-flat_map (block buffer) blocks (k / 512) (k % 512) 0 0 (omega arith) (omega arith)
    ∙ get_or-take 512 (drop (512 * get_or blocks (k / 512) 0) buffer) (k % 512) 0 (omega arith)
    ∙ get_or-drop (512 * get_or blocks (k / 512) 0) buffer (k % 512) 0

pub spot_apart : (blocks : List ℕ) (j k : ℕ) → Apart blocks (length blocks) → j < 512 * length blocks → k < 512 * length blocks
    → spot blocks j ≡ spot blocks k → j ≡ k
spot_apart blocks j k ap' hj hk e =
    let v : get_or blocks (j / 512) 0 ≡ get_or blocks (k / 512) 0 = omega arith in
    let m : j % 512 ≡ k % 512 = omega arith in
    ⊎_elim
    (λ (q : j / 512 ≡ k / 512). omega arith)
    (⊎_elim
    (λ (lt : j / 512 < k / 512). absurd (ap' (j / 512) (k / 512) (lt, omega arith) v))
    (λ (gt : k / 512 < j / 512). absurd (ap' (k / 512) (j / 512) (gt, omega arith) (sym v))))
    (cases_order (j / 512) (k / 512))

-- bytes of one block lie one behind the other
spot_on : (blocks : List ℕ) (k i : ℕ) → k % 512 + i < 512 → spot blocks (k + i) ≡ spot blocks k + i
spot_on blocks k i h =
    let q : (k + i) / 512 ≡ k / 512 = omega arith in
    let b = ap (λ j. get_or blocks j 0) q in
    omega arith

-- a part of the row that lies in one block, as a part of the buffer
module _ (buffer blocks : List ℕ) (k n : ℕ) (ins : Inside (length buffer) blocks (length blocks)) (one : k % 512 + n ≤ 512) (within : k + n ≤ 512 * length blocks) (some : 0 < n) where
  pub spot_room : spot blocks k + n ≤ length buffer
  spot_room = let e = ins (k / 512) (omega arith) in omega arith

  pub row_part : piece (card_row buffer blocks) k n ≡ piece buffer (spot blocks k) n
  unfolding piece
  row_part =
      let l = length_card_row buffer blocks ins in
      let room = spot_room in
      ext_get_or 0 _ _ (simp (length-take, length-drop) (omega arith)) (λ i h.
      let lt : i < n = omega (arith, length-take n (drop k (card_row buffer blocks))) in
      let e = get_or_card_row buffer blocks (k + i) ins (omega arith) in
      let s = ap (λ j. get_or buffer j 0) (spot_on blocks k i (omega arith)) in
      grind (arith, places, e, s))

-- what a write leaves where it does not reach, and what stands where it does
written_out : (xs : List ℕ) (p : ℕ) (new : List ℕ) (j : ℕ) → p ≤ length xs → (p ≤ j → j < p + length new → ⊥) → get_or (written xs p new) j 0 ≡ get_or xs j 0
unfolding written
written_out xs p new j b out =
    ⊎_elim
    (λ (below : j < p). grind (arith, places))
    (λ (from : p ≤ j).
    ⊎_elim
    (λ (to : j < p + length new). absurd (out from to))
    (λ (past : p + length new ≤ j). grind (arith, places))
    (cases_lt j (p + length new)))
    (cases_lt j p)

written_in : (xs : List ℕ) (p : ℕ) (new : List ℕ) (i : ℕ) → p ≤ length xs → i < length new → get_or (written xs p new) (p + i) 0 ≡ get_or new i 0
unfolding written
written_in xs p new i b h = grind (arith, places)

-- bytes written into the buffer at their spot, all in one block, are written into the row
module _ (buffer blocks : List ℕ) (k : ℕ) (new : List ℕ) (ins : Inside (length buffer) blocks (length blocks)) (apart : Apart blocks (length blocks)) (one : k % 512 + length new ≤ 512) (within : k + length new ≤ 512 * length blocks) (some : 0 < length new) where
  after : List ℕ
  after = written buffer (spot blocks k) new

  hit : (i : ℕ) → i < 512 * length blocks → spot blocks k ≤ spot blocks i → spot blocks i < spot blocks k + length new → i ≡ k + (spot blocks i - spot blocks k)
  hit i h from to =
      let s = spot_on blocks k (spot blocks i - spot blocks k) (omega arith) in
      spot_apart blocks i (k + (spot blocks i - spot blocks k)) apart h (omega arith) (omega arith)

  byte_out : (i : ℕ) → i < 512 * length blocks → (k ≤ i → i < k + length new → ⊥) → get_or after (spot blocks i) 0 ≡ get_or (written (card_row buffer blocks) k new) i 0
  unfolding after
  byte_out i h out =
      let room = spot_room buffer blocks k (length new) ins one within some in
      let l = length_card_row buffer blocks ins in
      written_out buffer (spot blocks k) new (spot blocks i) (omega arith) (λ from to. let e = hit i h from to in out (omega arith) (omega arith))
      ∙ sym (get_or_card_row buffer blocks i ins h)
      ∙ sym (written_out (card_row buffer blocks) k new i (omega arith) out)

  byte_in : (i : ℕ) → i < length new → get_or after (spot blocks (k + i)) 0 ≡ get_or (written (card_row buffer blocks) k new) (k + i) 0
  unfolding after
  byte_in i h =
      let room = spot_room buffer blocks k (length new) ins one within some in
      let l = length_card_row buffer blocks ins in
      ap (λ j. get_or after j 0) (spot_on blocks k i (omega arith))
      ∙ written_in buffer (spot blocks k) new i (omega arith) h
      ∙ sym (written_in (card_row buffer blocks) k new i (omega arith) h)

  byte_at : (i : ℕ) → i < 512 * length blocks → get_or after (spot blocks i) 0 ≡ get_or (written (card_row buffer blocks) k new) i 0
  byte_at i h =
      ⊎_elim
      (λ (below : i < k). byte_out i h (λ from to. omega arith))
      (λ (from : k ≤ i).
      ⊎_elim
      (λ (to : i < k + length new). let e : k + (i - k) ≡ i = omega arith in rw e at (byte_in (i - k) (omega arith)))
      (λ (past : k + length new ≤ i). byte_out i h (λ from to. omega arith))
      (cases_lt i (k + length new)))
      (cases_lt i k)

  pub row_written : card_row (written buffer (spot blocks k) new) blocks ≡ written (card_row buffer blocks) k new
  unfolding after
  row_written =
      let room = spot_room buffer blocks k (length new) ins one within some in
      let s = length_written buffer (spot blocks k) new (omega arith) in
      let ins' : Inside (length after) blocks (length blocks) = λ i b. let e = ins i b in omega arith in
      let l = length_card_row buffer blocks ins in
      let l' = length_card_row after blocks ins' in
      let n = length_written (card_row buffer blocks) k new (omega arith) in
      ext_get_or 0 _ _ (omega arith) (λ i b. get_or_card_row after blocks i ins' (omega arith) ∙ byte_at i (omega arith))
