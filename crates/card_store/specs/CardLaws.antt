-- What a card's row is known to hold, whatever the map: no more than its blocks have, and bytes only.
use Rattle.std.specs.Prelude.{◌≡◌, ℕ, ◌-◌, ◌*◌, ◌<◌, ◌≤◌, List, [], ◌∷◌, length, take, drop, slice_index, refl}
use Rattle.std.proofs.Common.{⊎_elim, arith}
use Rattle.std.proofs.lemmas.Bool.{cases_lt}
use Rattle.std.proofs.lemmas.List.{length-append, length-take, get_or_append_left, get_or-append_right, get_or_past}
use Rattle.store.specs.RowsLemmas.{byte_take, byte_drop}
use Rattle.card_store.specs.Cards.{block, card_row}

pub row_within : (buffer blocks : List ℕ) → length (card_row buffer blocks) ≤ 512 * length blocks
row_within buffer [] = omega arith
row_within buffer (b ∷ bs) =
    let r = row_within buffer bs in
    let t = length-take 512 (drop (512 * b) buffer) in
    let l = length-append (block buffer b) (card_row buffer bs) in
    omega arith

pub row_byte : (buffer blocks : List ℕ) → ((k : ℕ) → slice_index buffer k < 256) → (k : ℕ) → slice_index (card_row buffer blocks) k < 256
row_byte buffer [] byte k = let e = get_or_past {X = ℕ} [] k 0 (omega arith) in omega arith
row_byte buffer (b ∷ bs) byte k =
    let here = byte_take (drop (512 * b) buffer) 512 k (λ i h. byte_drop buffer (512 * b) i byte) in
    let rest = row_byte buffer bs byte (k - length (block buffer b)) in
    ⊎_elim
    (λ (lt : k < length (block buffer b)). let e = get_or_append_left (block buffer b) (card_row buffer bs) 0 k lt in omega arith)
    (λ (ge : length (block buffer b) ≤ k). let e = get_or-append_right (block buffer b) (card_row buffer bs) (length (block buffer b)) k 0 refl ge in omega arith)
    (cases_lt k (length (block buffer b)))

pub bytes_within : (buffer blocks : List ℕ) (n blocks_len : ℕ) → blocks_len ≡ length blocks → length (take n (card_row buffer blocks)) ≤ 512 * blocks_len
bytes_within buffer blocks n m e = let r = row_within buffer blocks in let t = length-take n (card_row buffer blocks) in omega arith
