-- What a card's own invariant says of its row.
use Rattle.std.proofs.Common.{◌≡◌, ℕ, ◌+◌, ◌*◌, ◌%◌, ◌<◌, ◌≤◌, List, length, get_or, take, sym, vec_items, vec_len, arith}
use Rattle.model.specs.Bytes.{piece, written}
use Rattle.card_store.specs.declared.Card.{Card}
use Rattle.card_store.specs.Cards.{card_row, spot, Inside}
use Rattle.std.proofs.lemmas.List.{length-take-le}
use Rattle.card_store.proofs.CardRows.{length_card_row, get_or_card_row, row_part, row_written}

abbrev pub row_of : Card → List ℕ
row_of d = card_row (vec_items d.buffer) (vec_items d.blocks)

module _ (d : Card) where
  pub card_inside : Inside (length (vec_items d.buffer)) (vec_items d.blocks) (length (vec_items d.blocks))
  card_inside i h = let e = d.inside i h in omega (arith, d.buffer.ok.0)

  pub length_row : length (row_of d) ≡ 512 * vec_len d.blocks
  length_row = let e = length_card_row (vec_items d.buffer) (vec_items d.blocks) card_inside in omega (arith, d.blocks.ok.0)

  pub length_bytes : length (take d.len (row_of d)) ≡ d.len
  length_bytes = length-take-le d.len _ (omega (arith, length_row, d.within))

  module _ (k : ℕ) where
    pub byte_of : k < 512 * vec_len d.blocks → get_or (vec_items d.buffer) (spot (vec_items d.blocks) k) 0 ≡ get_or (row_of d) k 0
    byte_of h = sym (get_or_card_row (vec_items d.buffer) (vec_items d.blocks) k card_inside (omega (arith, d.blocks.ok.0)))

    pub part_of : (n : ℕ) → k % 512 + n ≤ 512 → k + n ≤ 512 * vec_len d.blocks → 0 < n → piece (row_of d) k n ≡ piece (vec_items d.buffer) (spot (vec_items d.blocks) k) n
    part_of n one within some = row_part (vec_items d.buffer) (vec_items d.blocks) k n card_inside one (omega (arith, d.blocks.ok.0)) some

    pub with_part : (new : List ℕ) → k % 512 + length new ≤ 512 → k + length new ≤ 512 * vec_len d.blocks → 0 < length new
        → card_row (written (vec_items d.buffer) (spot (vec_items d.blocks) k) new) (vec_items d.blocks) ≡ written (row_of d) k new
    with_part new one within some = row_written (vec_items d.buffer) (vec_items d.blocks) k new card_inside d.apart one (omega (arith, d.blocks.ok.0)) some
