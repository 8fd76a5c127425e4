-- The rule of the tables: for each number of zero bytes behind, and each byte, so many steps of the register.
use Rattle.std.proofs.Common.{◌≡◌, ℕ, ◌+◌, ◌*◌, ◌<◌, List, [], map, get_or, ap, ◌∙◌, arith}
use Rattle.std.specs.List.{range_with_len}
use Rattle.std.proofs.lemmas.List.FromFn.{get_or-map-range_with_len}
use Rattle.model.specs.Crc.{steps, crc_32}

abbrev pub table : ℕ → List ℕ
table zeros = map (steps crc_32 (8 + 8 * zeros)) (range_with_len 0 256)

pub entry : (zeros i : ℕ) → zeros < 8 → i < 256 → get_or (get_or (map table (range_with_len 0 8)) zeros []) i 0 ≡ steps crc_32 (8 + 8 * zeros) i
entry zeros i z h =
    ap (λ t. get_or t i 0) (get_or-map-range_with_len table 0 8 zeros zeros [] z (omega arith))
    ∙ get_or-map-range_with_len (steps crc_32 (8 + 8 * zeros)) 0 256 i i 0 h (omega arith)
