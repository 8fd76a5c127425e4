-- What is read inside a range that is the same in two rows is the same: numbers, pieces, nodes.
use Rattle.std.proofs.Common.{◌≡◌, ℕ, zero, suc, ◌+◌, ◌<◌, ◌≤◌, List, length, get_or, refl, ◌∙◌, arith, rules}
use Rattle.std.proofs.lemmas.List.{places, same_lists, get_or_default}
use Rattle.std.proofs.lemmas.Bool.Decides.{nat_tests}
use Rattle.model.specs.Bytes.{le, piece, Same}
use Rattle.model.specs.References.{start_width, size_width}
use Rattle.model.specs.Nodes.{size_bits, stp_bits, cb_bits, reference_width, node_at}

pub le_same : (n : ℕ) (b c : List ℕ) (p : ℕ) → Same b c p (p + n) → le n b p ≡ le n c p
unfolding le
le_same zero b c p s = refl
le_same (suc n) b c p s = cc (s p (omega arith) (omega arith), le_same n b c (p + 1) (λ i l h. s i (omega arith) (omega arith)))

pub le_in : (n : ℕ) (b c : List ℕ) (lo hi p : ℕ) → Same b c lo hi → lo ≤ p → p + n ≤ hi → le n b p ≡ le n c p
le_in n b c lo hi p s l h = le_same n b c p (λ i j k. s i (omega arith) (omega arith))

pub piece_in : (b c : List ℕ) (lo hi p n : ℕ) → Same b c lo hi → hi ≤ length b → hi ≤ length c → lo ≤ p → p + n ≤ hi → piece b p n ≡ piece c p n
unfolding piece
piece_in b c lo hi p n s x y l h = same_lists _ _ (search (rules, places)) (λ k d j.
    let m : k < n = grind (arith, places) in
    let e : get_or b (p + k) d ≡ get_or c (p + k) d = get_or_default b (p + k) d 0 (omega arith) ∙ (s (p + k) (omega arith) (omega arith) ∙ get_or_default c (p + k) 0 d (omega arith)) in
    grind (arith, places))

-- a node that passes is the same node
pub node_within : (b c : List ℕ) (lo hi p : ℕ) → Same b c lo hi → hi ≤ length b → hi ≤ length c → lo ≤ p
    → 4 + reference_width (le 4 b p) ≤ size_bits (le 4 b p) → p + size_bits (le 4 b p) ≤ hi → node_at b p ≡ node_at c p
node_within b c lo hi p s x y l g h =
    let v : le 4 b p ≡ le 4 c p = le_in 4 b c lo hi p s l (omega arith) in
    let first = start_width (stp_bits (le 4 b p)) in
    let second = size_width (cb_bits (le 4 b p)) in
    let w = le_in first b c lo hi (p + 4) s in
    let z = le_in second b c lo hi (p + 4 + first) s in
    grind (arith, nat_tests, w, z, piece_in b c lo hi)
