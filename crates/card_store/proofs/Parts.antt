-- A read and a write, part by part.
use Rattle.std.proofs.Common.{◌≡◌, ℕ, ◌+◌, ◌-◌, ◌≤◌, List, ◌++◌, length, get_or, take, drop, set, arith, rules}
use Rattle.std.proofs.lemmas.List.{same_lists, places, get_or-set_same, get_or_default}
use borrow.Rule.Slice.PartMut.{put_mid}
use Rattle.model.specs.Bytes.{piece, written}

-- a read of one byte
pub read_one : (row was : List ℕ) (k p n x : ℕ) → n ≡ 1 → p + n ≤ k → k ≤ length row → n ≤ length was → x ≡ get_or row p 0 → set was 0 x ≡ piece (take k row) p n ++ drop n was
unfolding piece
read_one row was k p n x o a b d e = rw e (same_lists _ _ (search (rules, places)) (λ j f h. let r = get_or_default row p 0 f (omega arith) in grind (arith, places, get_or-set_same)))

-- n more bytes of a read
pub read_on : (row was xs ys : List ℕ) (p i n : ℕ) → p + i + n ≤ length row → i + n ≤ length was → xs ≡ piece row p i ++ drop i was → ys ≡ piece row (p + i) n
    → put_mid i (i + n - i) xs ys ≡ piece row p (i + n) ++ drop (i + n) was
unfolding piece
read_on row was xs ys p i n a b e f = rw (e, f) (same_lists _ _ (search (rules, places)) (λ j d h. grind (arith, places)))

-- n more bytes of a write
pub written_on : (row was after : List ℕ) (p i n : ℕ) (new : List ℕ) → p + length new ≤ length row → i + n ≤ length new → was ≡ written row p (take i new)
    → after ≡ written was (p + i) (take (i + n - i) (drop i new)) → after ≡ written row p (take (i + n) new)
unfolding written
written_on row was after p i n new a b e f = rw (f, e) (same_lists _ _ (search (rules, places)) (λ j d h. grind (arith, places)))
