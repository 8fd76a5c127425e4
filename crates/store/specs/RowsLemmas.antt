-- Laws of rows: pieces and writes, and the same of a row without its first bytes.
use Rattle.std.specs.Prelude.{◌≡◌, ℕ, ◌+◌, ◌<◌, ◌≤◌, min, max, List, [], ◌∷◌, ◌++◌, length, take, drop, Ok, Err, Result, MatchResult, slice_index, refl}
use Rattle.std.proofs.Common.{sym, ap, ◌∙◌, ⊎_elim, arith, rules}
use Rattle.std.proofs.lemmas.List.{same_lists, places, length-append, length-take, length-drop, get_or-take, get_or-drop, get_or_past}
use Rattle.std.proofs.lemmas.Bool.{cases_lt}
use Rattle.model.specs.Bytes.{Write, put, piece, written, applied}
use Rattle.store.specs.declared.base.StoreFault.{StoreFault}
use Rattle.store.specs.Rows.{Reads, Writes, if_done}

pub piece_take : (row : List ℕ) (p n k : ℕ) → p + n ≤ k → k ≤ length row → piece (take k row) p n ≡ piece row p n
unfolding piece
piece_take row p n k h l = same_lists _ _ (search (rules, places)) (λ i d g. grind (arith, places))

pub length_written : (old : List ℕ) (p : ℕ) (new : List ℕ) → p ≤ length old → length (written old p new) ≡ max (length old) (p + length new)
unfolding written
length_written old p new h = simp (length-append, length-take, length-drop) (omega arith)

-- a write into the front of a row, and its end after
pub written_front : (all : List ℕ) (k p : ℕ) (new : List ℕ) (m : ℕ) → k ≤ length all → p ≤ k → p + length new ≤ length all → m ≡ max k (p + length new)
    → take m (written all p new) ≡ written (take k all) p new
unfolding written
written_front all k p new m a b c e = same_lists _ _ (search (rules, places)) (λ i d h. grind (arith, places))

-- nothing read or written
pub read_none : (row : List ℕ) (p n : ℕ) (was : List ℕ) → n ≡ 0 → was ≡ piece row p n ++ drop n was
unfolding piece
read_none row p n was z = same_lists _ _ (search (rules, places)) (λ i d g. grind (arith, places))

pub written_none : (row : List ℕ) (p : ℕ) (new : List ℕ) → length new ≡ 0 → written row p new ≡ row
unfolding written
written_none row p new z = same_lists _ _ (search (rules, places)) (λ i d g. grind (arith, places))

-- what was written is read
pub piece_written : (row : List ℕ) (p : ℕ) (new : List ℕ) → p ≤ length row → piece (written row p new) p (length new) ≡ new
unfolding piece written
piece_written row p new h = same_lists _ _ (search (rules, places)) (λ i d g. grind (arith, places))

pub read_back : {T : Type 0} (row : List ℕ) (p : ℕ) (new after was is : List ℕ) (r : Result T StoreFault)
    → p ≤ length row → length new ≤ length was → after ≡ written row p new → Reads after p (length new) was is r
    → MatchResult r (λ x. is ≡ new ++ drop (length new) was) (λ x. ⊥)
read_back row p new after was is (Ok x) a c e (h, f, q) = q ∙ ap (λ xs. xs ++ drop (length new) was) (ap (λ xs. piece xs p (length new)) e ∙ piece_written row p new a)
read_back row p new after was is (Err x) a c e (h, same, q) = let l = ap length e ∙ length_written row p new a in h (omega arith) c

-- writes in a row, after writes
pub applied_append : (b : List ℕ) (v w : List Write) → applied b (v ++ w) ≡ applied (applied b v) w
unfolding applied
applied_append b [] w = refl
applied_append b (x ∷ v) w = applied_append (written b x.place x.new) v w

pub applied_more : (b c d : List ℕ) (v w : List Write) → c ≡ applied b v → d ≡ applied c w → d ≡ applied b (v ++ w)
applied_more b c d v w e f = f ∙ ap (λ r. applied r w) e ∙ sym (applied_append b v w)

-- bytes stay bytes in a piece of their row
pub byte_take : (xs : List ℕ) (n k : ℕ) → ((i : ℕ) → i < length xs → slice_index xs i < 256) → slice_index (take n xs) k < 256
byte_take xs n k h =
    let l = length-take n xs in
    ⊎_elim
    (λ (lt : k < min n (length xs)). let e = get_or-take n xs k 0 (omega arith) in let b = h k (omega arith) in omega arith)
    (λ (ge : min n (length xs) ≤ k). let e = get_or_past (take n xs) k 0 (omega arith) in omega arith)
    (cases_lt k (min n (length xs)))

pub byte_drop : (xs : List ℕ) (n k : ℕ) → ((i : ℕ) → slice_index xs i < 256) → slice_index (drop n xs) k < 256
byte_drop xs n k h = let e = get_or-drop n xs k 0 in let b = h (n + k) in omega arith

-- a row after the writes that a call made
pub row_made : {T : Type 0} (row : List ℕ) (most p : ℕ) (new after : List ℕ) (r : Result T StoreFault) → Writes row most p new after r → after ≡ applied row (if_done r (put p new))
unfolding applied
row_made row most p new after (Ok x) w = w.2
row_made row most p new after (Err e) w = w.1
