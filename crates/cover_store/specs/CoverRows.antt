-- Laws of a row without its first k bytes: what a store's calls do, seen through the cut.
use Rattle.std.specs.Prelude.{◌≡◌, ℕ, ◌+◌, ◌*◌, ◌<◌, ◌≤◌, List, [], ◌∷◌, ◌++◌, length, drop, Ok, Err, Result, refl}
use Rattle.std.proofs.Common.{sym, ap, ◌∙◌, arith, rules}
use Rattle.std.proofs.lemmas.List.{same_lists, places, length-drop}
use Rattle.std.proofs.lemmas.Bool.Decides.{nat_tests}
use Rattle.model.specs.Bytes.{Write, put, piece, written}
use Rattle.store.specs.declared.base.StoreFault.{StoreFault}
use Rattle.store.specs.Rows.{Reads, Writes, if_done}
use Rattle.cover_store.specs.Covers.{cut_most, shifted}
use Rattle.store.specs.RowsLemmas.{length_written}

pub cut_within : (row : List ℕ) (most k : ℕ) → length row ≤ most → length (drop k row) ≤ cut_most row most k
cut_within row most k h = grind (arith, nat_tests, length-drop)

pub piece_drop : (row : List ℕ) (k p n : ℕ) → piece row (k + p) n ≡ piece (drop k row) p n
unfolding piece
piece_drop row k p n = same_lists _ _ (search (rules, places)) (λ i d g. grind (arith, places))

pub written_drop : (row : List ℕ) (k p : ℕ) (new : List ℕ) → k + p ≤ length row → drop k (written row (k + p) new) ≡ written (drop k row) p new
unfolding written
written_drop row k p new h = same_lists _ _ (search (rules, places)) (λ i d g. grind (arith, places))

pub read_cut : {T : Type 0} (row : List ℕ) (k p n : ℕ) (was is : List ℕ) (r : Result T StoreFault) → p ≤ length (drop k row) → 0 < n
    → Reads row (k + p) n was is r → Reads (drop k row) p n was is r
read_cut row k p n was is (Ok x) b z (a, f, e) = let l = length-drop k row in (omega arith, f, e ∙ ap (λ xs. xs ++ drop n was) (piece_drop row k p n))
read_cut row k p n was is (Err x) b z (a, same, e) = let l = length-drop k row in ((λ u v. a (omega arith) v), same, e)

pub wrote_cut : {T : Type 0} (row : List ℕ) (most k p : ℕ) (new after : List ℕ) (r : Result T StoreFault) → p ≤ length (drop k row) → 0 < length new
    → Writes row most (k + p) new after r → Writes (drop k row) (cut_most row most k) p new (drop k after) r
wrote_cut row most k p new after (Ok x) b z (a, f, e) = let l = length-drop k row in (b, grind (arith, nat_tests), ap (drop k) e ∙ written_drop row k p new a)
wrote_cut row most k p new after (Err x) b z (a, same, e) = let l = length-drop k row in ((λ u v. a (grind (arith, nat_tests)) (grind (arith, nat_tests))), ap (drop k) same, e)

pub most_cut : {T : Type 0} (row : List ℕ) (most later k p : ℕ) (new after : List ℕ) (r : Result T StoreFault) → later ≡ most
    → Writes row most (k + p) new after r → cut_most after later k ≡ cut_most row most k
most_cut row most later k p new after (Ok x) q (a, f, e) = let l = ap length e ∙ length_written row (k + p) new a in grind (arith, nat_tests)
most_cut row most later k p new after (Err x) q (a, same, e) = ap (λ xs. cut_most xs later k) same ∙ ap (λ m. cut_most row m k) q

-- ---- writes seen through the cut

pub shifted_append : (k : ℕ) (v w : List Write) → shifted k (v ++ w) ≡ shifted k v ++ shifted k w
shifted_append k [] w = refl
shifted_append k (x ∷ v) w = let e = shifted_append k v w in grind (arith, nat_tests)

-- two covers of one size, one after the other
pub shifted_joined : (n m : ℕ) (v w : List Write) → m ≡ n → shifted (512 * n) v ++ shifted (512 * m) w ≡ shifted (512 * n) (v ++ w)
shifted_joined n m v w e = ap (λ i. shifted (512 * n) v ++ shifted (512 * i) w) e ∙ sym (shifted_append (512 * n) v w)

pub shifted_none : (k p : ℕ) (new : List ℕ) → length new ≡ 0 → shifted k (put p new ∷ []) ≡ []
shifted_none k p new z = grind (arith, nat_tests)

pub shifted_made : {T : Type 0} (k p : ℕ) (new : List ℕ) (r : Result T StoreFault) → 0 < length new → shifted k (if_done r (put p new)) ≡ if_done r (put (k + p) new)
shifted_made k p new (Ok x) h = grind (arith, nat_tests)
shifted_made k p new (Err e) h = refl
