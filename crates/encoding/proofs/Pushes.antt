-- What is pushed: one row after the other, and as much of it as there is room for.
use Rattle.std.proofs.Common.{◌≡◌, ℕ, zero, suc, ◌+◌, ◌-◌, ◌≤◌, min, List, [], ◌∷◌, ◌++◌, length, take, replicate, refl, ap, ◌∙◌, append_assoc, arith, rules}
use Rattle.std.proofs.lemmas.List.{same_lists, places, append-nil, take_all, take-replicate, length-replicate}
use Rattle.encoding.specs.Buffers.{most, pushed, zeros}

take_cut : (m : ℕ) (xs ys : List ℕ) → take m (take m xs ++ ys) ≡ take m (xs ++ ys)
take_cut zero xs ys = refl
take_cut (suc m) [] ys = refl
take_cut (suc m) (x ∷ xs) ys = ap (λ zs. x ∷ zs) (take_cut m xs ys)

-- one row after the other
pub pushed_both : (old a b : List ℕ) → pushed (pushed old a) b ≡ pushed old (a ++ b)
unfolding pushed
pushed_both old a b = take_cut most (old ++ a) b ∙ ap (take most) (append_assoc old a b)

pub pushed_none : (old : List ℕ) → length old ≤ most → pushed old [] ≡ old
unfolding pushed
pushed_none old h = ap (take most) (append-nil old) ∙ take_all most old h

-- as many as there is room for
fitted : (m : ℕ) (old new : List ℕ) (n : ℕ) → length old ≤ m → n ≡ min (length new) (m - length old) → old ++ take n new ≡ take m (old ++ new)
fitted m old new n h e = same_lists _ _ (search (rules, places)) (λ k d l. grind (arith, places))

-- as many of a row's first as fit
pub push_of_part : (old new : List ℕ) (n : ℕ) → length old ≤ most → n ≡ min (length new) (most - length old) → old ++ take n new ≡ pushed old new
unfolding pushed
push_of_part old new n h e = fitted most old new n h e

-- as many zeros as fit
pub push_of_zeros : (old : List ℕ) (n end : ℕ) → length old ≤ most → end ≡ length old + min n (most - length old) → take end old ++ replicate (end - length old) 0 ≡ pushed old (zeros n)
push_of_zeros old n end h e =
    let k = end - length old in
    let l : length (zeros n) ≡ n = length-replicate n 0 in
    let part : take k (zeros n) ≡ zeros k = take-replicate k n 0 (omega arith) in
    let whole : take end old ≡ old = take_all end old (omega arith) in
    rw (whole, ← part) (push_of_part old (zeros n) k h (omega arith))
