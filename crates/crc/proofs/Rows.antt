-- The register of any scheme over a row of bytes: in parts, by turns of several bytes, and byte by byte.
use Rattle.std.proofs.Common.{◌≡◌, ℕ, zero, suc, ◌+◌, ◌*◌, ◌/◌, List, [], ◌∷◌, ◌++◌, length, take, drop, fold, sym, refl, ap, ◌∙◌, arith}
use Rattle.std.specs.Simd.{first_chunks}
use Rattle.std.proofs.lemmas.List.{drop-drop, take-append-drop}
use Rattle.model.specs.Crc.{Scheme, fed, run}

pub run_end : (s : Scheme) (r : ℕ) → run s r [] ≡ r
unfolding run
run_end s r = refl

pub run_append : (s : Scheme) (r : ℕ) (xs ys : List ℕ) → run s r (xs ++ ys) ≡ run s (run s r xs) ys
unfolding run
run_append s r [] ys = refl
run_append s r (x ∷ xs) ys = run_append s (fed s r x) xs ys

-- byte by byte
pub run_bytes : (s : Scheme) (r : ℕ) (bs : List ℕ) → fold (fed s) r bs ≡ run s r bs
unfolding run
run_bytes s r [] = refl
run_bytes s r (b ∷ bs) = run_bytes s (fed s r b) bs

-- k turns of n bytes, and then the rest
run_turns : (s : Scheme) (n k r : ℕ) (bs : List ℕ) → run s (fold (run s) r (first_chunks n k bs)) (drop (k * n) bs) ≡ run s r bs
run_turns s n zero r bs =
    let e : 0 * n ≡ 0 = omega arith in
    ap (λ i. run s r (drop i bs)) e
run_turns s n (suc k) r bs =
    let e : suc k * n ≡ n + k * n = omega arith in
    ap (λ i. run s (fold (run s) (run s r (take n bs)) (first_chunks n k (drop n bs))) i) (ap (λ i. drop i bs) e ∙ sym (drop-drop (k * n) n bs))
    ∙ run_turns s n k (run s r (take n bs)) (drop n bs)
    ∙ sym (run_append s r (take n bs) (drop n bs)) ∙ ap (run s r) (take-append-drop n bs)

-- as many turns of n bytes as there are, and the rest byte by byte
pub in_turns : (s : Scheme) (n r m e : ℕ) (bs : List ℕ) → m ≡ fold (run s) r (first_chunks n (length bs / n) bs) → e ≡ fold (fed s) m (drop (length bs / n * n) bs) → e ≡ run s r bs
in_turns s n r m e bs p q =
    let k = length bs / n in
    q ∙ run_bytes s m (drop (k * n) bs) ∙ ap (λ x. run s x (drop (k * n) bs)) p ∙ run_turns s n k r bs
