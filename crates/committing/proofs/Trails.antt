-- Writes made one after the other.
use Rattle.std.proofs.Common.{ℕ, List, [], ◌∷◌, ◌++◌, length, subst, sym, append_assoc}
use Rattle.std.proofs.lemmas.List.{append-nil}
use Rattle.model.specs.Bytes.{Write}
use Rattle.model.specs.Laws.{Taken}
use Rattle.committing.specs.Made.{Made}

pub made_none : {S : Type 0} (W : S → List Write → S → Type 0) (b : S → List ℕ) (m : S → ℕ) (s : S) → Made W b m s s []
unfolding Made
made_none W b m s later last taken = (λ w. w, taken)

pub made_both : {S : Type 0} (W : S → List Write → S → Type 0) (b : S → List ℕ) (m : S → ℕ) (s t u : S) (ws vs : List Write)
    → Made W b m s t ws → Made W b m t u vs → Made W b m s u (ws ++ vs)
unfolding Made
made_both W b m s t u ws vs first second later last taken =
    let (before, next) = first (vs ++ later) last (subst (Taken (length (b s)) (m s)) (append_assoc ws vs later) taken) in
    let (behind, left) = second later last next in
    (λ w. subst (λ (xs : List Write). W s xs last) (sym (append_assoc ws vs later)) (before (behind w)), left)

-- a write that was made, and behind which others go
pub made_one : {S : Type 0} (W : S → List Write → S → Type 0) (b : S → List ℕ) (m : S → ℕ) (s t : S) (w : Write)
    → ((x y z : S) (us vs : List Write) → W x us y → W y vs z → W x (us ++ vs) z)
    → ((later : List Write) → Taken (length (b s)) (m s) (w ∷ later) → W s (w ∷ []) t)
    → ((later : List Write) → Taken (length (b s)) (m s) (w ∷ later) → Taken (length (b t)) (m t) later)
    → Made W b m s t (w ∷ [])
unfolding Made
made_one W b m s t w more wrote left later last taken = (λ v. more s t last (w ∷ []) later (wrote later taken) v, left later taken)

-- all that a store takes were made
pub made_all : {S : Type 0} (W : S → List Write → S → Type 0) (b : S → List ℕ) (m : S → ℕ) (s t : S) (ws : List Write)
    → Made W b m s t ws → W t [] t → Taken (length (b s)) (m s) ws → W s ws t
unfolding Made
made_all W b m s t ws made none taken =
    let e = append-nil ws in
    subst (λ (xs : List Write). W s xs t) e ((made [] t (subst (Taken (length (b s)) (m s)) (sym e) taken)).0 none)
