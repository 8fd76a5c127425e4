-- A list's count over entries that are met: in a row, in a transaction, in all transactions.
use Rattle.std.proofs.Common.{◌≡◌, ℕ, zero, suc, ◌-◌, ◌<◌, ◌≤◌, false, cond, eqb, List, [], ◌∷◌, ◌++◌, map, length, take, sym, refl, ap, ◌∙◌, inl, inr, append_assoc, arith}
use Rattle.std.specs.List.{AllByRecursion}
use Rattle.std.proofs.lemmas.Bool.{cases_Bool, ne_eqb}
use Rattle.std.proofs.lemmas.Bool.Decides.{nat_tests}
use Rattle.model.specs.declared.types.Entry.{Entry}
use Rattle.model.specs.LogFragments.{sentinel}
use Rattle.model.specs.Section.{flat, latest}
use Rattle.model.specs.Means.{closed, CountsLists}
use Rattle.log_count.specs.declared.Tally.{Tally}
use Rattle.log_count.specs.Tallies.{met, met_all}

abbrev pub tally : ℕ → ℕ → ℕ → Tally
tally list left count = record { list = list; left = left; count = count }

-- once all transactions have ended, nothing changes
pub met_none : (t : Tally) (es : List Entry) → t.left ≡ 0 → met_all t es ≡ t
unfolding met_all
met_none t [] z = refl
met_none t (e ∷ es) z = rw z refl

-- else the first entry is met, and then the others
pub met_more : (t : Tally) (e : Entry) (es : List Entry) → 0 < t.left → met_all t (e ∷ es) ≡ met_all (met t e) es
unfolding met_all
met_more t e es l = let n : eqb t.left 0 ≡ false = ne_eqb _ _ (λ z. omega arith) in rw n refl

pub met_append : (t : Tally) (es more : List Entry) → met_all t (es ++ more) ≡ met_all (met_all t es) more
unfolding met_all
met_append t [] more = refl
met_append t (e ∷ es) more = elim (cases_Bool (eqb t.left 0)) [
  | inl a ↦ rw a (sym (met_none t more (grind (arith, nat_tests))))
  | inr a ↦ rw a (met_append (met t e) es more)
]

latest_append : (list n : ℕ) (es more : List Entry) → latest list n (es ++ more) ≡ latest list (latest list n es) more
unfolding latest
latest_append list n [] more = refl
latest_append list n (e ∷ es) more = latest_append list (cond (eqb e.source list) e.number n) es more

-- a transaction's entries for lists set the count, and its sentinel ends it
met_lists : (list left n : ℕ) (es more : List Entry) → CountsLists es → met_all (tally list (suc left) n) (es ++ more) ≡ met_all (tally list (suc left) (latest list n es)) more
unfolding latest
met_lists list left n [] more c = refl
met_lists list left n (e ∷ es) more (d, c) =
    let s : eqb e.source 1 ≡ false = ne_eqb _ _ d in
    met_more (tally list (suc left) n) e (es ++ more) (omega arith) ∙ rw s (met_lists list left (cond (eqb e.source list) e.number n) es more c)

met_transaction : (list left n : ℕ) (es more : List Entry) → CountsLists es → met_all (tally list (suc left) n) (closed es ++ more) ≡ met_all (tally list left (latest list n es)) more
met_transaction list left n es more c =
    let z : suc left - 1 ≡ left = omega arith in
    ap (met_all (tally list (suc left) n)) (append_assoc es (sentinel es ∷ []) more) ∙ met_lists list left n es (sentinel es ∷ more) c
    ∙ met_more (tally list (suc left) (latest list n es)) (sentinel es) more (omega arith)
    ∙ ap (λ k. met_all (tally list k (latest list n es)) more) z

-- so the count is the last in the first transactions, as many as were still to end
pub met_transactions : (list left n : ℕ) (ts : List (List Entry)) → AllByRecursion CountsLists ts → left ≤ length ts
    → met_all (tally list left n) (flat (map closed ts)) ≡ tally list 0 (latest list n (flat (take left ts)))
unfolding latest
met_transactions list zero n ts c l = met_none _ _ refl
met_transactions list (suc left) n [] c l = absurd (omega arith)
met_transactions list (suc left) n (t ∷ ts) (d, c) l =
    met_transaction list left n t (flat (map closed ts)) d ∙ met_transactions list left (latest list n t) ts c (omega arith)
    ∙ ap (tally list 0) (sym (latest_append list n t (flat (take left ts))))
