-- The lists in the order of their IDs: what they hold of each, before and after one is set.
use Rattle.std.proofs.Common.{◌≡◌, ℕ, zero, suc, ◌<◌, ◌≤◌, cond, eqb, List, [], ◌∷◌, length, get_or, set, Some, None, Result, Ok, Err, MatchResult, sym, refl, ap, ◌∙◌, inl, inr, arith}
use Rattle.std.specs.List.{All, AllPairs, AllWithin, HoldsAt, insert}
use Rattle.std.specs.List.Sorted.{IsPartitionPoint, IsNonDecreasingBy, IsSearchInRange, IsBinarySearchResult}
use Rattle.std.specs.Ordering.{nat_cmp, ordering_index}
use Rattle.std.proofs.lemmas.Cmp.{ranked}
use Rattle.std.proofs.lemmas.Bool.{cases_lt}
use Rattle.std.proofs.lemmas.Bool.Decides.{nat_tests}
use Rattle.bounded.proofs.Places.{AllPairs-insert}
use Rattle.counts.specs.declared.changes.Counted.{Counted}
use Rattle.counts.specs.Chains.{listed}

abbrev pub Rise : List Counted → Type 0
Rise ls = AllPairs (λ x y. x.list < y.list) ls

rise_tail : (x : Counted) (ls : List Counted) → Rise (x ∷ ls) → Rise ls
rise_tail x ls rise j k d h l = rise (suc j) (suc k) d (omega arith) (omega arith)

-- a list that stands there
pub listed_at : (ls : List Counted) (i : ℕ) (d : Counted) → Rise ls → i < length ls → listed (get_or ls i d).list ls ≡ Some (get_or ls i d).newest
unfolding listed
listed_at [] i d rise h = absurd (omega arith)
listed_at (x ∷ ls) zero d rise h = grind (arith, nat_tests)
listed_at (x ∷ ls) (suc i) d rise h =
    let ih = listed_at ls i d (rise_tail x ls rise) (omega arith) in
    let f : x.list < (get_or ls i d).list = rise 0 (suc i) d (omega arith) h in
    grind (arith, nat_tests)

-- one that does not
pub listed_none : (id : ℕ) (ls : List Counted) → All (λ x. x.list ≡ id → ⊥) ls → None ≡ listed id ls
unfolding listed
listed_none id [] other = refl
listed_none id (x ∷ ls) other =
    let ih = listed_none id ls (λ k d l. other (suc k) d (omega arith)) in
    let f : x.list ≡ id → ⊥ = other 0 x (omega arith) in
    grind (arith, nat_tests)

-- another change of a list that stands there
pub listed_set : (id : ℕ) (ls : List Counted) (i : ℕ) (d x : Counted) → Rise ls → i < length ls → (get_or ls i d).list ≡ x.list
    → listed id (set ls i x) ≡ cond (eqb x.list id) (Some x.newest) (listed id ls)
unfolding listed
listed_set id [] i d x rise h e = absurd (omega arith)
listed_set id (y ∷ ls) zero d x rise h e = grind (arith, nat_tests)
listed_set id (y ∷ ls) (suc i) d x rise h e =
    let ih = listed_set id ls i d x (rise_tail y ls rise) (omega arith) e in
    let f : y.list < (get_or ls i d).list = rise 0 (suc i) d (omega arith) h in
    grind (arith, nat_tests)

-- a list more at its place
pub listed_inserted : (id : ℕ) (ls : List Counted) (i : ℕ) (x : Counted) → AllWithin (λ y. y.list < x.list) ls 0 i → i ≤ length ls
    → listed id (insert ls i x) ≡ cond (eqb x.list id) (Some x.newest) (listed id ls)
unfolding listed
listed_inserted id ls zero x low h = refl
listed_inserted id [] (suc i) x low h = absurd (omega arith)
listed_inserted id (y ∷ ls) (suc i) x low h =
    let ih = listed_inserted id ls i x (λ k d b l. low (suc k) d (omega arith) (omega arith)) (omega arith) in
    let f : y.list < x.list = low 0 y (omega arith) (omega arith) in
    grind (arith, nat_tests)

module _ (ls : List Counted) (rise : Rise ls) (id : ℕ) where
  -- what a search by the IDs asks, and what it finds
  comparisons_rise : IsNonDecreasingBy (λ x. ordering_index (nat_cmp x.list id)) ls
  comparisons_rise i j d le l = elim (cases_lt i j) [
    | inl b ↦ let r = rise i j d b l in grind (arith, nat_tests)
    | inr b ↦ let e : i ≡ j = omega arith in rw e (omega arith)
  ]

  pub searched : (n : ℕ) → n ≡ length ls → (r : Result ℕ ℕ) → IsSearchInRange r (length ls) → IsBinarySearchResult (λ x. nat_cmp x.list id) ls r
      → MatchResult r (λ i. (i < n) × HoldsAt (λ x. x.list ≡ id) ls i) (λ i. (i ≤ n) × IsPartitionPoint (λ x. x.list < id) (λ x. id < x.list) ls i)
  searched n long (Ok i) within equal = (omega arith, λ d. ranked _ id _ (sym (equal d)))
  searched n long (Err i) within parted =
      let p = parted comparisons_rise in
      (omega arith, (λ k d h l. ranked _ id _ (sym (p.0 k d h l)), λ k d h l. ranked _ id _ (sym (p.1 k d h l))))

  -- the row of a list, as it is read there
  module _ (n : ℕ) (long : n ≡ length ls) (i : ℕ) (found : (i < n) × HoldsAt (λ x. x.list ≡ id) ls i) (x : Counted) (is : x ≡ get_or ls i x) where
    pub is_listed : Some x.newest ≡ listed id ls
    is_listed = let e = listed_at ls i x rise (omega (arith, found.0)) in ap Some (ap (λ y. y.newest) is) ∙ sym (rw (found.1 x) at e)

    pub set_listed : (newest z : ℕ) → listed z (set ls i (record { list = x.list; newest = newest })) ≡ cond (eqb id z) (Some newest) (listed z ls)
    set_listed newest z =
        let own : x.list ≡ id = ap (λ y. y.list) is ∙ found.1 x in
        rw (← own) (listed_set z ls i x (record { list = x.list; newest = newest }) rise (omega (arith, found.0)) (sym (ap (λ y. y.list) is)))

  module _ (i : ℕ) (place : IsPartitionPoint (λ x. x.list < id) (λ x. id < x.list) ls i) where
    pub not_listed : None ≡ listed id ls
    not_listed = listed_none id ls (λ k d l e. elim (cases_lt k i) [ inl b ↦ omega (arith, place.0 k d (omega arith) b) | inr b ↦ omega (arith, place.1 k d b l) ])

    -- a list more at its place
    pub rise_more : (x : Counted) → x.list ≡ id → i ≤ length ls → Rise (insert ls i x)
    rise_more x e within = AllPairs-insert (λ y z. y.list < z.list) ls i rise x within (λ k d h l. omega (arith, place.0 k d h l)) (λ k d h l. omega (arith, place.1 k d h l))
