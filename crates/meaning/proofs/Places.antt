-- Where a fragment may stand: the checks of its place, and what they say of it.
use Rattle.std.proofs.Common.{◌≡◌, ℕ, ◌<◌, ◌≤◌, Bool, true, false, List, [], ◌∷◌, length, ◌∙◌, inl, inr, arith}
use Rattle.std.specs.List.{AllByRecursion}
use Rattle.std.proofs.lemmas.Bool.{cases_Bool, both_ways, cond_both, cond-true, cond-false}
use Rattle.model.specs.declared.types.Span.{Span}
use Rattle.model.specs.declared.types.Fault.{Fault}
use Rattle.model.specs.Faults.{fault, Outcome, refused, Check, unless}
use Rattle.model.specs.Headers.{header_span}
use Rattle.model.specs.OpenedLog.{outside, overlaps}
use Rattle.model.specs.Means.{Apart, Inside}
use Rattle.model.specs.Breaks.{Misplaced, Placed}
use Rattle.model.specs.Breaks.Misplaced.{outside as is_outside, full, overlap}
use Rattle.meaning.proofs.Base.{inside_passes, inside, apart_overlaps, overlaps_apart}

-- a test that is true where its rule is broken
pub by_rule : (t : Bool) (P : Type 0) → (t ≡ false → P) → (P → ⊥) → t ≡ true
by_rule t P k n = elim (cases_Bool t) [
  | inl e ↦ e
  | inr e ↦ absurd (n (k e))
]

pub not_inside : (least end : ℕ) (f : Span) → 1 ≤ least → outside least end f ≡ true → Inside least end f → ⊥
not_inside least end f o e i = both_ways (outside least end f) (inside_passes least end f o i) e

pub is_not_inside : (least end : ℕ) (f : Span) → (Inside least end f → ⊥) → outside least end f ≡ true
is_not_inside least end f n = by_rule (outside least end f) (Inside least end f) (inside least end f) n

pub not_apart : (f : Span) (before : List Span) → overlaps f before ≡ true → AllByRecursion (Apart f) (header_span ∷ before) → ⊥
not_apart f before e a = both_ways (overlaps f before) (apart_overlaps f before a.0 a.1) e

pub is_not_apart : (f : Span) (before : List Span) → (AllByRecursion (Apart f) (header_span ∷ before) → ⊥) → overlaps f before ≡ true
is_not_apart f before n = by_rule (overlaps f before) (AllByRecursion (Apart f) (header_span ∷ before)) (overlaps_apart f before) n

-- the checks of a place
abbrev pub place_checks : ℕ → ℕ → ℕ → ℕ → ℕ → List Span → Span → List Check
place_checks least end layer list field before f = (outside least end f, fault 5 layer field list) ∷ (overlaps f before, fault 11 layer field list) ∷ []

module _ (least end layer list field : ℕ) (before : List Span) (f : Span) where
  -- a place is misplaced, or right
  pub place_tells : {A : Type 0} (P : Outcome A → Type 0) (a : Outcome A) → 1 ≤ least → length before < 2048
      → ((e : Fault) → Misplaced least end layer list field before f e → P (refused e)) → (Placed least end before f → P a)
      → P (unless (place_checks least end layer list field before f) a)
  place_tells P a o room bad good =
      cond_both (outside least end f) _ _ P (λ x. bad (fault 5 layer field list) (is_outside (not_inside least end f o x))) (λ x.
      let i = inside least end f x in
      cond_both (overlaps f before) _ _ P (λ y. bad (fault 11 layer field list) (overlap i room (not_apart f before y))) (λ y.
      good (record { inside = i; room = room; apart = overlaps_apart f before y })))

  -- where no fragment may come, it is misplaced
  pub full_tells : {A : Type 0} (P : Outcome A → Type 0) → 1 ≤ least → 2048 ≤ length before
      → ((e : Fault) → Misplaced least end layer list field before f e → P (refused e))
      → P (unless ((outside least end f, fault 5 layer field list) ∷ []) (refused (fault 13 layer field list)))
  full_tells P o room bad =
      cond_both (outside least end f) _ _ P (λ x. bad (fault 5 layer field list) (is_outside (not_inside least end f o x))) (λ x.
      bad (fault 13 layer field list) (full (inside least end f x) room))

  pub misplaced_refused : {A : Type 0} (a : Outcome A) (e : Fault) → 1 ≤ least → length before < 2048 → Misplaced least end layer list field before f e
      → unless (place_checks least end layer list field before f) a ≡ refused e
  misplaced_refused a e o room (is_outside n) = cond-true (outside least end f) _ _ (is_not_inside least end f n)
  misplaced_refused a e o room (full i r) = absurd (omega arith)
  misplaced_refused a e o room (overlap i r n) =
      cond-false (outside least end f) _ _ (inside_passes least end f o i) ∙ cond-true (overlaps f before) _ _ (is_not_apart f before n)

  pub full_refused : {A : Type 0} (e : Fault) → 1 ≤ least → 2048 ≤ length before → Misplaced least end layer list field before f e
      → unless {A = A} ((outside least end f, fault 5 layer field list) ∷ []) (refused (fault 13 layer field list)) ≡ refused e
  full_refused e o room (is_outside n) = cond-true (outside least end f) _ _ (is_not_inside least end f n)
  full_refused e o room (full i r) = cond-false (outside least end f) _ _ (inside_passes least end f o i)
  full_refused e o room (overlap i r n) = absurd (omega arith)

  -- a place that is right passes
  pub placed_passes : {A : Type 0} (a : Outcome A) → 1 ≤ least → Placed least end before f → unless (place_checks least end layer list field before f) a ≡ a
  placed_passes a o p =
      cond-false (outside least end f) _ _ (inside_passes least end f o p.inside)
      ∙ cond-false (overlaps f before) _ _ (apart_overlaps f before p.apart.0 p.apart.1)
