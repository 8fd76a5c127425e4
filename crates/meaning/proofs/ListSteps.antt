-- Reading a list, step by step: what its checks say, its first fragment, and a later one.
use Rattle.std.proofs.Common.{◌≡◌, ℕ, zero, suc, ◌-◌, ◌≤◌, Bool, true, false, not, ◌||◌, eqb, ltb, List, [], ◌∷◌, ◌++◌, map, length, refl, inl, inr, arith}
use Rattle.std.specs.List.{ContainsAt}
use Rattle.std.proofs.lemmas.List.{append-nil}
use Rattle.std.proofs.lemmas.Bool.{cases_Bool, eqb-true, eq-eqb, or_cases, or_left, or_right}
use Rattle.std.proofs.lemmas.Bool.Decides.{nat_tests}
use Rattle.model.specs.declared.types.Span.{Span}
use Rattle.model.specs.Faults.{fault, Outcome, refused, Check, unless, then}
use Rattle.model.specs.Nodes.{Node}
use Rattle.model.specs.ListFragments.{owner, unmarked, sequence, nodes_from, nodes_to}
use Rattle.model.specs.Section.{NodeList}
use Rattle.model.specs.OpenedLog.{outside}
use Rattle.model.specs.OpenedLists.{nodes_at, taken, list_from, list_goes}
use Rattle.model.specs.Means.{Marked}
use Rattle.meaning.proofs.Members.{In, in_from_has, has_from_in}
use Rattle.meaning.proofs.Places.{place_checks}

-- a mark, the number in the list or the list ID is wrong, or the ID is under 16
abbrev pub mislabelled : List ℕ → ℕ → ℕ → Span → Bool
mislabelled b id number f = unmarked b f || not (eqb (sequence b f) number) || not (eqb (owner b f) id) || ltb id 16

pub marked_passes : (b : List ℕ) (id number : ℕ) (f : Span) → Marked b id number f → 16 ≤ id → mislabelled b id number f ≡ false
marked_passes b id number f m r =
    let x = m.first in
    let y = m.last in
    let z = m.list in
    let w = m.sequence_number in
    grind (arith, nat_tests)

pub passes_marked : (b : List ℕ) (id number : ℕ) (f : Span) → mislabelled b id number f ≡ false → Marked b id number f × (16 ≤ id)
passes_marked b id number f e =
    (record { first = grind (arith, nat_tests); last = grind (arith, nat_tests); list = grind (arith, nat_tests); sequence_number = grind (arith, nat_tests) }, grind (arith, nat_tests))

-- an ID is taken where a list has it
pub taken_has : (id : ℕ) (ls : List NodeList) → taken id ls ≡ true → ContainsAt (map (λ l. l.id) ls) id
taken_has id ls e = has_from_in (map (λ (l : NodeList). l.id) ls) id (by ls e)
  where
    by : (ls : List NodeList) → taken id ls ≡ true → In id (map (λ l. l.id) ls)
    by [] e = absurd (grind arith)
    by (l ∷ ls) e = elim (or_cases (eqb l.id id) (taken id ls) e) [
      | inl x ↦ inl (eqb-true l.id id x)
      | inr x ↦ inr (by ls x)
    ]

pub not_had : (id : ℕ) (ls : List NodeList) → (ContainsAt (map (λ l. l.id) ls) id → ⊥) → taken id ls ≡ false
not_had id ls n = elim (cases_Bool (taken id ls)) [
  | inl e ↦ absurd (n (taken_has id ls e))
  | inr e ↦ e
]

pub has_taken : (id : ℕ) (ls : List NodeList) → ContainsAt (map (λ l. l.id) ls) id → taken id ls ≡ true
has_taken id ls x = by ls (in_from_has (map (λ (l : NodeList). l.id) ls) id x)
  where
    by : (ls : List NodeList) → In id (map (λ l. l.id) ls) → taken id ls ≡ true
    by [] i = absurd i
    by (l ∷ ls) (inl e) = or_left (eqb l.id id) (taken id ls) (eq-eqb l.id id e)
    by (l ∷ ls) (inr i) = or_right (eqb l.id id) (taken id ls) (by ls i)

-- from the place q of the fragment g on, behind the fragments fs, with n fragments more
abbrev pub from_node : List ℕ → ℕ → ℕ → List NodeList → List Span → ℕ → ℕ → List Span → Span → List Node → ℕ → Outcome NodeList
from_node b end count ls before id n fs g ns q = then (nodes_at (count - length ns) b id (nodes_to g) q ns) (list_goes (list_from n b end count ls before id) b id g fs)

-- the checks of a first fragment behind those of its place
abbrev pub first_checks : List ℕ → ℕ → List NodeList → ℕ → Span → List Check
first_checks b count ls id f =
    (mislabelled b id 0 f, fault 8 3 f.start 0)
    ∷ (taken id ls, fault 12 3 f.start id)
    ∷ (eqb count 0, fault 10 3 f.start id)
    ∷ []

module _ (b : List ℕ) (end count : ℕ) (ls : List NodeList) (before : List Span) (id field : ℕ) (f : Span) where
  -- the nodes of the fragment f behind the fragments fs, and what follows them
  abbrev pub nodes_then : ℕ → List Span → List Node → Outcome NodeList
  nodes_then n fs ns = then (nodes_at (count - length ns) b id (nodes_to f) (nodes_from f) ns) (list_goes (list_from n b end count ls before id) b id f fs)

  pub first_none : list_from zero b end count ls before id field f [] [] ≡ unless ((outside 36 end f, fault 5 3 field 0) ∷ []) (refused (fault 13 3 field 0))
  unfolding list_from
  first_none = refl

  pub first_step : (n : ℕ) → list_from (suc n) b end count ls before id field f [] []
      ≡ unless (place_checks 36 end 3 0 field before f) (unless (first_checks b count ls id f) (nodes_then n [] []))
  unfolding list_from
  first_step n = rw (append-nil before)

  pub later_none : (x : Span) (gs : List Span) (ns : List Node) → list_from zero b end count ls before id field f (x ∷ gs) ns
      ≡ unless ((outside 36 end f, fault 5 3 field id) ∷ []) (refused (fault 13 3 field id))
  unfolding list_from
  later_none x gs ns = let e : eqb (suc (length gs)) 0 ≡ false = grind (arith, nat_tests) in rw e

  pub later_step : (n : ℕ) (x : Span) (gs : List Span) (ns : List Node) → list_from (suc n) b end count ls before id field f (x ∷ gs) ns
      ≡ unless (place_checks 36 end 3 id field (before ++ (x ∷ gs)) f) (unless ((mislabelled b id (length (x ∷ gs)) f, fault 8 3 f.start id) ∷ []) (nodes_then n (x ∷ gs) ns))
  unfolding list_from
  later_step n x gs ns = let e : eqb (suc (length gs)) 0 ≡ false = grind (arith, nat_tests) in rw e
