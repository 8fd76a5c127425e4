-- Outcomes, ranges apart, and lists whose elements stand apart pairwise.
use Rattle.std.proofs.Common.{◌≡◌, ℕ, ◌≤◌, true, false, leb, List, [], ◌∷◌, ◌++◌, map, refl, ap, inl, inr, arith}
use Rattle.std.specs.List.{AllByRecursion}
use Rattle.std.proofs.lemmas.Bool.Decides.{nat_tests}
use Rattle.std.proofs.lemmas.Bool.{cases_Bool, or_from, or_parts}
use Rattle.std.proofs.ByRecursion.{All-append, All-weaker}
use Rattle.model.specs.declared.types.Span.{Span}
use Rattle.model.specs.declared.types.Fault.{Fault}
use Rattle.model.specs.Faults.{Outcome, refused, Check, unless}
use Rattle.model.specs.References.{share, meets, end_of}
use Rattle.model.specs.Headers.{header_span}
use Rattle.model.specs.OpenedLog.{outside, overlaps}
use Rattle.model.specs.Means.{Within, Apart, Pairwise, Inside}
use Rattle.model.specs.Nodes.{Node, referring}

-- outcomes ---------------------------------------------------------------------------------------------------------

-- no rule is broken
abbrev pub Clean : List Check → Type 0
Clean cs = AllByRecursion (λ c. c.0 ≡ false) cs

pub unless_clean : {A : Type 0} (cs : List Check) (a : Outcome A) → Clean cs → unless cs a ≡ a
unless_clean [] a k = refl
unless_clean ((t, f) ∷ cs) a (e, k) = rw e (unless_clean cs a k)

-- the first broken rule is told
pub unless_broken : {A : Type 0} (before later : List Check) (f : Fault) (a : Outcome A) → Clean before → unless (before ++ ((true, f) ∷ later)) a ≡ refused f
unless_broken [] later f a k = refl
unless_broken ((t, g) ∷ before) later f a (e, k) = rw e (unless_broken before later f a k)

pub record FirstBroken (cs : List Check) (f : Fault) : Type 0 where
  pub before : List Check
  pub later : List Check
  pub clean : Clean before
  pub is : cs ≡ before ++ ((true, f) ∷ later)

pub unless_tells : {A : Type 0} (P : Outcome A → Type 0) (cs : List Check) (a : Outcome A) → ((f : Fault) → FirstBroken cs f → P (refused f)) → (Clean cs → P a) → P (unless cs a)
unless_tells P [] a bad good = good tt
unless_tells P ((true, f) ∷ cs) a bad good = bad f (record { before = []; later = cs; clean = tt; is = refl })
unless_tells P ((false, f) ∷ cs) a bad good =
    unless_tells P cs a (λ g w. bad g (record { before = (false, f) ∷ w.before; later = w.later; clean = (refl, w.clean); is = ap (λ z. (false, f) ∷ z) w.is })) (λ c. good (refl, c))

-- All --------------------------------------------------------------------------------------------------------------

pub all_front : {X : Type 0} (P : X → Type 0) (xs ys : List X) → AllByRecursion P (xs ++ ys) → AllByRecursion P xs × AllByRecursion P ys
all_front P [] ys a = (tt, a)
all_front P (x ∷ xs) ys (p, a) = let (q, r) = all_front P xs ys a in ((p, q), r)

-- Pairwise ---------------------------------------------------------------------------------------------------------

-- each of xs is R to each of ys
abbrev pub Cross : {X : Type 0} → (X → X → Type 0) → List X → List X → Type 0
Cross R xs ys = AllByRecursion (λ x. AllByRecursion (R x) ys) xs

pub pairs_join : {X : Type 0} (R : X → X → Type 0) (xs ys : List X) → Pairwise R xs → Pairwise R ys → Cross R xs ys → Pairwise R (xs ++ ys)
pairs_join R [] ys a c d = c
pairs_join R (x ∷ xs) ys (p, a) c (e, d) = (All-append (R x) xs ys p e, pairs_join R xs ys a c d)

pub pairs_split : {X : Type 0} (R : X → X → Type 0) (xs ys : List X) → Pairwise R (xs ++ ys) → Pairwise R xs × Pairwise R ys × Cross R xs ys
pairs_split R [] ys a = (tt, a, tt)
pairs_split R (x ∷ xs) ys (p, a) =
    let (q, r) = all_front (R x) xs ys p in
    let (u, v, w) = pairs_split R xs ys a in
    ((q, u), v, (r, w))

cross_none : {X : Type 0} (R : X → X → Type 0) (xs : List X) → Cross R xs []
cross_none R [] = tt
cross_none R (x ∷ xs) = (tt, cross_none R xs)

cross_push : {X : Type 0} (R : X → X → Type 0) (x : X) (xs ys : List X) → AllByRecursion (λ y. R y x) ys → Cross R ys xs → Cross R ys (x ∷ xs)
cross_push R x xs [] a c = tt
cross_push R x xs (y ∷ ys) (p, a) (q, c) = ((p, q), cross_push R x xs ys a c)

pub cross_back : {X : Type 0} (R : X → X → Type 0) (xs ys : List X) → ((x y : X) → R x y → R y x) → Cross R xs ys → Cross R ys xs
cross_back R [] ys s c = cross_none R ys
cross_back R (x ∷ xs) ys s (p, c) = cross_push R x xs ys (All-weaker (λ y. R x y) (λ y. R y x) (λ y r. s x y r) ys p) (cross_back R xs ys s c)

-- each of xs is R to what stands in two lists
pub cross_front : {X : Type 0} (R : X → X → Type 0) (xs ys zs : List X) → Cross R xs (ys ++ zs) → Cross R xs ys × Cross R xs zs
cross_front R [] ys zs c = (tt, tt)
cross_front R (x ∷ xs) ys zs (p, c) =
    let (q, r) = all_front (R x) ys zs p in
    let (u, v) = cross_front R xs ys zs c in
    ((q, u), (r, v))

pub cross_join : {X : Type 0} (R : X → X → Type 0) (xs ys zs : List X) → Cross R xs ys → Cross R xs zs → Cross R xs (ys ++ zs)
cross_join R [] ys zs c d = tt
cross_join R (x ∷ xs) ys zs (p, c) (q, d) = (All-append (R x) ys zs p q, cross_join R xs ys zs c d)

-- a block is moved to the front
pub pairs_move : {X : Type 0} (R : X → X → Type 0) (as' l bs : List X) → ((x y : X) → R x y → R y x) → Pairwise R (as' ++ (l ++ bs)) → Pairwise R (l ++ (as' ++ bs))
pairs_move R as' l bs s a =
    let (u, v, w) = pairs_split R as' (l ++ bs) a in
    let (x, y, z) = pairs_split R l bs v in
    let (c, d) = cross_front R as' l bs w in
    pairs_join R l (as' ++ bs) x (pairs_join R as' bs u y d) (cross_join R l as' bs (cross_back R as' l s c) z)

pub all_move : {X : Type 0} (P : X → Type 0) (as' l bs : List X) → AllByRecursion P (as' ++ (l ++ bs)) → AllByRecursion P (l ++ (as' ++ bs))
all_move P as' l bs a =
    let (u, v) = all_front P as' (l ++ bs) a in
    let (x, y) = all_front P l bs v in
    All-append P l (as' ++ bs) x (All-append P as' bs u y)

-- the same behind a front that stays
pub pairs_move_in : {X : Type 0} (R : X → X → Type 0) (xs as' l bs : List X) → ((x y : X) → R x y → R y x)
    → Pairwise R (xs ++ (as' ++ (l ++ bs))) → Pairwise R (xs ++ (l ++ (as' ++ bs)))
pairs_move_in R [] as' l bs s a = pairs_move R as' l bs s a
pairs_move_in R (x ∷ xs) as' l bs s (p, a) =
    let (u, v) = all_front (R x) xs (as' ++ (l ++ bs)) p in
    (All-append (R x) xs (l ++ (as' ++ bs)) u (all_move (R x) as' l bs v), pairs_move_in R xs as' l bs s a)

-- ranges -----------------------------------------------------------------------------------------------------------

pub apart_back : (r s : Span) → Apart r s → Apart s r
apart_back r s a i x y = a i y x

pub apart_share : (r s : Span) → Apart r s → share r s ≡ false
apart_share r s a = elim (cases_Bool (share r s)) [
  | inl e ↦ absurd (elim (cases_Bool (leb r.start s.start)) [
    | inl l ↦ let x : Within r s.start = (grind (arith, nat_tests), grind (arith, nat_tests)) in
        let y : Within s s.start = (omega arith, grind (arith, nat_tests)) in a s.start x y
    | inr l ↦ let x : Within r r.start = (omega arith, grind (arith, nat_tests)) in
        let y : Within s r.start = (grind (arith, nat_tests), grind (arith, nat_tests)) in a r.start x y
  ])
  | inr e ↦ e
]

pub share_apart : (r s : Span) → share r s ≡ false → Apart r s
share_apart r s e i x y = grind (arith, nat_tests)

pub apart_meets : (r : Span) (ss : List Span) → AllByRecursion (Apart r) ss → meets r ss ≡ false
apart_meets r [] a = refl
apart_meets r (s ∷ ss) (p, a) = or_from (share r s) (meets r ss) (apart_share r s p) (apart_meets r ss a)

pub apart_overlaps : (r : Span) (ss : List Span) → Apart r header_span → AllByRecursion (Apart r) ss → overlaps r ss ≡ false
apart_overlaps r ss h a = or_from (share r header_span) (meets r ss) (apart_share r header_span h) (apart_meets r ss a)

pub inside_passes : (least end : ℕ) (f : Span) → 1 ≤ least → Inside least end f → outside least end f ≡ false
inside_passes least end f o (x, y) = grind (arith, nat_tests)

pub inside : (least end : ℕ) (f : Span) → outside least end f ≡ false → Inside least end f
inside least end f e = (grind (arith, nat_tests), grind (arith, nat_tests))

-- what stands before a range is apart from it
pub apart_before : (xs : List Span) (f : Span) (gs : List Span) → Pairwise Apart (xs ++ (f ∷ gs)) → AllByRecursion (Apart f) xs
apart_before [] f gs a = tt
apart_before (x ∷ xs) f gs (p, a) =
    let (u, v) = all_front (Apart x) xs (f ∷ gs) p in
    (apart_back x f v.0, apart_before xs f gs a)

pub meets_apart : (r : Span) (ss : List Span) → meets r ss ≡ false → AllByRecursion (Apart r) ss
meets_apart r [] e = tt
meets_apart r (s ∷ ss) e = let (x, y) = or_parts (share r s) (meets r ss) e in (share_apart r s x, meets_apart r ss y)

pub overlaps_apart : (r : Span) (ss : List Span) → overlaps r ss ≡ false → AllByRecursion (Apart r) (header_span ∷ ss)
overlaps_apart r ss e = let (x, y) = or_parts (share r header_span) (meets r ss) e in (share_apart r header_span x, meets_apart r ss y)

-- one more at the end
pub pairs_push : (xs : List Span) (f : Span) → Pairwise Apart xs → AllByRecursion (Apart f) xs → Pairwise Apart (xs ++ (f ∷ []))
pairs_push [] f a c = (tt, tt)
pairs_push (x ∷ xs) f (p, a) (q, c) = (All-append (Apart x) xs (f ∷ []) p (apart_back f x q, tt), pairs_push xs f a c)

-- data -------------------------------------------------------------------------------------------------------------

-- the present references to data of some nodes
abbrev pub references : List Node → List Span
references ns = map (λ n. n.reference) (referring 1 ns)

-- data that ends by the file's end, and shares no byte with the header or a fragment
abbrev pub DataFits : ℕ → List Span → Span → Type 0
DataFits end fs r = (end_of r ≤ end) × AllByRecursion (Apart r) (header_span ∷ fs)
