-- Membership by recursion, the pigeonhole, and lists of lists.
use Rattle.std.proofs.Common.{◌≡◌, zero, suc, ◌≤◌, ◌≢◌, ◌⊎◌, List, [], ◌∷◌, ◌++◌, map, length, sym, refl, ap, ◌∙◌, subst, inl, inr, arith}
use Rattle.std.specs.List.{ContainsAt, AllByRecursion}
use Rattle.std.proofs.lemmas.List.{append_assoc, append-nil, length-append}
use Rattle.std.proofs.ByRecursion.{All-append}
use Rattle.model.specs.Section.{flat}
use Rattle.model.specs.Means.{Pairwise}
use Rattle.meaning.proofs.Base.{all_front}

abbrev pub In : {X : Type 0} → X → List X → Type 0
In x [] = ⊥
In x (y ∷ ys) = (y ≡ x) ⊎ In x ys

pub in_from_has : {X : Type 0} (xs : List X) (x : X) → ContainsAt xs x → In x xs
in_from_has [] x (k, l, e) = absurd (omega arith)
in_from_has (y ∷ ys) x (zero, l, e) = inl (e y)
in_from_has (y ∷ ys) x (suc k, l, e) = inr (in_from_has ys x (k, omega arith, e))

pub has_from_in : {X : Type 0} (xs : List X) (x : X) → In x xs → ContainsAt xs x
has_from_in [] x i = absurd i
has_from_in (y ∷ ys) x (inl e) = (zero, omega arith, λ d. e)
has_from_in (y ∷ ys) x (inr i) = let (k, l, e) = has_from_in ys x i in (suc k, omega arith, e)

pub in_left : {X : Type 0} (xs ys : List X) (x : X) → In x xs → In x (xs ++ ys)
in_left [] ys x i = absurd i
in_left (z ∷ xs) ys x (inl e) = inl e
in_left (z ∷ xs) ys x (inr i) = inr (in_left xs ys x i)

pub in_right : {X : Type 0} (xs ys : List X) (x : X) → In x ys → In x (xs ++ ys)
in_right [] ys x i = i
in_right (z ∷ xs) ys x i = inr (in_right xs ys x i)

pub in_split : {X : Type 0} (xs ys : List X) (x : X) → In x (xs ++ ys) → In x xs ⊎ In x ys
in_split [] ys x i = inr i
in_split (z ∷ xs) ys x (inl e) = inl (inl e)
in_split (z ∷ xs) ys x (inr i) = elim (in_split xs ys x i) [
  | inl j ↦ inl (inr j)
  | inr j ↦ inr j
]

-- by which of two, if by either
pub in_cases : {X : Type 0} (xs ys : List X) (x : X) (P : Type 0) → In x (xs ++ ys) → (In x xs → P) → (In x ys → P) → P
in_cases xs ys x P i f g = elim (in_split xs ys x i) [
  | inl j ↦ f j
  | inr j ↦ g j
]

pub in_map : {X Y : Type 0} (f : X → Y) (xs : List X) (x : X) → In x xs → In (f x) (map f xs)
in_map f [] x i = absurd i
in_map f (z ∷ xs) x (inl e) = inl (ap f e)
in_map f (z ∷ xs) x (inr i) = inr (in_map f xs x i)

pub in_unmap : {X Y : Type 0} (f : X → Y) (xs : List X) (y : Y) → In y (map f xs) → (x : X) × In x xs × (f x ≡ y)
in_unmap f [] y i = absurd i
in_unmap f (z ∷ xs) y (inl e) = (z, inl refl, e)
in_unmap f (z ∷ xs) y (inr i) = let (x, j, e) = in_unmap f xs y i in (x, inr j, e)

pub in_flat : {X Y : Type 0} (f : X → List Y) (xs : List X) (x : X) (y : Y) → In x xs → In y (f x) → In y (flat (map f xs))
in_flat f [] x y i j = absurd i
in_flat f (z ∷ xs) x y (inl e) j = in_left (f z) (flat (map f xs)) y (subst (λ w. In y (f w)) (sym e) j)
in_flat f (z ∷ xs) x y (inr i) j = in_right (f z) (flat (map f xs)) y (in_flat f xs x y i j)

pub in_unflat : {X Y : Type 0} (f : X → List Y) (xs : List X) (y : Y) → In y (flat (map f xs)) → (x : X) × In x xs × In y (f x)
in_unflat f [] y i = absurd i
in_unflat {X} f (z ∷ xs) y i = in_cases (f z) (flat (map f xs)) y ((x : X) × In x (z ∷ xs) × In y (f x)) i
    (λ j. (z, inl refl, j))
    (λ j. let (x, k, m) = in_unflat f xs y j in (x, inr k, m))

pub all_in : {X : Type 0} (P : X → Type 0) (xs : List X) (x : X) → AllByRecursion P xs → In x xs → P x
all_in P [] x a i = absurd i
all_in P (z ∷ xs) x (p, a) (inl e) = subst P e p
all_in P (z ∷ xs) x (p, a) (inr i) = all_in P xs x a i

pub all_from_in : {X : Type 0} (P : X → Type 0) (xs : List X) → ((x : X) → In x xs → P x) → AllByRecursion P xs
all_from_in P [] k = tt
all_from_in P (x ∷ xs) k = (k x (inl refl), all_from_in P xs (λ y i. k y (inr i)))

-- taken out
pub pick : {X : Type 0} (xs : List X) (x : X) → In x xs → (as' : List X) × (bs : List X) × (xs ≡ as' ++ (x ∷ bs))
pick [] x i = absurd i
pick (z ∷ xs) x (inl e) = ([], xs, ap (λ w. w ∷ xs) e)
pick (z ∷ xs) x (inr i) = let (as', bs, e) = pick xs x i in (z ∷ as', bs, ap (λ w. z ∷ w) e)

-- what stands in a list stands in it without x, or is x
pub in_without : {X : Type 0} (as' bs : List X) (x y : X) → In y (as' ++ (x ∷ bs)) → (x ≡ y) ⊎ In y (as' ++ bs)
in_without [] bs x y i = i
in_without (a ∷ as') bs x y (inl e) = inr (inl e)
in_without (a ∷ as') bs x y (inr i) = elim (in_without as' bs x y i) [
  | inl e ↦ inl e
  | inr j ↦ inr (inr j)
]

pub in_with : {X : Type 0} (as' bs : List X) (x y : X) → In y (as' ++ bs) → In y (as' ++ (x ∷ bs))
in_with [] bs x y i = inr i
in_with (a ∷ as') bs x y (inl e) = inl e
in_with (a ∷ as') bs x y (inr i) = inr (in_with as' bs x y i)

pub in_at : {X : Type 0} (as' bs : List X) (x : X) → In x (as' ++ (x ∷ bs))
in_at [] bs x = inl refl
in_at (a ∷ as') bs x = inr (in_at as' bs x)

-- elements that differ need as many places
pub pigeon : {X : Type 0} (xs ys : List X) → Pairwise (λ x y. x ≢ y) xs → ((x : X) → In x xs → In x ys) → length xs ≤ length ys
pigeon [] ys d k = omega arith
pigeon (x ∷ xs) ys (p, d) k =
    let (as', bs, e) = pick ys x (k x (inl refl)) in
    let ih = pigeon xs (as' ++ bs) d (λ y i. elim (in_without as' bs x y (subst (λ w. In y w) e (k y (inr i)))) [
      | inl q ↦ absurd (all_in (λ z. x ≢ z) xs y p i q)
      | inr j ↦ j
    ]) in
    let u : length ys ≡ length (as' ++ (x ∷ bs)) = ap length e in
    let v = length-append as' (x ∷ bs) in
    let w = length-append as' bs in
    omega arith

-- two that stand in a list whose elements differ by a key are one if their keys are
pub same_by_key : {X Y : Type 0} (f : X → Y) (xs : List X) (x y : X) → Pairwise (λ x y. f x ≢ f y) xs → In x xs → In y xs → f x ≡ f y → x ≡ y
same_by_key f [] x y d i j e = absurd i
same_by_key f (z ∷ xs) x y (p, d) (inl a) (inl c) e = sym a ∙ c
same_by_key f (z ∷ xs) x y (p, d) (inl a) (inr j) e = absurd (all_in (λ w. f z ≢ f w) xs y p j (ap f a ∙ e))
same_by_key f (z ∷ xs) x y (p, d) (inr i) (inl c) e = absurd (all_in (λ w. f z ≢ f w) xs x p i (ap f c ∙ sym e))
same_by_key f (z ∷ xs) x y (p, d) (inr i) (inr j) e = same_by_key f xs x y d i j e

pub flat_append : {X Y : Type 0} (f : X → List Y) (xs ys : List X) → flat (map f (xs ++ ys)) ≡ flat (map f xs) ++ flat (map f ys)
flat_append f [] ys = refl
flat_append f (x ∷ xs) ys = ap (λ w. f x ++ w) (flat_append f xs ys) ∙ sym (append_assoc (f x) (flat (map f xs)) (flat (map f ys)))

pub flat_join : {X : Type 0} (xs ys : List (List X)) → flat (xs ++ ys) ≡ flat xs ++ flat ys
flat_join [] ys = refl
flat_join (x ∷ xs) ys = ap (λ z. x ++ z) (flat_join xs ys) ∙ sym (append_assoc x (flat xs) (flat ys))

pub flat_push : {X : Type 0} (xs : List (List X)) (x : List X) → flat (xs ++ (x ∷ [])) ≡ flat xs ++ x
flat_push xs x = flat_join xs (x ∷ []) ∙ ap (λ z. flat xs ++ z) (append-nil x)

-- what holds of all pieces holds of the pieces of each, and the other way round
pub all_flat : {X Y : Type 0} (P : Y → Type 0) (f : X → List Y) (xs : List X) → AllByRecursion P (flat (map f xs)) → AllByRecursion (λ x. AllByRecursion P (f x)) xs
all_flat P f [] a = tt
all_flat P f (x ∷ xs) a = let (p, q) = all_front P (f x) (flat (map f xs)) a in (p, all_flat P f xs q)

pub flat_all : {X Y : Type 0} (P : Y → Type 0) (f : X → List Y) (xs : List X) → AllByRecursion (λ x. AllByRecursion P (f x)) xs → AllByRecursion P (flat (map f xs))
flat_all P f [] a = tt
flat_all P f (x ∷ xs) (p, a) = All-append P (f x) (flat (map f xs)) p (flat_all P f xs a)
