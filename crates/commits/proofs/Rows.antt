-- Lists in a row: what holds of each, and of each two, and one element put between.
use Rattle.std.proofs.Common.{◌≡◌, List, [], ◌∷◌, ◌++◌, map, ap}
use Rattle.std.specs.List.{AllByRecursion}
use Rattle.std.proofs.ByRecursion.{All-append, All-weaker}
use Rattle.model.specs.Section.{flat}
use Rattle.model.specs.Means.{Pairwise}
use Rattle.meaning.proofs.Base.{all_front}

pub all_between : {A : Type 0} (P : A → Type 0) (xs : List A) (z : A) (ys : List A) → AllByRecursion P (xs ++ ys) → P z → AllByRecursion P (xs ++ (z ∷ ys))
all_between P [] z ys a p = (p, a)
all_between P (x ∷ xs) z ys (q, a) p = (q, all_between P xs z ys a p)

-- two that hold of each
pub all_both : {A : Type 0} (P Q R : A → Type 0) (xs : List A) → ((x : A) → P x → Q x → R x) → AllByRecursion P xs → AllByRecursion Q xs → AllByRecursion R xs
all_both P Q R [] f a c = tt
all_both P Q R (x ∷ xs) f (p, a) (q, c) = (f x p q, all_both P Q R xs f a c)

pub pair_between : {A : Type 0} (R : A → A → Type 0) (xs : List A) (z : A) (ys : List A) → Pairwise R (xs ++ ys) → AllByRecursion (λ x. R x z) xs → AllByRecursion (R z) ys → Pairwise R (xs ++ (z ∷ ys))
pair_between R [] z ys p a c = (c, p)
pair_between R (x ∷ xs) z ys (u, p) (v, a) c = (all_between (R x) xs z ys u v, pair_between R xs z ys p a c)

-- one element for another
pub pair_instead : {A : Type 0} (R : A → A → Type 0) (xs : List A) (y z : A) (ys : List A) → ((x : A) → R x y → R x z) → ((x : A) → R y x → R z x) → Pairwise R (xs ++ (y ∷ ys)) → Pairwise R (xs ++ (z ∷ ys))
pair_instead R [] y z ys f g (a, p) = (All-weaker (R y) (R z) g ys a, p)
pair_instead R (x ∷ xs) y z ys f g (a, p) =
    let (u, v) = all_front (R x) xs (y ∷ ys) a in
    (All-append (R x) xs (z ∷ ys) u (f x v.0, v.1), pair_instead R xs y z ys f g p)

-- lists of lists ---------------------------------------------------------------------------------------------------------

-- one element for another, whose pieces are the same
pub flat_instead : {A B : Type 0} (f : A → List B) (xs : List A) (y z : A) (ys : List A) → f z ≡ f y → flat (map f (xs ++ (z ∷ ys))) ≡ flat (map f (xs ++ (y ∷ ys)))
flat_instead f [] y z ys e = ap (λ w. w ++ flat (map f ys)) e
flat_instead f (x ∷ xs) y z ys e = ap (λ w. f x ++ w) (flat_instead f xs y z ys e)
