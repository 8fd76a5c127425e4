-- What a filter leaves: all values, none, or those of which something follows.
use Rattle.std.proofs.Common.{◌≡◌, Bool, true, false, List, [], ◌∷◌, filter, refl, ap}
use Rattle.std.specs.List.{All}
use Rattle.std.proofs.lemmas.List.Elements.{All-head, All-tail, All-filter, filter_passes}

pub filter_all : {X : Type 0} (p : X → Bool) (xs : List X) → All (λ x. p x ≡ true) xs → filter p xs ≡ xs
filter_all p [] all = refl
filter_all p (x ∷ xs) all = let e = All-head (λ y. p y ≡ true) x xs all in rw e (ap (λ ys. x ∷ ys) (filter_all p xs (All-tail (λ y. p y ≡ true) x xs all)))

pub filter_none : {X : Type 0} (p : X → Bool) (xs : List X) → All (λ x. p x ≡ false) xs → filter p xs ≡ []
filter_none p [] none = refl
filter_none p (x ∷ xs) none = let e = All-head (λ y. p y ≡ false) x xs none in rw e (filter_none p xs (All-tail (λ y. p y ≡ false) x xs none))

-- each value that passes has P, where P follows from that it passes
pub All-passed : {X : Type 0} (p : X → Bool) (P : X → Type 0) (xs : List X) → All (λ x. p x ≡ true → P x) xs → All P (filter p xs)
All-passed p P xs h k d l = All-filter p (λ x. p x ≡ true → P x) xs h k d l (filter_passes p xs k d l)
