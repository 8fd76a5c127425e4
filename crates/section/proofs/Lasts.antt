-- The last of a list stands before its end.
use Rattle.std.proofs.Common.{◌≡◌, ◌-◌, List, [], ◌∷◌, length, get_or, refl, ap, ◌∙◌, arith}
use Rattle.std.specs.Option.{unwrap_or}
use Rattle.std.specs.List.{slice_get}
use Rattle.std.proofs.lemmas.Option.{unwrap_or-slice_get}
use Rattle.model.specs.Section.{last_of}

last_at : {A : Type 0} (d x : A) (xs : List A) → get_or (x ∷ xs) (length xs) d ≡ last_of x xs
last_at d x [] = refl
last_at d x (y ∷ xs) = last_at d y xs

pub last_found : {A : Type 0} (d : A) (xs : List A) → unwrap_or (slice_get xs (length xs - 1)) d ≡ last_of d xs
last_found d [] = refl
last_found d (x ∷ xs) =
    let e : length (x ∷ xs) - 1 ≡ length xs = omega arith in
    unwrap_or-slice_get (x ∷ xs) (length (x ∷ xs) - 1) d ∙ ap (λ i. get_or (x ∷ xs) i d) e ∙ last_at d x xs
