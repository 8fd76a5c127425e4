-- One of two stores: what either means.
use Rattle.std.specs.Prelude.{List}
use Rattle.model.specs.Bytes.{Write}
use Rattle.either_store.specs.declared.Either.{Either}
use Rattle.either_store.specs.declared.Either.TheVariants.{First, Second}

-- what the one means, or the other
abbrev pub of_either : {A B T : Type 0} → (A → T) → (B → T) → Either A B → T
of_either f g (First a) = f a
of_either f g (Second b) = g b

-- writes to the one, or to the other
abbrev pub wrote_either : {A B : Type 0} → (A → List Write → A → Type 0) → (B → List Write → B → Type 0) → Either A B → List Write → Either A B → Type 0
wrote_either f g (First a) ws (First c) = f a ws c
wrote_either f g (First a) ws (Second d) = ⊥
wrote_either f g (Second b) ws (First c) = ⊥
wrote_either f g (Second b) ws (Second d) = g b ws d
