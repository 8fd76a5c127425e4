-- The laws of stores, of one of two.
use Rattle.std.specs.Prelude.{◌≡◌, ℕ, ◌^◌, ◌<◌, ◌≤◌, List, [], ◌++◌, length, slice_index}
use Rattle.model.specs.Bytes.{Write, applied}
use Rattle.either_store.specs.declared.Either.{Either}
use Rattle.either_store.specs.declared.Either.TheVariants.{First, Second}
use Rattle.either_store.specs.Either.{of_either, wrote_either}

module _ {A B : Type 0} where
  pub either_within : (r : A → List ℕ) (m : A → ℕ) (q : B → List ℕ) (n : B → ℕ) → ((a : A) → length (r a) ≤ m a) → ((b : B) → length (q b) ≤ n b)
      → (s : Either A B) → length (of_either r q s) ≤ of_either m n s
  either_within r m q n f g (First a) = f a
  either_within r m q n f g (Second b) = g b

  pub either_fits : (m : A → ℕ) (n : B → ℕ) → ((a : A) → m a < 2 ^ 64) → ((b : B) → n b < 2 ^ 64) → (s : Either A B) → of_either m n s < 2 ^ 64
  either_fits m n f g (First a) = f a
  either_fits m n f g (Second b) = g b

  pub either_byte : (r : A → List ℕ) (q : B → List ℕ) → ((a : A) (k : ℕ) → slice_index (r a) k < 256) → ((b : B) (k : ℕ) → slice_index (q b) k < 256)
      → (s : Either A B) (k : ℕ) → slice_index (of_either r q s) k < 256
  either_byte r q f g (First a) k = f a k
  either_byte r q f g (Second b) k = g b k

  module _ (u : A → List Write → A → Type 0) (v : B → List Write → B → Type 0) where
    pub either_none : ((a : A) → u a [] a) → ((b : B) → v b [] b) → (s : Either A B) → wrote_either u v s [] s
    either_none f g (First a) = f a
    either_none f g (Second b) = g b

    pub either_more : ((s t w : A) (a b : List Write) → u s a t → u t b w → u s (a ++ b) w) → ((s t w : B) (a b : List Write) → v s a t → v t b w → v s (a ++ b) w)
        → (s t w : Either A B) (a b : List Write) → wrote_either u v s a t → wrote_either u v t b w → wrote_either u v s (a ++ b) w
    either_more f g (First s) (First t) (First w) a b p q = f s t w a b p q
    either_more f g (First s) (First t) (Second w) a b p q = q
    either_more f g (First s) (Second t) w a b p q = absurd p
    either_more f g (Second s) (First t) w a b p q = absurd p
    either_more f g (Second s) (Second t) (First w) a b p q = q
    either_more f g (Second s) (Second t) (Second w) a b p q = g s t w a b p q

    pub either_stands : (r : A → List ℕ) (q : B → List ℕ) → ((s t : A) (a : List Write) → u s a t → r t ≡ applied (r s) a) → ((s t : B) (a : List Write) → v s a t → q t ≡ applied (q s) a)
        → (s t : Either A B) (a : List Write) → wrote_either u v s a t → of_either r q t ≡ applied (of_either r q s) a
    either_stands r q f g (First s) (First t) a w = f s t a w
    either_stands r q f g (First s) (Second t) a w = absurd w
    either_stands r q f g (Second s) (First t) a w = absurd w
    either_stands r q f g (Second s) (Second t) a w = g s t a w

    pub either_lasts : (m : A → ℕ) (n : B → ℕ) → ((s t : A) (a : List Write) → u s a t → m t ≡ m s) → ((s t : B) (a : List Write) → v s a t → n t ≡ n s)
        → (s t : Either A B) (a : List Write) → wrote_either u v s a t → of_either m n t ≡ of_either m n s
    either_lasts m n f g (First s) (First t) a w = f s t a w
    either_lasts m n f g (First s) (Second t) a w = absurd w
    either_lasts m n f g (Second s) (First t) a w = absurd w
    either_lasts m n f g (Second s) (Second t) a w = g s t a w
