-- What a store's calls do, over the row of bytes that it means. A call is done exactly when its condition holds:
-- the first line of each definition has the condition, the second its refutation.
use Rattle.std.specs.Prelude.{◌≡◌, ℕ, ◌+◌, ◌≤◌, List, [], ◌∷◌, ◌++◌, length, drop, Ok, Err, Result}
use Rattle.model.specs.Bytes.{piece, Write, written}
use Rattle.model.specs.Faults.{fault}
use Rattle.store.specs.declared.base.StoreFault.{StoreFault}
use Rattle.store.specs.Refusals.{told}

-- a read of n bytes at p is done exactly when they lie in the row and the buffer takes them: they then are its front, and its rest is as it was
abbrev pub Reads : {T : Type 0} → List ℕ → ℕ → ℕ → List ℕ → List ℕ → Result T StoreFault → Type 0
Reads row p n was is (Ok x) = (p + n ≤ length row) × (n ≤ length was) × (is ≡ piece row p n ++ drop n was)
Reads row p n was is (Err e) = (p + n ≤ length row → n ≤ length was → ⊥) × (is ≡ was) × (told e ≡ fault 27 6 0 0)

-- a write at p is done exactly when it begins in the row or at its end, and ends by the ceiling
abbrev pub Writes : {T : Type 0} → List ℕ → ℕ → ℕ → List ℕ → List ℕ → Result T StoreFault → Type 0
Writes row most p new after (Ok x) = (p ≤ length row) × (p + length new ≤ most) × (after ≡ written row p new)
Writes row most p new after (Err e) = (p ≤ length row → p + length new ≤ most → ⊥) × (after ≡ row) × (told e ≡ fault 27 6 0 0)

-- the writes that a call made: the one it was asked for, or none where it was refused
abbrev pub if_done : {T : Type 0} → Result T StoreFault → Write → List Write
if_done (Ok x) w = w ∷ []
if_done (Err e) w = []

-- bytes written and read back: done exactly when the write is, and the buffer takes them
abbrev pub Echoes : {T : Type 0} → List ℕ → ℕ → ℕ → List ℕ → List ℕ → List ℕ → List ℕ → Result T StoreFault → Type 0
Echoes row most p new after was is (Ok x) =
    (p ≤ length row) × (p + length new ≤ most) × (length new ≤ length was) × (after ≡ written row p new) × (is ≡ new ++ drop (length new) was)
Echoes row most p new after was is (Err e) =
    (p ≤ length row → p + length new ≤ most → length new ≤ length was → ⊥) × (after ≡ row) × (is ≡ was) × (told e ≡ fault 27 6 0 0)
