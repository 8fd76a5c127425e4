-- A fragment's place: outside the file, one too many, or sharing a byte with the header or another fragment; checked in this order.
use Rattle.std.specs.Prelude.{◌≡◌, ℕ, ◌<◌, ◌≤◌, true, false, List, [], ◌∷◌, ◌++◌, length, Ok, Err, Result}
use Rattle.model.specs.declared.types.Span.{Span}
use Rattle.model.specs.References.{meets}
use Rattle.model.specs.OpenedLog.{outside, overlaps}
use Rattle.tables.specs.declared.places.Misplaced.{Misplaced}
use Rattle.tables.specs.declared.places.Misplaced.TheVariants.{Outside, Full, Overlap}

-- a range shares a byte with one of ss exactly when it does with one of fs
abbrev pub Alike : List Span → List Span → Type 0
Alike ss fs = (r : Span) → meets r ss ≡ meets r fs

-- a fragment f is taken in behind the fragments fs exactly when its place is right; refused, they stay
abbrev pub Admits : {T : Type 0} → ℕ → ℕ → List Span → Span → List Span → Result T Misplaced → Type 0
Admits least end fs f after (Ok x) = (outside least end f ≡ false) × (length fs < 2048) × (overlaps f fs ≡ false) × (after ≡ fs ++ (f ∷ []))
Admits least end fs f after (Err Outside) = (outside least end f ≡ true) × (after ≡ fs)
Admits least end fs f after (Err Full) = (outside least end f ≡ false) × (2048 ≤ length fs) × (after ≡ fs)
Admits least end fs f after (Err Overlap) = (outside least end f ≡ false) × (length fs < 2048) × (overlaps f fs ≡ true) × (after ≡ fs)
