-- What an add or a commit's log writes leave of a row: everything before the draft's end but the room of one fragment.
use Rattle.std.specs.Prelude.{◌≡◌, ℕ, ◌+◌, ◌<◌, ◌≤◌, ◌⊎◌, List, [], ◌∷◌, length, slice_index}
use Rattle.model.specs.declared.types.Span.{Span}
use Rattle.model.specs.References.{end_of}
use Rattle.model.specs.Means.{Apart}

-- c is b up to `end`, but for the bytes of the fragment g from lo on: lo is behind its first `front` bytes, and its last `back` bytes are kept
pub record Around (b c : List ℕ) (end : ℕ) (g : Span) (lo front back : ℕ) : Type 0 where
  pub kept : (i : ℕ) → i < end → (i < lo) ⊎ (end_of g ≤ i + back) → slice_index b i ≡ slice_index c i
  pub from : g.start + front ≤ lo
  pub before : end ≤ length b
  pub after : end ≤ length c

-- a chain of fragments, the nodes of which end at q, has none of those bytes
abbrev pub Ahead : Span → ℕ → List Span → ℕ → Type 0
Ahead g lo [] q = Unit {0}
Ahead g lo (f ∷ []) q = ((f ≡ g) × (q ≤ lo)) ⊎ Apart g f
Ahead g lo (f ∷ (f' ∷ fs)) q = Apart g f × Ahead g lo (f' ∷ fs) q
