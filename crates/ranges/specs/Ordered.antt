-- What one range more adds.
use Rattle.std.specs.Prelude.{◌≡◌, ◌||◌, List}
use Rattle.model.specs.declared.types.Span.{Span}
use Rattle.model.specs.References.{share, meets}

-- the ranges `after` are those of `before` and one more: a range shares a byte with one of them exactly when it does with that one or with one of `before`
abbrev pub Adds : List Span → Span → List Span → Type 0
Adds before s after = (r : Span) → meets r after ≡ (share r s || meets r before)
