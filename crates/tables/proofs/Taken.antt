-- Fragments in their order, and the same as ranges.
use Rattle.std.proofs.Common.{◌≡◌, List, [], ◌∷◌, ◌++◌, arith}
use Rattle.std.proofs.lemmas.Bool.Decides.{nat_tests}
use Rattle.model.specs.declared.types.Span.{Span}
use Rattle.ranges.specs.Ordered.{Adds}
use Rattle.ranges.proofs.Order.{meets_append}
use Rattle.tables.specs.Places.{Alike}

-- a fragment more, in both
pub alike_more : (ss fs ts gs : List Span) (f : Span) → Alike ss fs → Adds ss f ts → gs ≡ fs ++ (f ∷ []) → Alike ts gs
alike_more ss fs ts gs f a d e r = rw e (grind (arith, nat_tests, a r, d r, meets_append r fs (f ∷ [])))
