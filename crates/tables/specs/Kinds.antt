-- The least size of a fragment: 12 of the log's, 36 of a list's.
use Rattle.std.specs.Prelude.{ℕ}
use Rattle.tables.specs.declared.places.Kind.{Kind}
use Rattle.tables.specs.declared.places.Kind.TheVariants as kind

abbrev pub least_of : Kind → ℕ
least_of kind.Log = 12
least_of kind.List = 36
