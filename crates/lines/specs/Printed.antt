-- The bytes that a listing prints.
use Rattle.std.specs.Prelude.{ℕ, List, ◌++◌}
use Rattle.std.specs.List.{flat_map}
use Rattle.tables.specs.declared.room.Row.{Row}
use Rattle.lines.specs.declared.Listing.{Listing}
use Rattle.lines.specs.declared.Listing.TheVariants as shown
use Rattle.lines.specs.Lines.{figures_line, list_line, refusal_line}

abbrev pub row_line : Row → List ℕ
row_line r = list_line r.id r.nodes r.fragments

abbrev pub printed : Listing → List ℕ
printed (shown.Opened figures lists) = figures_line figures ++ flat_map row_line lists.now
printed (shown.Refused f) = refusal_line f
