-- The form of a number in a reference.
use Rattle.std.specs.Prelude.{ℕ, min, List, slice_index_or, ◌≡◌}
use Rattle.format.specs.declared.forms.Form.{Form}

-- the form of a format; one past 3 counts as 3
abbrev pub IsFormOf : List Form → ℕ → Form → Type 0
IsFormOf forms format f = f ≡ slice_index_or forms (min format 3) f
