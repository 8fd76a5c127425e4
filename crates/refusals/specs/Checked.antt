-- The first broken rule of a list of checks, as an answer.
use Rattle.std.specs.Prelude.{◌≡◌, cond, List, [], ◌∷◌, Some, None, Ok, Err, Option, Result}
use Rattle.model.specs.declared.types.Fault.{Fault}
use Rattle.model.specs.Faults.{Check}
use Rattle.refusals.specs.declared.faults.InList.{InList}
use Rattle.refusals.specs.Refusals.{list_told}

-- what the first broken rule tells
abbrev pub told_by : List Check → Option Fault
told_by [] = None
told_by (c ∷ cs) = cond c.0 (Some c.1) (told_by cs)

abbrev pub Checked : {T : Type 0} → List Check → Result T InList → Type 0
Checked cs (Ok x) = told_by cs ≡ None
Checked cs (Err e) = told_by cs ≡ Some (list_told e)
