-- What is opened for a look.
use Rattle.std.specs.Prelude.{◌≡◌, ℕ, List, Some, None, Ok, Err, Option, Result}
use Rattle.model.specs.Faults.{refused}
use Rattle.refusals.specs.declared.faults.OpenFault.{OpenFault}
use Rattle.refusals.specs.Refusals.{told}
use Rattle.section.specs.OpenAnswers.{opened_in}
use Rattle.sheet_c.specs.declared.looking.Seeing.{Seeing}
use Rattle.sheet_c.specs.Shows.{Holds}

-- for want of memory nothing was opened
abbrev pub Opened : ℕ → List ℕ → Option (Result Seeing OpenFault) → Type 0
Opened room b None = Unit {0}
Opened room b (Some (Ok s)) = Holds room b s.file.store.bytes.now s.file.room s.file.access s.figures
Opened room b (Some (Err e)) = opened_in room b ≡ refused (told e)
