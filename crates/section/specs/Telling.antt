-- What a file's figures tell.
use Rattle.std.specs.Prelude.{◌≡◌, ℕ, List, Some, None, Ok, Err, Option, Result}
use Rattle.model.specs.Faults.{fault, Outcome, done, refused, then}
use Rattle.model.specs.Opened.{opened}
use Rattle.refusals.specs.declared.calls.LookFault.{LookFault}
use Rattle.refusals.specs.CallRefusals.{look_told}
use Rattle.section.specs.declared.access.Access.{Access}
use Rattle.section.specs.declared.access.Figures.{Figures}
use Rattle.section.specs.Figures.{figures_of}

-- an answer as an outcome
abbrev pub figures_answer : Result Figures LookFault → Outcome Figures
figures_answer (Ok f) = done f
figures_answer (Err e) = refused (look_told e)

-- 15 shut: the file is not open; else the figures of what opening finds in the bytes
abbrev pub figures_at : Option Access → List ℕ → Outcome Figures
figures_at None b = refused (fault 15 5 0 0)
figures_at (Some a) b = then (opened b) (λ s. done (figures_of s))

abbrev pub Tells : List ℕ → Option Access → Result Figures LookFault → Type 0
Tells b o r = figures_answer r ≡ figures_at o b
