-- What looks at a file of the code answer.
use Rattle.std.specs.Prelude.{◌≡◌, ℕ, List, Some, None, Option}
use Rattle.model.specs.declared.types.Header.{Header}
use Rattle.model.specs.Faults.{fault, Outcome, refused, then}
use Rattle.model.specs.Opened.{opened}
use Rattle.model.specs.Looks.{Look, Looked, answered, look}
use Rattle.looks.specs.Answers.{counted}
use Rattle.section.specs.declared.access.Access.{Access}

-- 15 shut: the file is not open; else what the rules say of its bytes
abbrev pub look_of : Option Access → List ℕ → Look → Looked
look_of None b l = answered l (refused (fault 15 5 0 0))
look_of (Some a) b l = look b l

-- likewise of a list's count at k
abbrev pub count_of : Option Access → List ℕ → ℕ → ℕ → Outcome ℕ
count_of None b k list = refused (fault 15 5 0 0)
count_of (Some a) b k list = then (opened b) (λ s. counted s k list)

-- the file is open, with this header
abbrev pub HasHeader : Option Access → Header → Type 0
HasHeader None h = ⊥
HasHeader (Some a) h = a.header ≡ h
