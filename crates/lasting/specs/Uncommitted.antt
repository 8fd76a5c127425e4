-- Calls of which none commits: a draft is not seen before its commit, and if it is abandoned, never.
use Rattle.std.specs.Prelude.{◌≡◌, ℕ, List, [], ◌∷◌}
use Rattle.model.specs.Looks.{Look}
use Rattle.model.specs.Calls.{State, Call, looking, answer, after}
use Rattle.model.specs.Journal.{Fit, commits}
use Rattle.model.specs.Laws.{Sound}

-- the state after some calls
abbrev pub after_all : State → List Call → State
after_all s [] = s
after_all s (c ∷ cs) = after_all (after s c) cs

-- calls with the arguments that their types hold, none of which is a commit that was done
abbrev pub Uncommitted : State → List Call → Type 0
Uncommitted s [] = Unit {0}
Uncommitted s (c ∷ cs) = Fit c × (commits (answer s c) ≡ 0) × Uncommitted (after s c) cs

-- they leave every look as it was
abbrev pub DraftsUnseen : Type 0
DraftsUnseen = (s : State) (n ceiling : ℕ) → Sound s n ceiling → (cs : List Call) → Uncommitted s cs → (l : Look) → answer (after_all s cs) (looking l) ≡ answer s (looking l)
