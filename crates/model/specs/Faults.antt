-- Refusals, and the first broken rule of a list of checks.
use Rattle.std.specs.Prelude.{ℕ, Bool, cond, List, [], ◌∷◌}
use Rattle.model.specs.declared.types.Fault.{Fault}

-- what a refusal tells
abbrev pub fault : ℕ → ℕ → ℕ → ℕ → Fault
fault n l p i = record { number = n; layer = l; place = p; list = i }

-- something, or a refusal
pub data Outcome (A : Type 0) : Type 0 where
  done : A → Outcome A
  refused : Fault → Outcome A

-- one check: whether its rule is broken, and what is then told
abbrev pub Check : Type 0
Check = Bool × Fault

-- a, unless a rule is broken: then the first of them is told
abbrev pub unless : {A : Type 0} → List Check → Outcome A → Outcome A
unless [] a = a
unless (c ∷ cs) a = cond c.0 (refused c.1) (unless cs a)

-- go on with what is there, or hand a refusal on
abbrev pub then : {A B : Type 0} → Outcome A → (A → Outcome B) → Outcome B
then (done a) k = k a
then (refused f) k = refused f
