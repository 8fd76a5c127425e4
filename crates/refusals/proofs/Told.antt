-- Checks one after the other: what the first broken one tells.
use Rattle.std.proofs.Common.{◌≡◌, List, [], ◌∷◌, ◌++◌, Some, None, refl, arith}
use Rattle.std.proofs.lemmas.Bool.Decides.{nat_tests}
use Rattle.model.specs.declared.types.Fault.{Fault}
use Rattle.model.specs.Faults.{Outcome, refused, Check, unless}
use Rattle.refusals.specs.Checked.{told_by}

pub told_more : (cs ds : List Check) (f : Fault) → told_by cs ≡ Some f → told_by (cs ++ ds) ≡ Some f
told_more [] ds f e = cc
told_more (c ∷ cs) ds f e = grind (arith, nat_tests, told_more cs ds f)

pub told_on : (cs ds : List Check) → told_by cs ≡ None → told_by (cs ++ ds) ≡ told_by ds
told_on [] ds e = refl
told_on (c ∷ cs) ds e = grind (arith, nat_tests, told_on cs ds)

pub unless_told : {A : Type 0} (cs : List Check) (x : Outcome A) (f : Fault) → told_by cs ≡ Some f → unless cs x ≡ refused f
unless_told [] x f e = cc
unless_told (c ∷ cs) x f e = grind (arith, nat_tests, unless_told cs x f)

pub unless_none : {A : Type 0} (cs : List Check) (x : Outcome A) → told_by cs ≡ None → unless cs x ≡ x
unless_none [] x e = refl
unless_none (c ∷ cs) x e = grind (arith, nat_tests, unless_none cs x)
