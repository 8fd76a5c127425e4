-- The ranges take up what the fragments take up.
use Rattle.std.proofs.Common.{arith}
use Rattle.std.proofs.lemmas.Grind.{common_steps}
use Rattle.tables.proofs.Taken.{alike_more}
use Rattle.tables.proofs.fragments.Fragments.admit.Goals as goal

pub invariant_of-self-2 : goal.invariant_of-self-2
invariant_of-self-2 c =
    let t = c.in-Ok.ensures in (
      alike_more _ _ _ _ c.args.fragment c.self.invariant.0 t.added (grind (arith, common_steps)),
      grind (arith, common_steps, t.len),
    )
