use Rattle.std.proofs.Common.{arith, rules}
use Rattle.std.proofs.lemmas.List.{same_lists, places}
use Rattle.model.specs.Bytes.{written}
use Rattle.lent_store.proofs.lent_mut.LentMut.paste.Goals as goal

pub returns-clause-row : goal.returns-clause-row
unfolding written
returns-clause-row c = same_lists _ _ (search (rules, places)) (λ k d h. grind (arith, places))
