-- A source of 1 makes a sentinel.
use Rattle.std.proofs.Common.{◌≡◌, ap}
use Rattle.model.specs.declared.types.Entry.{Entry}
use Rattle.model.specs.LogFragments.{entry}
use Rattle.log_pass.proofs.take_entry.Goals as goal

sentinel_is : (e : Entry) → e.source ≡ 1 → e ≡ entry 1 e.number
sentinel_is e s = ap (λ x. entry x e.number) s

pub returns-then-logged-eq1-clause-takes : goal.returns-then-logged-eq1-clause-takes
returns-then-logged-eq1-clause-takes c = λ k h. rw (sentinel_is c.args.logged.now.entry c.if-logged-eq1.true) (c.end_transaction.ensures.takes k h)
