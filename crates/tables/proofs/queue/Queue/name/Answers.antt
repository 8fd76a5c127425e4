use Rattle.std.proofs.Common.{[], ◌∷◌, subst, arith}
use Rattle.tables.specs.Queues.{Names}
use Rattle.tables.proofs.Queued.{name_pushed}
use Rattle.tables.proofs.queue.Queue.name.Goals as goal

pub returns : goal.returns
returns c =
    subst (λ q. Names q ((c.args.field, c.args.span) ∷ []) c.push.new.self) c.self.view_is
    (name_pushed c.self.inside.named _ (record { field = c.args.field; span = c.args.span }) _ _ (omega arith) c.push.ensures.room c.push.ensures.items)
