use Rattle.std.proofs.Common.{◌≡◌, ◌-◌, ◌≤◌, ◌++◌, take, drop, vec_items}
use Rattle.model.specs.Bytes.{piece}
use Rattle.card_store.specs.Cards.{card_row}
use Rattle.card_store.proofs.Card.copy_out.Given as goal

abbrev pub invariant-loop-done : goal.invariant-loop-done
invariant-loop-done l =
    (l.done ≤ l.n) × (l.into ≡ piece (take l.self.len (card_row (vec_items l.self.buffer) (vec_items l.self.blocks))) l.p l.done ++ drop l.done l.initial.into)

abbrev pub decreases-loop-done : goal.decreases-loop-done
decreases-loop-done l = l.n - l.done
