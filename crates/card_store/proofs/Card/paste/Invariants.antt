use Rattle.std.proofs.Common.{◌≡◌, ◌-◌, ◌≤◌, take, vec_items}
use Rattle.model.specs.Bytes.{written}
use Rattle.card_store.specs.Cards.{card_row}
use Rattle.card_store.proofs.Card.paste.Given as goal

abbrev pub invariant-loop-done : goal.invariant-loop-done
invariant-loop-done l =
    (l.done ≤ l.n)
    × (card_row (vec_items l.self.buffer) (vec_items l.self.blocks)
    ≡ written (card_row (vec_items l.initial.self.buffer) (vec_items l.initial.self.blocks)) l.p (take l.done l.new))
    × (l.self.blocks ≡ l.initial.self.blocks)
    × (l.self.len ≡ l.initial.self.len)

abbrev pub decreases-loop-done : goal.decreases-loop-done
decreases-loop-done l = l.n - l.done
