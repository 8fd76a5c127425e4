use Rattle.card_store.specs.Cards.{Apart}
use Rattle.card_store.proofs.are_apart.Given as goal

abbrev pub invariant-loop-i : goal.invariant-loop-i
invariant-loop-i l = Apart l.blocks l.i
