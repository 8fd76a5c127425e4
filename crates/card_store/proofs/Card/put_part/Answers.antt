use Rattle.std.proofs.Common.{vec_items, ap, ◌∙◌, arith, rules}
use Rattle.std.proofs.lemmas.List.{same_lists, places}
use Rattle.model.specs.Bytes.{written}
use Rattle.card_store.specs.Cards.{card_row}
use Rattle.card_store.proofs.CardFacts.{with_part}
use Rattle.card_store.proofs.Card.put_part.Goals as goal

pub returns-clause-row : goal.returns-clause-row
unfolding written
returns-clause-row c =
    ap (λ b. card_row b (vec_items c.args.self.now.blocks)) (same_lists _ _ (search (rules, places)) (λ k d h. grind (arith, places)))
    ∙ with_part c.args.self.now c.args.k c.args.part.now c.requires.one c.requires.within c.requires.some
