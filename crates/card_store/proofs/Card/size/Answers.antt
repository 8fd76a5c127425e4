use Rattle.std.proofs.Common.{sym, refl}
use Rattle.card_store.proofs.CardFacts.{length_bytes}
use Rattle.card_store.proofs.Card.size.Goals as goal

pub returns : goal.returns
returns c = record { row = sym (length_bytes c.args.self.now); stored = refl }
