use Rattle.std.proofs.Common.{arith}
use Rattle.model.specs.Bytes.{piece}
use Rattle.card_store.proofs.CardFacts.{part_of}
use Rattle.card_store.proofs.Card.part.Goals as goal

pub returns-clause-bytes : goal.returns-clause-bytes
unfolding piece
returns-clause-bytes c = let e = part_of c.args.self.now c.args.k c.args.n c.requires.one c.requires.within c.requires.some in grind (arith, e)
