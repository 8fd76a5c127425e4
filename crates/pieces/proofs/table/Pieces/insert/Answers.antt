-- The fragment stands at its place, so all stay in order.
use Rattle.std.proofs.Common.{◌<◌, ◌^◌, arith}
use Rattle.std.specs.List.{All}
use Rattle.bounded.proofs.Places.{All-insert, after_insert}
use Rattle.pieces.specs.declared.piece.Piece.{Piece}
use Rattle.pieces.proofs.Placed.{Ordered, ordered_more, put_or_not}
use Rattle.pieces.proofs.table.Pieces.insert.Goals as goal

pub invariant_of-self : goal.invariant_of-self
invariant_of-self c =
    let d = c.args.self.now in
    let p = c.place_behind-at.ensures in
    let w = c.insert.ensures in
    record {
      fits = after_insert (All (λ (q : Piece). q.from < 2 ^ 32)) _ _ _ c.args.piece p.within d.fits (All-insert (λ (q : Piece). q.from < 2 ^ 32) _ _ c.args.piece (omega arith) d.fits) _ _ w.items;
      ordered = after_insert Ordered _ _ _ _ p.within d.ordered (ordered_more _ c.args.piece _ (omega arith) p.parts d.ordered) _ _ w.items;
    }

pub returns-clause-rows : goal.returns-clause-rows
returns-clause-rows c = let p = c.place_behind-at.ensures in put_or_not _ c.args.piece _ (omega arith) p.parts _ p.within _ _ c.insert.ensures.items
