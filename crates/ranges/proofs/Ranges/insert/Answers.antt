-- The range shares no byte with the others, so with it at its place all stay apart.
use Rattle.std.proofs.Common.{◌<◌, sym, arith}
use Rattle.std.specs.List.{All}
use Rattle.bounded.proofs.Places.{after_insert}
use Rattle.ranges.proofs.Order.{Apart, some_more, apart_more, adds_on_ok}
use Rattle.ranges.proofs.Ranges.insert.Goals as goal

pub invariant_of-self : goal.invariant_of-self
invariant_of-self c =
    let d = c.args.self.now in
    let p = c.place_of-at.ensures in
    let w = c.insert.ensures in
    let none = sym c.if-meets_at.ensures in
    record {
      some = after_insert (All (λ s. 0 < s.size)) _ _ _ _ p.within d.some (some_more _ d.some d.ordered c.args.span (omega arith) none _ (omega arith) p.parts) _ _ w.items;
      ordered = after_insert Apart _ _ _ _ p.within d.ordered (apart_more _ d.some d.ordered c.args.span (omega arith) none _ (omega arith) p.parts) _ _ w.items;
    }

pub returns-clause-added : goal.returns-clause-added
returns-clause-added c = adds_on_ok _ _ _ _ _ _ c.place_of-at.ensures.within (rw c.map_err.ensures.variant c.insert.ensures.items)
