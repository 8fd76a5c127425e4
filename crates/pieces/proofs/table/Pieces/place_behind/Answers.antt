-- The fragments are in order, so the search finds the place.
use Rattle.std.proofs.Common.{rules}
use Rattle.std.proofs.lemmas.List.Sorted.{IsPartitionPoint-from_clause}
use Rattle.pieces.proofs.Placed.{pair_test, parted, parts}
use Rattle.pieces.proofs.table.Pieces.place_behind.Goals as goal

pub returns-clause-parts : goal.returns-clause-parts
returns-clause-parts c =
    let in_order = parted _ c.args.self.now.ordered c.args.list c.args.from in
    let clause = rw c.as_slice.ensures.values at c.partition_point.ensures.partitioned in
    parts c.args.list c.args.from _ _ (IsPartitionPoint-from_clause (pair_test c.args.list c.args.from) _ _ clause in_order (λ a r f k. search rules))
