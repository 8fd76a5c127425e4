-- The IDs rise, so a search by them finds the list, or its place.
use Rattle.std.proofs.Common.{rules}
use Rattle.std.proofs.lemmas.List.Sorted.{answers_always}
use Rattle.counts.proofs.Listed.{searched}
use Rattle.counts.proofs.lists.Lists.search.Goals as goal

pub returns : goal.returns
returns c =
    let d = c.args.self.now in
    let facts = c.binary_search_by_key.ensures in
    let by_id = facts.position (λ row. row.list) (answers_always _ _ _ (λ f a r g called. search rules)) in
    searched _ d.rises c.args.list _ d.rows.ok.0 _ (rw c.deref.ensures.value at facts.bound) (rw c.deref.ensures.value at by_id)
