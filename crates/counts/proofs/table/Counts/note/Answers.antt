-- Each of the parts takes the change up.
use Rattle.std.proofs.Common.{sym, ◌∙◌, arith}
use Rattle.counts.proofs.Newest.{newest_added, linked_added, early_added, steady_added, most_added}
use Rattle.counts.proofs.table.Counts.note.Goals as goal

pub invariant_of-self-clause-newest : goal.invariant_of-self-clause-newest
invariant_of-self-clause-newest c =
    let d = c.args.self.now in
    let a = c.push_reserved-2.ensures in
    λ id. newest_added _ _ _ _ _ d.changes.ok.0 a.items a.len id _ _ (rw (← c.len-i.ensures) (c.set_newest-before.ensures.holds id)) (d.newest id)

pub invariant_of-self-clause-linked : goal.invariant_of-self-clause-linked
invariant_of-self-clause-linked c =
    let d = c.args.self.now in
    let a = c.push_reserved-2.ensures in
    linked_added _ _ _ _ _ d.changes.ok.0 a.items a.len _ _ _ (sym d.paired.0 ∙ d.links.ok.0) c.push_reserved.ensures.items
    (rw (c.set_newest-before.ensures.before ∙ d.newest c.args.list, c.len-i.ensures) at c.unwrap_or.ensures) d.linked

pub invariant_of-self-clause-early : goal.invariant_of-self-clause-early
invariant_of-self-clause-early c = let d = c.args.self.now in let a = c.push_reserved-2.ensures in early_added _ _ _ _ _ d.changes.ok.0 a.items a.len _ (omega arith) d.early

pub invariant_of-self-clause-steady : goal.invariant_of-self-clause-steady
invariant_of-self-clause-steady c = let d = c.args.self.now in let a = c.push_reserved-2.ensures in steady_added _ _ _ _ _ d.changes.ok.0 a.items a.len d.early d.steady

pub invariant_of-self-clause-most : goal.invariant_of-self-clause-most
invariant_of-self-clause-most c = let d = c.args.self.now in let a = c.push_reserved-2.ensures in most_added _ _ _ _ _ d.changes.ok.0 a.items a.len _ _ c.max-self.ensures d.most
