-- The last range before the place or the first one behind it shares a byte, or none does.
use Rattle.std.proofs.Common.{◌∙◌, take, drop, ap, rules}
use Rattle.ranges.proofs.Order.{meets_front, meets_back}
use Rattle.ranges.proofs.Ranges.meets_at.Goals as goal

pub returns-then-is_some_and : goal.returns-then-is_some_and
returns-then-is_some_and c =
    let d = c.args.self.now in
    let w = c.split_at.ensures in
    let items = c.as_slice.ensures.values in
    meets_front _ d.some d.ordered _ _ c.requires.parts _ _ (w.front ∙ ap (take c.args.at) items) (w.back ∙ ap (drop c.args.at) items)
    _ c.last.ensures.item _ (search rules) c.if-is_some_and.true

pub returns-else-is_some_and : goal.returns-else-is_some_and
returns-else-is_some_and c =
    let d = c.args.self.now in
    let w = c.split_at.ensures in
    let items = c.as_slice.ensures.values in
    meets_back _ d.some d.ordered _ _ c.requires.parts _ _ (w.front ∙ ap (take c.args.at) items) (w.back ∙ ap (drop c.args.at) items)
    _ c.last.ensures.item _ (search rules) c.if-is_some_and.false _ c.first.ensures.item _ (search rules)
