use Rattle.std.proofs.Common.{◌≤◌}
use Rattle.lists_pass.specs.Parts.{Walking}
use Rattle.lists_pass.proofs.read_nodes.Given as goal

-- the nodes so far were read
abbrev pub invariant-loop-nodes : goal.invariant-loop-nodes
invariant-loop-nodes g l =
    (l.place ≤ l.stop)
    × Walking (g.S.Store.bytes l.store) l.left l.list l.fn.fragment.span l.nodes l.place l.initial.queue l.queue
