use Rattle.std.proofs.Common.{◌≤◌, []}
use Rattle.model.specs.ListFragments.{nodes_from, nodes_to}
use Rattle.model.specs.OpenedLists.{nodes_at}
use Rattle.data_pass.specs.DataWalks.{Scanned}
use Rattle.data_pass.proofs.listed.Listed.check_nodes.Given as goal

-- the data of the nodes so far is right
abbrev pub invariant-loop-nodes : goal.invariant-loop-nodes
invariant-loop-nodes g l =
    (l.place ≤ l.stop)
    × Scanned (g.S.Store.bytes l.self.store.now) l.self.end l.self.fragments.now l.left l.list
    (nodes_at l.left (g.S.Store.bytes l.self.store.now) l.list (nodes_to l.fn.fragment.span) (nodes_from l.fn.fragment.span) []) l.stop l.nodes l.place
