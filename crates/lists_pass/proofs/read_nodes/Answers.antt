use Rattle.std.proofs.Common.{arith}
use Rattle.node_walk.proofs.NodeSteps.{good_within}
use Rattle.lists_pass.proofs.Walkings.{walking_more, walked_bad}
use Rattle.lists_pass.proofs.read_nodes.Goals as goal

pub loop-nodes-preserved : goal.loop-nodes-preserved
loop-nodes-preserved g c =
    let e = c.in-Some.ensures in (
      (good_within c.in-Some.node.head _ _ c.if-is_bad.ensures).0,
      walking_more _ _ _ c.in-Some.node.reference c.nodes_to-stop.ensures.value c.loop-nodes.invariant.1 (omega arith) e.0 e.1 e.2 c.if-is_bad.ensures c.name_list.ensures,
    )

pub returns-then-is_bad-clause-answer : goal.returns-then-is_bad-clause-answer
returns-then-is_bad-clause-answer g c =
    let e = c.in-Some.ensures in
    walked_bad _ c.nodes_to-stop.ensures.value c.loop-nodes.invariant.1 (omega arith) e.0 e.1 c.if-is_bad.ensures
