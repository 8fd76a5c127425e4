use Rattle.std.proofs.Common.{arith}
use Rattle.node_walk.proofs.NodeSteps.{good_within}
use Rattle.data_pass.proofs.DataSteps.{scanned_none, scanned_more, scanned_over, scanned_end, scanned_bad, scanned_err}
use Rattle.data_pass.proofs.listed.Listed.check_nodes.Goals as goal

pub loop-nodes-init : goal.loop-nodes-init
loop-nodes-init g c = (omega arith, scanned_none _ _ _ _ _ _ _ _ _ c.nodes_to-stop.ensures.value c.nodes_from-place.ensures.value)

pub loop-nodes-preserved : goal.loop-nodes-preserved
loop-nodes-preserved g c = (
  (good_within c.in-Some.node.head _ _ c.if-is_bad.ensures).0,
  scanned_more _ _ _ _ _ _ _ _ _ c.loop-nodes.invariant.1 (omega arith) c.in-Some.node c.in-Some.ensures c.if-is_bad.ensures c.in_ok-check_node.ensures,
)

pub returns-in_default : goal.returns-in_default
returns-in_default g c = λ p q. scanned_over _ _ _ _ _ _ _ _ _ c.loop-nodes.invariant.1 (omega arith) p c.in_default.ensures q

pub returns-then-is_bad : goal.returns-then-is_bad
returns-then-is_bad g c = λ p q. absurd (scanned_bad _ _ _ _ _ _ _ _ _ c.loop-nodes.invariant.1 (omega arith) c.in-Some.node c.in-Some.ensures p c.if-is_bad.ensures q)

pub returns-in_err-check_node : goal.returns-in_err-check_node
returns-in_err-check_node g c = λ p q.
    scanned_err _ _ _ _ _ _ _ _ _ c.loop-nodes.invariant.1 (omega arith) c.in-Some.node c.in-Some.ensures c.if-is_bad.ensures p c.from_residual.result c.in_err-check_node.field-0.0
    c.from_residual.ensures.1 c.in_err-check_node.ensures q

pub returns : goal.returns
returns g c = λ p q. scanned_end _ _ _ _ _ _ _ _ _ c.loop-nodes.invariant.1 p (omega arith) q
