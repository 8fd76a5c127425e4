use Rattle.looks.proofs.Counting.{counted_here}
use Rattle.looks.proofs.Finding.{finds_above, finds_none, finds_node}
use Rattle.looks.proofs.opened.Opened.find.Goals as goal

pub returns-in_err-index : goal.returns-in_err-index
returns-in_err-index g c = λ s o.
    let (above, told) = c.in_err-index.ensures in
    finds_above _ _ _ s o _ _ _ _ (c.in_ok-k.ensures).1 (counted_here s.log _ _ _ _ _ c.in_ok-k.ensures.0 c.in_ok-k.ensures.1 (c.counted.ensures s o)) c.from_residual-in_err-index.result _ c.from_residual-in_err-index.ensures.1 above told

pub returns-in_default : goal.returns-in_default
returns-in_default g c = λ s o.
    let (same, known) = c.in_ok-k.ensures in
    let (is, below) = c.in_ok-index.ensures in
    finds_none _ _ _ s o _ _ _ _ known (counted_here s.log _ _ _ _ _ c.in_ok-k.ensures.0 c.in_ok-k.ensures.1 (c.counted.ensures s o)) _ is below c.in_default.ensures

pub returns : goal.returns
returns g c = λ s o.
    let (same, known) = c.in_ok-k.ensures in
    let (is, below) = c.in_ok-index.ensures in
    finds_node _ _ _ s o _ _ _ _ known (counted_here s.log _ _ _ _ _ c.in_ok-k.ensures.0 c.in_ok-k.ensures.1 (c.counted.ensures s o)) _ is below c.in-Some.piece _ _ _ c.at.result c.in-Some.ensures c.nodes_from.ensures c.saturating_sub.ensures c.place_of-place.ensures c.at.ensures
