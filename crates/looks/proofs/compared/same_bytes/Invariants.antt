use Rattle.std.proofs.Common.{◌≡◌, ◌+◌, ◌-◌, ◌≤◌, length}
use Rattle.model.specs.Bytes.{piece, same_row}
use Rattle.looks.proofs.compared.same_bytes.Given as goal

-- what is left says whether all is the same
abbrev pub invariant-loop-at : goal.invariant-loop-at
invariant-loop-at g l =
    (l.at ≤ l.size)
    × (l.one + l.size ≤ length (g.S.Store.bytes l.store) → l.other + l.size ≤ length (g.S.Store.bytes l.store)
    → same_row (piece (g.S.Store.bytes l.store) l.one l.size) (piece (g.S.Store.bytes l.store) l.other l.size)
    ≡ same_row (piece (g.S.Store.bytes l.store) (l.one + l.at) (l.size - l.at)) (piece (g.S.Store.bytes l.store) (l.other + l.at) (l.size - l.at)))

abbrev pub decreases-loop-at : goal.decreases-loop-at
decreases-loop-at g l = l.size - l.at
