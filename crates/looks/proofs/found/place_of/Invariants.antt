use Rattle.std.proofs.Common.{ℕ, ◌^◌, ◌<◌, ◌≤◌, List, length, drop}
use Rattle.model.specs.Nodes.{Node}
use Rattle.model.specs.Means.{Nodes}
use Rattle.looks.proofs.found.place_of.Given as goal

-- the nodes that are left stand from here on
abbrev pub invariant-loop : goal.invariant-loop
invariant-loop g l =
    (stop q : ℕ) (ns : List Node) → stop ≤ 2 ^ 40 → l.index < length ns → Nodes (g.S.Store.bytes l.store) stop l.first ns q
    → Nodes (g.S.Store.bytes l.store) stop l.place (drop l.counter ns) q
