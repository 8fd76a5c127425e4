use Rattle.std.proofs.Common.{◌≡◌, ◌≤◌, ◌++◌, map, take, drop}
use Rattle.sheet_c.specs.Shapes.{list_as}
use Rattle.sheet_c.proofs.looking.put_lists.Given as goal

abbrev pub invariant-loop-i : goal.invariant-loop-i
invariant-loop-i l = (l.i ≤ l.n) × (l.out ≡ map list_as (take l.i l.rows) ++ drop l.i l.initial.out)
