-- what is left gives the whole
use Rattle.std.proofs.Common.{◌≡◌, drop}
use Rattle.keeping.specs.Rows.{with_rows}
use Rattle.keeping.proofs.parts.keep_rows.Given as goal

abbrev pub invariant-loop-tail : goal.invariant-loop-tail
invariant-loop-tail l = with_rows (drop l.tail-index l.touched) l.rows ≡ with_rows l.touched l.initial.rows
