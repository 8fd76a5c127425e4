-- A column's bytes are text.
use Rattle.std.proofs.Common.{rules}
use Rattle.lines.proofs.Digits.{column_is_text}
use Rattle.lines.proofs.columns.ColumnDisplay.fmt.Goals as goal

pub unreachable-requires : goal.unreachable-requires
unreachable-requires g c =
    c.in_default-from_utf8.ensures.cases.0 (column_is_text c.args.self.now.0 _ (search rules) c.in-Some.ensures.fits c.in-Some.ensures.wide)
