use Rattle.tables.proofs.Queued.{names_more}
use Rattle.lists_pass.proofs.name_first.Goals as goal

pub returns-then-not-is_absent : goal.returns-then-not-is_absent
returns-then-not-is_absent c = rw (← c.if-not-is_absent.ensures) (names_more _ _ _ _ _ c.name.ensures c.name-then-not-is_absent.ensures)
