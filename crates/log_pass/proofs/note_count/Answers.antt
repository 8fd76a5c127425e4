-- A count: not above the last, one too many, or noted.
use Rattle.std.proofs.Common.{arith}
use Rattle.std.proofs.lemmas.Bool.Decides.{nat_tests}
use Rattle.log_pass.proofs.OneEntry.{takes_backward, takes_room, takes_count}
use Rattle.log_pass.proofs.note_count.Goals as goal

pub returns-then-number-latest-clause-takes : goal.returns-then-number-latest-clause-takes
returns-then-number-latest-clause-takes c = λ k h. takes_backward h _ _ c.args.logged.now.entry c.requires (omega arith)

pub returns-in_default-clause-takes : goal.returns-in_default-clause-takes
returns-in_default-clause-takes c = λ k h. takes_room h _ _ c.args.logged.now.entry c.requires (omega arith) (grind (arith, nat_tests, c.note.ensures.test))

pub returns-clause-takes : goal.returns-clause-takes
returns-clause-takes c = λ k h.
    let s = c.in-Ok.ensures in
    takes_count h _ c.args.logged.now.entry c.args.logged.now.bytes c.requires (omega arith) c.args.logged.now.same s.changes s.len s.finished c.update_slice.ensures
