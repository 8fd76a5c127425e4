use Rattle.std.proofs.Common.{◌≡◌, ◌+◌, ◌≤◌, length, vec_len, vec_capacity}
use Rattle.std.specs.List.{AllByRecursion}
use Rattle.journals.specs.Telling.{NeedsNoDraft}
use Rattle.journals.proofs.Steps.{Going}
use Rattle.journals.proofs.runs.run.Given as goal

-- the calls so far are made, each has its line, and the lines have room for one for each that is left
abbrev pub invariant-loop-call : goal.invariant-loop-call
invariant-loop-call g l =
    (goal.iterator-loop-call g).can_next l.call-iterator ×
    (goal.iterator-loop-call g).is_finite l.call-iterator ×
    Going g.S.Store.bytes g.S.Store.most g.S.SavingStore.wrote l.fn.file l.fn.hand l.fn.calls.items l.fn.lines.items l.file l.lines.items l.held l.call-iterator.rest.items ×
    (vec_len l.lines + length l.call-iterator.rest.items ≤ vec_capacity l.lines) ×
    (vec_len l.lines + length l.call-iterator.rest.items ≡ vec_len l.fn.lines + vec_len l.fn.calls) ×
    (AllByRecursion NeedsNoDraft l.fn.calls.items → AllByRecursion NeedsNoDraft l.call-iterator.rest.items × (l.held ≡ l.fn.hand))
