-- At the i-th entry: what is left gives what the whole fragment gives.
use Rattle.log_count.proofs.Fragments.{Meeting}
use Rattle.log_count.proofs.Tally.meet_fragment.Given as goal

abbrev pub invariant-loop-i : goal.invariant-loop-i
invariant-loop-i g l = Meeting (g.S.Store.bytes l.store) l.fragment l.initial.self l.i l.self
