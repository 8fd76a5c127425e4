-- A fragment is a step of the log's definition: its place, then its entries.
use Rattle.log_pass.proofs.Fragments.{fragment_misplaced}
use Rattle.log_pass.proofs.read_fragment.Goals as goal

pub returns-in-Err-clause-read : goal.returns-in-Err-clause-read
returns-in-Err-clause-read g c = λ m k h.
    rw (c.into.ensures, c.at.ensures.why, c.at.ensures.place)
    (fragment_misplaced m _ _ _ c.args.named.field c.args.named.span k _ _ c.in-Err.why c.requires c.in-Err.ensures)
