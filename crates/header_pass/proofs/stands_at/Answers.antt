use Rattle.std.proofs.Common.{ap, ◌∙◌, arith}
use Rattle.std.proofs.lemmas.Slice.Eq.{slice_eq-Decides}
use Rattle.model.specs.Bytes.{same_row}
use Rattle.format.proofs.Fetched.{piece_window}
use Rattle.header_pass.proofs.Checks.{row_decided}
use Rattle.header_pass.proofs.stands_at.Goals as goal
use Rattle.std.proofs.lemmas.Bool.Decides.{Decides-eqb}

pub returns : goal.returns
returns g c = λ h. row_decided _ _ c.eq.result (slice_eq-Decides Decides-eqb _ _ c.eq.result c.eq.ensures) ∙ ap (λ xs. same_row xs c.args.bytes.now) (piece_window _ _ _ 16 c.bytes_at.ensures (omega arith) h)
