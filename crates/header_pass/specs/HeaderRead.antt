-- The answer to checking a header: its fields exactly when no rule is broken, else what the first broken rule tells.
use Rattle.std.specs.Prelude.{◌≡◌, ℕ, List, Some, None, Ok, Err, Result}
use Rattle.model.specs.Headers.{header_at}
use Rattle.model.specs.Opened.{header_checks}
use Rattle.refusals.specs.declared.faults.HeaderFault.{HeaderFault}
use Rattle.refusals.specs.Refusals.{header_told}
use Rattle.refusals.specs.Checked.{told_by}
use Rattle.header_pass.specs.declared.checked.CheckedHeader.{CheckedHeader}

abbrev pub ReadsHeader : List ℕ → Result CheckedHeader HeaderFault → Type 0
ReadsHeader b (Ok h) = (told_by (header_checks b) ≡ None) × (h.header ≡ header_at b)
ReadsHeader b (Err f) = told_by (header_checks b) ≡ Some (header_told f)
