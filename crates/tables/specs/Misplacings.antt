-- The refusal of a fragment for its place, whose reference stands at p: the log's, and a list's.
use Rattle.std.specs.Prelude.{ℕ}
use Rattle.refusals.specs.declared.faults.LogFault.{LogFault}
use Rattle.refusals.specs.declared.faults.LogFault.TheVariants as log
use Rattle.refusals.specs.declared.faults.ListFault.{ListFault}
use Rattle.refusals.specs.declared.faults.ListFault.TheVariants as list
use Rattle.tables.specs.declared.places.Misplaced.{Misplaced}
use Rattle.tables.specs.declared.places.Misplaced.TheVariants as place

abbrev pub log_misplaced : Misplaced → ℕ → LogFault
log_misplaced place.Outside p = log.Outside p
log_misplaced place.Full p = log.Full p
log_misplaced place.Overlap p = log.Overlap p

abbrev pub list_misplaced : Misplaced → ℕ → ListFault
list_misplaced place.Outside p = list.Outside p
list_misplaced place.Full p = list.Full p
list_misplaced place.Overlap p = list.Overlap p
