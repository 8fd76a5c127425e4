-- What each refusal of opening tells: its number, its layer (1 header, 2 log, 3 lists and data references), its place, and the list.
-- 100 is no rule of the format: the caller's room does not take the log's counts.
use Rattle.std.specs.Prelude.{ℕ}
use Rattle.model.specs.declared.types.Fault.{Fault}
use Rattle.model.specs.Faults.{fault}
use Rattle.refusals.specs.declared.faults.HeaderFault.{HeaderFault}
use Rattle.refusals.specs.declared.faults.HeaderFault.TheVariants as header
use Rattle.refusals.specs.declared.faults.LogFault.{LogFault}
use Rattle.refusals.specs.declared.faults.LogFault.TheVariants as log
use Rattle.refusals.specs.declared.faults.ListFault.{ListFault}
use Rattle.refusals.specs.declared.faults.ListFault.TheVariants as list
use Rattle.refusals.specs.declared.faults.InList.{InList}
use Rattle.refusals.specs.declared.faults.OpenFault.{OpenFault}
use Rattle.refusals.specs.declared.faults.OpenFault.TheVariants as opening

abbrev pub header_told : HeaderFault → Fault
header_told (header.Short p) = fault 1 1 p 0
header_told (header.Strange p) = fault 2 1 p 0
header_told header.Newer = fault 3 1 0x4C 0
header_told header.Bare = fault 4 1 0x60 0

abbrev pub log_told : LogFault → Fault
log_told (log.Outside p) = fault 5 2 p 0
log_told (log.Sum p) = fault 6 2 p 0
log_told (log.Backward p) = fault 7 2 p 0
log_told (log.Overlap p) = fault 11 2 p 0
log_told (log.Full p) = fault 13 2 p 0
log_told (log.Room p) = fault 100 2 p 0

abbrev pub list_fault : ListFault → ℕ → Fault
list_fault (list.Outside p) id = fault 5 3 p id
list_fault (list.Fragment p) id = fault 8 3 p id
list_fault (list.Node p) id = fault 9 3 p id
list_fault (list.Unlisted p) id = fault 10 3 p id
list_fault (list.Overlap p) id = fault 11 3 p id
list_fault (list.Twice p) id = fault 12 3 p id
list_fault (list.Full p) id = fault 13 3 p id

abbrev pub list_told : InList → Fault
list_told f = list_fault f.fault f.list

abbrev pub told : OpenFault → Fault
told (opening.Header f) = header_told f
told (opening.Log f) = log_told f
told (opening.List f) = list_told f
told opening.Busy = fault 14 4 0 0
