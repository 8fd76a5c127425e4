-- What each refusal of a call on an opened file tells: of looks in layer 5, of saving in layer 4; no place and no list.
use Rattle.model.specs.declared.types.Fault.{Fault}
use Rattle.model.specs.Faults.{fault}
use Rattle.refusals.specs.declared.calls.LookFault.{LookFault}
use Rattle.refusals.specs.declared.calls.LookFault.TheVariants as look
use Rattle.refusals.specs.declared.calls.SaveFault.{SaveFault}
use Rattle.refusals.specs.declared.calls.SaveFault.TheVariants as save

abbrev pub look_told : LookFault → Fault
look_told look.Shut = fault 15 5 0 0
look_told look.Future = fault 25 5 0 0
look_told look.NoNode = fault 26 5 0 0
look_told look.Range = fault 27 5 0 0

abbrev pub save_told : SaveFault → Fault
save_told save.Full = fault 13 4 0 0
save_told save.Busy = fault 14 4 0 0
save_told save.Shut = fault 15 4 0 0
save_told save.Foreign = fault 16 4 0 0
save_told save.NoList = fault 17 4 0 0
save_told save.Size = fault 18 4 0 0
save_told save.Kind = fault 19 4 0 0
save_told save.Wide = fault 20 4 0 0
save_told save.Empty = fault 21 4 0 0
save_told save.Same = fault 22 4 0 0
save_told save.Last = fault 23 4 0 0
save_told save.Ceiling = fault 24 4 0 0
