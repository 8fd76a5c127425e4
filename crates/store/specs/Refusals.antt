-- What each refusal of a store tells: 27 range, 28 map, 29 cover; all of layer 6, with no place and no list.
use Rattle.model.specs.declared.types.Fault.{Fault}
use Rattle.model.specs.Faults.{fault}
use Rattle.store.specs.declared.base.StoreFault.{StoreFault}
use Rattle.store.specs.declared.base.StoreFault.TheVariants.{Range, Map, Cover}

abbrev pub told : StoreFault → Fault
told Range = fault 27 6 0 0
told Map = fault 28 6 0 0
told Cover = fault 29 6 0 0
