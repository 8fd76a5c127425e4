-- What crosses to C, and what it tells.
use Rattle.std.specs.Prelude.{ℕ, min, true, false, Some, None, Option}
use Rattle.model.specs.declared.types.Fault.{Fault}
use Rattle.model.specs.declared.types.Span.{Span}
use Rattle.tables.specs.declared.room.Row.{Row}
use Rattle.looks.specs.declared.seen.NodeSeen.{NodeSeen}
use Rattle.section.specs.declared.access.Figures.{Figures}
use Rattle.sheet_c.specs.declared.shapes.SheetFault.{SheetFault}
use Rattle.sheet_c.specs.declared.shapes.SheetFigures.{SheetFigures}
use Rattle.sheet_c.specs.declared.shapes.SheetList.{SheetList}
use Rattle.sheet_c.specs.declared.shapes.SheetNode.{SheetNode}

abbrev pub fault_as : Fault → SheetFault
fault_as f = record { number = f.number; layer = f.layer; list = f.list; place = f.place }

-- nothing was refused
abbrev pub no_fault : SheetFault
no_fault = record { number = 0; layer = 0; list = 0; place = 0 }

-- 101 memory: no rule of the format
abbrev pub no_memory : SheetFault
no_memory = record { number = 101; layer = 0; list = 0; place = 0 }

abbrev pub figures_as : Figures → SheetFigures
figures_as f = record { count = f.count; end = f.end; lists = f.lists; fragments = f.fragments; percent = f.percent }

abbrev pub list_as : Row → SheetList
list_as r = record { id = r.id; nodes = r.nodes; fragments = r.fragments }

abbrev pub node_with : ℕ → ℕ → ℕ → Option Span → SheetNode
node_with id base payload None = record { id = id; base = base; refers = false; start = 0; size = 0; payload = payload }
node_with id base payload (Some s) = record { id = id; base = base; refers = true; start = s.start; size = s.size; payload = payload }

-- with a payload that is no longer than the buffer that it stands in
abbrev pub node_as : NodeSeen → ℕ → SheetNode
node_as n room = node_with n.id n.base (min n.payload room) n.reference
