-- The data references of a fragment's nodes.
use Rattle.std.specs.Prelude.{◌≡◌, ℕ, ◌+◌, ◌-◌, cond, ◌&&◌, List, [], ◌∷◌, length, Some, None, Ok, Err, Result, ◌==◌, nat_lt}
use Rattle.model.specs.declared.types.Span.{Span}
use Rattle.model.specs.Faults.{fault, Check, Outcome}
use Rattle.model.specs.References.{present}
use Rattle.model.specs.Nodes.{Node, referring}
use Rattle.model.specs.OpenedLog.{overlaps}
use Rattle.model.specs.OpenedLists.{NodePart, counted, uncounted, nodes_at}
use Rattle.model.specs.Opened.{data_checks}
use Rattle.refusals.specs.declared.faults.InList.{InList}
use Rattle.refusals.specs.Refusals.{list_told}
use Rattle.refusals.specs.Checked.{told_by}

-- the checks of one reference to data, whose field is given
abbrev pub reference_checks : ℕ → List Span → ℕ → ℕ → Span → List Check
reference_checks end fs id field s = (nat_lt end (s.start + s.size), fault 5 3 field id) ∷ (overlaps s fs, fault 11 3 field id) ∷ []

-- those of a node at a place, by its BaseType and its reference
abbrev pub node_checks : ℕ → List Span → ℕ → ℕ → ℕ → Span → List Check
node_checks end fs id place base r = cond (base == 1 && present r) (reference_checks end fs id (place + 4) r) []

abbrev pub part_nodes : NodePart → List Node
part_nodes (counted ns q) = ns
part_nodes (uncounted ns) = ns

-- k nodes were read again, up to a place, and the data of none is wrong; the whole walk goes on there
pub record Scanned (b : List ℕ) (end : ℕ) (fs : List Span) (left list : ℕ) (whole : Outcome NodePart) (stop k place : ℕ) : Type 0 where
  pub nodes : List Node
  pub number : k ≡ length nodes
  pub none : told_by (data_checks end fs list (referring 1 nodes)) ≡ None
  pub goes : whole ≡ nodes_at (left - k) b list stop place nodes

-- the answer to checking the data of the nodes ms, of which `left` may come
abbrev pub Scans : ℕ → List Span → ℕ → ℕ → List Node → Result ℕ InList → Type 0
Scans end fs id left ms (Ok n) = (told_by (data_checks end fs id (referring 1 ms)) ≡ None) × (n ≡ left - length ms)
Scans end fs id left ms (Err e) = told_by (data_checks end fs id (referring 1 ms)) ≡ Some (list_told e)
