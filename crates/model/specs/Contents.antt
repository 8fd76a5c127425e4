-- What a list holds, and what a draft has saved for it.
use Rattle.std.specs.Prelude.{ℕ, ◌+◌, cond, List, [], ◌∷◌, ◌++◌, map, length, Some, None, Option, ◌==◌}
use Rattle.model.specs.declared.types.Span.{Span}
use Rattle.model.specs.Bytes.{piece}
use Rattle.model.specs.Faults.{Outcome, done, refused}
use Rattle.model.specs.References.{span}
use Rattle.model.specs.Nodes.{Node}
use Rattle.model.specs.Section.{Section}
use Rattle.model.specs.Opened.{opened}
use Rattle.model.specs.Looks.{nodes_of, reference_of, data_of}
use Rattle.model.specs.Layouts.{Add, plain, with_data, branch, Layout, blank}
use Rattle.model.specs.Saving.{planned}
use Rattle.model.specs.Calls.{Access, State}

-- a node as a reader sees it, with its reference unless it is absent, and its data
pub record Content : Type 0 where
  pub id : ℕ
  pub base : ℕ
  pub reference : Option Span
  pub payload : List ℕ
  pub content : List ℕ

abbrev pub content_of : ℕ → ℕ → Option Span → List ℕ → List ℕ → Content
content_of id base reference payload content = record { id = id; base = base; reference = reference; payload = payload; content = content }

abbrev pub holds : List ℕ → Node → Content
holds b n = content_of n.id n.base (reference_of n) n.payload (piece b (data_of n).start (data_of n).size)

-- what the list with this ID holds; nothing if it is not reached
abbrev pub held_in : List ℕ → Outcome Section → ℕ → List Content
held_in b (done s) id = map (holds b) (nodes_of s.lists id)
held_in b (refused f) id = []

unfoldable pub held : List ℕ → ℕ → List Content
held b id = held_in b (opened b) id

-- the nodes of one add for a list: its own, and for a branch the first node of the list made.
-- What it refers to was put at the draft's end.
abbrev pub saved_by : Layout → Add → ℕ → List Content
saved_by y (plain list id payload) whose = cond (list == whose) (content_of id 0 None payload [] ∷ []) []
saved_by y (with_data list id payload content) whose = cond (list == whose) (content_of id 1 (Some (span y.end (length content))) payload content ∷ []) []
saved_by y (branch list id payload first_id first_payload) whose =
    cond (list == whose) (content_of id 2 (Some (span y.end 1024)) payload [] ∷ [])
    (cond (y.highest + 1 == whose) (content_of first_id 0 None first_payload [] ∷ []) [])

unfoldable pub saved : Layout → List Add → ℕ → List Content
saved y [] whose = []
saved y (a ∷ as') whose = saved_by y a whose ++ saved (planned y a).layout as' whose

-- the open draft's nodes for a list, in the order of the adds
abbrev pub saved_in : Outcome Section → Option Access → ℕ → List Content
saved_in (refused f) d whose = []
saved_in (done s) None whose = []
saved_in (done s) (Some d) whose = elim d.draft [ None ↦ [] | Some adds ↦ saved (blank s) adds whose ]

unfoldable pub drafted : State → ℕ → List Content
drafted s whose = saved_in (opened s.bytes) s.access whose
