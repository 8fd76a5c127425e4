-- Looks: what the nodes of a file held at an earlier count. Each is a function of the file's bytes alone.
use Rattle.std.specs.Prelude.{ℕ, ◌+◌, Bool, cond, not, ◌&&◌, ◌||◌, List, [], ◌∷◌, ◌++◌, length, drop, Some, None, Option, ◌==◌, nat_le, nat_lt, slice_index_or}
use Rattle.model.specs.declared.types.Span.{Span}
use Rattle.model.specs.Bytes.{piece, same_row}
use Rattle.model.specs.Faults.{fault, Outcome, done, refused, unless, then}
use Rattle.model.specs.References.{span, absent, present}
use Rattle.model.specs.Nodes.{Node}
use Rattle.model.specs.Section.{NodeList, Section, count_at}
use Rattle.model.specs.OpenedLists.{taken}
use Rattle.model.specs.Opened.{opened}

-- each look names its count k, a list and an index (`alike` two of them), and brings a buffer where it has bytes to give
pub data Look : Type 0 where
  node_look : (k list index : ℕ) (buffer : List ℕ) → Look
  data_look : (k list index place size : ℕ) (buffer : List ℕ) → Look
  alike : (k list index other_list other_index : ℕ) → Look

-- the count that a look looks back to
abbrev pub looks_to : Look → ℕ
looks_to (node_look k list index buffer) = k
looks_to (data_look k list index place size buffer) = k
looks_to (alike k list index other_list other_index) = k

pub data Seen : Type 0 where
  -- ID, BaseType, the reference unless it is absent, the payload
  node : (id base : ℕ) (reference : Option Span) (payload : List ℕ) → Seen
  bytes : List ℕ → Seen
  equal : Bool → Seen

-- what a look answers, and what its buffer then holds
pub record Looked : Type 0 where
  pub answer : Outcome Seen
  pub buffer : List ℕ

abbrev pub no_node : Node
no_node = record { place = 0; id = 0; size = 0; base = 0; reference = span 0 0; payload = [] }

-- the counted nodes of the list with this ID; none if no such list is reached
unfoldable pub nodes_of : List NodeList → ℕ → List Node
nodes_of [] id = []
nodes_of (l ∷ ls) id = cond (l.id == id) l.nodes (nodes_of ls id)

-- the node of a list at an index, as counted at k
-- 25 future: k is 0 or over the count; 26 no node: the list is not reached, or the index is not below its count at k
abbrev pub node_of : Section → ℕ → ℕ → ℕ → Outcome Node
node_of s k list index =
    unless (
    (k == 0 || nat_lt s.header.count k, fault 25 5 0 0)
    ∷ (not (taken list s.lists) || nat_le (count_at s.log k list) index, fault 26 5 0 0)
    ∷ [])
    (done (slice_index_or (nodes_of s.lists list) index no_node))

-- the reference unless it is absent
abbrev pub reference_of : Node → Option Span
reference_of n = cond (absent n.reference) None (Some n.reference)

-- where a node's data stands; it has size 0 if BaseType is not 1 or the reference is absent
abbrev pub data_of : Node → Span
data_of n = cond (n.base == 1 && present n.reference) n.reference (span 0 0)

-- what a look answers over an opened file
-- 27 range: the payload or the piece passes the buffer, or the piece passes the data
abbrev pub seen_in : List ℕ → Section → Look → Outcome Seen
seen_in b s (node_look k list index buffer) =
    then (node_of s k list index) (λ n.
    unless ((nat_lt (length buffer) (length n.payload), fault 27 5 0 0) ∷ [])
    (done (node n.id n.base (reference_of n) n.payload)))
seen_in b s (data_look k list index place size buffer) =
    then (node_of s k list index) (λ n.
    unless ((nat_lt (data_of n).size (place + size) || nat_lt (length buffer) size, fault 27 5 0 0) ∷ [])
    (done (bytes (piece b ((data_of n).start + place) size))))
seen_in b s (alike k list index other_list other_index) =
    then (node_of s k list index) (λ n.
    then (node_of s k other_list other_index) (λ m.
    done (equal (n.id == m.id && same_row n.payload m.payload))))

-- the bytes fill the buffer's front, no more; a refusal leaves it as it is
abbrev pub front : List ℕ → List ℕ → List ℕ
front new buffer = new ++ drop (length new) buffer

abbrev pub filled : Outcome Seen → List ℕ → List ℕ
filled (done (node id base reference payload)) buffer = front payload buffer
filled (done (bytes new)) buffer = front new buffer
filled (done (equal yes?)) buffer = buffer
filled (refused f) buffer = buffer

-- the buffer that a look brings
abbrev pub buffer_of : Look → List ℕ
buffer_of (node_look k list index buffer) = buffer
buffer_of (data_look k list index place size buffer) = buffer
buffer_of (alike k list index other_list other_index) = []

abbrev pub answered : Look → Outcome Seen → Looked
answered l a = record { answer = a; buffer = filled a (buffer_of l) }

-- a look, over the bytes of a file
unfoldable pub look : List ℕ → Look → Looked
look b l = answered l (then (opened b) (λ s. seen_in b s l))
