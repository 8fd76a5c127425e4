-- The writes of an add, in the parts in which the code makes them.
use Rattle.std.specs.Prelude.{ℕ, ◌+◌, cond, List, [], ◌∷◌, ◌++◌, nat_le}
use Rattle.model.specs.Bytes.{Write, put, behind}
use Rattle.model.specs.References.{span, span_bytes}
use Rattle.model.specs.Nodes.{terminator}
use Rattle.model.specs.ListFragments.{nodes_to, new_fragment}
use Rattle.model.specs.Layouts.{Tail}
use Rattle.writing.specs.Padded.{padded}
use Rattle.adding.specs.Writes.{node_writes}

-- one write alone; shut, so that rows of writes stay joined as the code makes them
unfoldable pub alone : Write → List Write
alone w = w ∷ []

-- a list's new fragment with a node
unfoldable pub fragment_at : ℕ → ℕ → ℕ → List ℕ → Write
fragment_at end list number node = padded end (new_fragment list number node)

-- the terminator, if 4 bytes are free
unfoldable pub ended : Tail → List Write
ended t = cond (nat_le (t.free + 4) (nodes_to t.fragment)) (put t.free terminator ∷ []) []

-- the next reference of a list's last fragment, to a new one at `end`
unfoldable pub named : ℕ → Tail → List Write
named end t = put (nodes_to t.fragment) (span_bytes (span end 1024)) ∷ []

-- a node in a new fragment with this number, and the end of the one before it
abbrev pub spilled : ℕ → Tail → ℕ → List ℕ → List Write
spilled end t number node = alone (fragment_at end t.id number node) ++ (ended t ++ named end t)

-- a piece, and then the node that refers to it
abbrev pub then_node : Write → Tail → List ℕ → List Write
then_node piece t node = alone piece ++ node_writes (behind piece) t node
