-- A node that is to be written, in the model's words.
use Rattle.std.specs.Prelude.{ℕ, ◌+◌, List, ◌++◌, length, Option, None, Some}
use Rattle.model.specs.declared.types.Span.{Span}
use Rattle.model.specs.References.{span_bytes}
use Rattle.model.specs.Nodes.{node_head, plain_node, referring_node}
use Rattle.encoding.specs.declared.parts.NewNode.{NewNode}

-- the bytes of a node
abbrev pub written_node : ℕ → Option (ℕ × Span) → List ℕ → List ℕ
written_node id None payload = plain_node id payload
written_node id (Some (b, r)) payload = referring_node id b r payload

abbrev pub node_bytes : NewNode → List ℕ
node_bytes n = written_node n.id n.refers n.payload.now

-- the bytes before its payload of n bytes
abbrev pub written_head : ℕ → Option (ℕ × Span) → ℕ → List ℕ
written_head id None n = node_head id (4 + n) 0
written_head id (Some (b, r)) n = node_head id (16 + n) b ++ span_bytes r

abbrev pub head_bytes : NewNode → List ℕ
head_bytes n = written_head n.id n.refers (length n.payload.now)
