-- What was written is read back: numbers once over the width, references, nodes.
use Rattle.std.specs.Prelude.{◌≡◌, ℕ, ◌+◌, ◌^◌, ◌<◌, ◌≤◌, List, [], ◌∷◌, ◌++◌, length}
use Rattle.model.specs.declared.types.Span.{Span}
use Rattle.model.specs.declared.types.Entry.{Entry}
use Rattle.model.specs.Bytes.{le, digits, Bytes}
use Rattle.model.specs.References.{span, span_at, span_bytes}
use Rattle.model.specs.Nodes.{Node, node_at, plain_node, referring_node}
use Rattle.model.specs.LogFragments.{entry_at, entry_bytes}

abbrev pub NumbersRead : Type 0
NumbersRead = (n v : ℕ) (rest : List ℕ) → v < 256 ^ n → le n (digits n v ++ rest) 0 ≡ v

abbrev pub NumbersWritten : Type 0
NumbersWritten = (n : ℕ) (b : List ℕ) → Bytes b → length b ≡ n → digits n (le n b 0) ≡ b

abbrev pub ReferencesRead : Type 0
ReferencesRead = (r : Span) (rest : List ℕ) → r.start < 2 ^ 64 → r.size < 2 ^ 32 → span_at (span_bytes r ++ rest) 0 ≡ r

-- a node of at most 988 bytes, with its place, its size and what it was written with
abbrev pub node_as : ℕ → ℕ → ℕ → Span → List ℕ → Node
node_as id size base r payload = record { place = 0; id = id; size = size; base = base; reference = r; payload = payload }

abbrev pub PlainNodesRead : Type 0
PlainNodesRead = (id : ℕ) (payload rest : List ℕ) → id < 1024 → 4 + length payload ≤ 988
    → node_at (plain_node id payload ++ rest) 0 ≡ node_as id (4 + length payload) 0 (span 0 0) payload

abbrev pub ReferringNodesRead : Type 0
ReferringNodesRead = (id base : ℕ) (r : Span) (payload rest : List ℕ) → id < 1024 → 1 ≤ base → base ≤ 2 → r.start < 2 ^ 64 → r.size < 2 ^ 32
    → 16 + length payload ≤ 988 → node_at (referring_node id base r payload ++ rest) 0 ≡ node_as id (16 + length payload) base r payload

abbrev pub EntriesRead : Type 0
EntriesRead = (e : Entry) (rest : List ℕ) → e.source < 2 ^ 32 → e.number < 2 ^ 32 → entry_at (entry_bytes (e ∷ []) ++ rest) 0 ≡ e
