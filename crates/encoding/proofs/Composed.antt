-- Nodes and entries, as they are put together.
use Rattle.std.proofs.Common.{◌≡◌, ℕ, ◌+◌, ◌≤◌, ◌<◌, List, [], ◌++◌, Option, None, Some, length, get_or, drop, refl, sym, ap, append_assoc}
use Rattle.std.proofs.lemmas.List.{drop_more, drop_all}
use Rattle.model.specs.declared.types.Span.{Span}
use Rattle.model.specs.declared.types.Entry.{Entry}
use Rattle.model.specs.Bytes.{digits}
use Rattle.model.specs.LogFragments.{entry_bytes}
use Rattle.commits.proofs.Sizes.{length_plain, length_referring}
use Rattle.encoding.specs.declared.parts.NewNode.{NewNode}
use Rattle.encoding.specs.NewNodes.{written_node, node_bytes, written_head, head_bytes}

-- a node is its head and its payload
parts : (id : ℕ) (refers : Option (ℕ × Span)) (payload : List ℕ) → written_head id refers (length payload) ++ payload ≡ written_node id refers payload
parts id None payload = refl
parts id (Some (b, r)) payload = simp append_assoc

pub node_parts : (n : NewNode) → node_bytes n ≡ head_bytes n ++ n.payload.now
node_parts n = sym (parts n.id n.refers n.payload.now)

-- how many bytes it takes
pub plain_length : (n : NewNode) → n.refers ≡ None → length (node_bytes n) ≡ 4 + length n.payload.now
plain_length n e = rw e (length_plain n.id n.payload.now)

pub referring_length : (n : NewNode) (x : ℕ × Span) → n.refers ≡ Some x → length (node_bytes n) ≡ 16 + length n.payload.now
referring_length n (b, r) e = rw e (length_referring n.id b r n.payload.now)

-- the entries from the i-th on: the i-th and those behind it
pub entries_from : (es : List Entry) (i : ℕ) (d : Entry) → i < length es
    → entry_bytes (drop i es) ≡ digits 4 (get_or es i d).source ++ (digits 4 (get_or es i d).number ++ entry_bytes (drop (i + 1) es))
unfolding entry_bytes
entries_from es i d l = ap entry_bytes (drop_more es i d l)

pub entries_none : (es : List Entry) (i : ℕ) → length es ≤ i → entry_bytes (drop i es) ≡ []
unfolding entry_bytes
entries_none es i l = ap entry_bytes (drop_all i es l)
