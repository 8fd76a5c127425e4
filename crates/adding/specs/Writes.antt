-- The writes of an add, from the draft's end, the list's end, and the ID of the list that a branch makes.
use Rattle.std.specs.Prelude.{◌≡◌, ℕ, ◌+◌, true, cond, List, [], ◌∷◌, ◌++◌, map, length, nat_le}
use Rattle.model.specs.Bytes.{Write, put, behind}
use Rattle.model.specs.References.{span, span_bytes}
use Rattle.model.specs.Nodes.{plain_node, referring_node, terminator}
use Rattle.model.specs.ListFragments.{nodes_to, new_fragment}
use Rattle.model.specs.Layouts.{Add, plain, with_data, branch, Tail, Layout, member, find_tail}
use Rattle.model.specs.Saving.{planned}
use Rattle.model.specs.Calls.{list_of}
use Rattle.writing.specs.Padded.{padded}

-- a node behind the last of a list with the tail t; or, where it does not fit, a new fragment with it at the draft's end,
-- the terminator if 4 bytes are free, and then the old fragment's next reference
unfoldable pub node_writes : ℕ → Tail → List ℕ → List Write
node_writes end t new =
    let stop = nodes_to t.fragment in
    let ended = cond (nat_le (t.free + 4) stop) (put t.free terminator ∷ []) [] in
    cond (nat_le (t.free + length new) stop)
    (put t.free new ∷ [])
    (padded end (new_fragment t.id (t.number + 1) new) ∷ (ended ++ (put stop (span_bytes (span end 1024)) ∷ [])))

-- data, or the branch's fragment, comes first, then the node that refers to it
unfoldable pub add_writes : ℕ → Tail → ℕ → Add → List Write
add_writes end t made (plain list id payload) = node_writes end t (plain_node id payload)
add_writes end t made (with_data list id payload content) =
    let piece = padded end content in
    piece ∷ node_writes (behind piece) t (referring_node id 1 (span end (length content)) payload)
add_writes end t made (branch list id payload first_id first_payload) =
    let piece = padded end (new_fragment made 0 (plain_node first_id first_payload)) in
    piece ∷ node_writes (behind piece) t (referring_node id 2 (span end 1024) payload)

-- these are the writes that the rules plan for the add
abbrev pub WritesPlanned : Type 0
WritesPlanned = (y : Layout) (a : Add) → member (list_of a) (map (λ t. t.id) y.tails) ≡ true
    → (planned y a).writes ≡ add_writes y.end (find_tail y.tails (list_of a)) (y.highest + 1) a
