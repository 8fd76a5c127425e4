-- Saving: which writes an add makes, and the layout then.
use Rattle.std.specs.Prelude.{ℕ, ◌+◌, ◌-◌, ◌%◌, cond, List, [], ◌∷◌, ◌++◌, length, replicate, nat_le}
use Rattle.model.specs.Bytes.{Write, put, behind}
use Rattle.model.specs.References.{span, span_bytes}
use Rattle.model.specs.Nodes.{plain_node, referring_node, terminator}
use Rattle.model.specs.ListFragments.{nodes_from, nodes_to, new_fragment}
use Rattle.model.specs.Section.{Section}
use Rattle.model.specs.Layouts.{Add, plain, with_data, branch, Tail, tail, Layout, blank, find_tail, ending_at, more_fragments, touching, more_lists}

-- a new piece goes to the draft's end; zeros behind it, to the next place divisible by 8, go in the same write
abbrev pub at_end : Layout → List ℕ → Write
at_end y new = put y.end (new ++ replicate ((8 - (y.end + length new) % 8) % 8) 0)

-- the draft then, and the writes in order
pub record Plan : Type 0 where
  pub layout : Layout
  pub writes : List Write

abbrev pub plan : Layout → List Write → Plan
plan y ws = record { layout = y; writes = ws }

-- with a write made before the others
abbrev pub after_write : Write → Plan → Plan
after_write w p = plan p.layout (w ∷ p.writes)

-- a node behind the last of the list id, whose tail is t
abbrev pub fitting : Layout → ℕ → List ℕ → Tail → Plan
fitting y id new t = plan (touching (tail id t.fragment t.number (t.free + length new) (t.count + 1)) y) (put t.free new ∷ [])

-- a new fragment with the node, the terminator if 4 bytes are free behind the list's last node, and then the old fragment's next reference
abbrev pub spilling : Layout → ℕ → List ℕ → Tail → Plan
spilling y id new t =
    let fresh = span y.end 1024 in
    let piece = at_end y (new_fragment id (t.number + 1) new) in
    let stop = nodes_to t.fragment in
    let ended = cond (nat_le (t.free + 4) stop) (put t.free terminator ∷ []) [] in
    plan
    (touching (tail id fresh (t.number + 1) (nodes_from fresh + length new) (t.count + 1)) (more_fragments (ending_at (behind piece) y)))
    (piece ∷ (ended ++ (put stop (span_bytes fresh) ∷ [])))

-- a node goes to a list's end: behind its last if it fits before the next reference, otherwise into a new fragment
abbrev pub with_node : Layout → ℕ → List ℕ → Plan
with_node y id new =
    let t = find_tail y.tails id in
    cond (nat_le (t.free + length new) (nodes_to t.fragment)) (fitting y id new t) (spilling y id new t)

-- one add: data, or the branch's fragment, comes first, then the node that refers to it
-- a branch makes a list, one above the highest ID known
unfoldable pub planned : Layout → Add → Plan
planned y (plain list id payload) = with_node y list (plain_node id payload)
planned y (with_data list id payload content) =
    let piece = at_end y content in
    after_write piece (with_node (ending_at (behind piece) y) list (referring_node id 1 (span y.end (length content)) payload))
planned y (branch list id payload first_id first_payload) =
    let made = y.highest + 1 in
    let first = plain_node first_id first_payload in
    let fresh = span y.end 1024 in
    let piece = at_end y (new_fragment made 0 first) in
    let with_list = more_lists list (tail made fresh 0 (nodes_from fresh + length first) 1) (more_fragments (ending_at (behind piece) y)) in
    after_write piece (with_node with_list list (referring_node id 2 fresh payload))

-- a file with the adds of a draft in it
unfoldable pub laid : Layout → List Add → Layout
laid y [] = y
laid y (a ∷ as') = laid (planned y a).layout as'

abbrev pub layout : Section → List Add → Layout
layout s adds = laid (blank s) adds
