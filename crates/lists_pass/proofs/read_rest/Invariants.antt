use Rattle.std.proofs.Common.{◌≡◌, ◌<◌, ◌≤◌, length, take}
use Rattle.lists_pass.specs.Listings.{Listing}
use Rattle.lists_pass.proofs.read_rest.Given as goal

-- the list was read up to the fragment, which has passed, and has no piece yet
abbrev pub invariant-loop-sequence : goal.invariant-loop-sequence
invariant-loop-sequence g l =
    (l.nodes ≤ l.begun.count)
    × (length l.room.fragments ≤ 2048)
    × (l.room.counts ≡ l.initial.room.counts)
    × (l.room.lists ≡ l.initial.room.lists)
    × (length l.initial.room.pieces.rows < length l.initial.room.fragments
    → Listing (g.S.Store.bytes l.store) l.checked.header.end (take l.begun.first l.initial.room.fragments) l.begun (length l.initial.room.lists) l.fragment.span l.sequence l.nodes
    l.initial.room.pieces.rows l.room.pieces.rows l.room.fragments l.initial.room.queue l.room.queue)
