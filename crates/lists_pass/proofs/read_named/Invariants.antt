use Rattle.std.proofs.Common.{◌≡◌, vec_items}
use Rattle.model.specs.Section.{Log}
use Rattle.model.specs.OpenedLists.{named_first}
use Rattle.tables.specs.Queues.{Held}
use Rattle.lists_pass.specs.Opening.{Holds, Opening}
use Rattle.lists_pass.proofs.read_named.Given as goal

-- the lists so far were read, whatever log the room held
abbrev pub invariant-loop-next : goal.invariant-loop-next
invariant-loop-next g l =
    (l.room.counts ≡ l.initial.room.counts)
    × ((log : Log) → Holds log (vec_items l.initial.room.counts.changes) l.initial.room.fragments l.initial.room.lists
    → Held l.initial.room.queue (named_first l.checked.header)
    → Opening (g.S.Store.bytes l.store) l.checked.header log l.next l.room.lists l.room.pieces.rows l.room.fragments l.room.queue)
