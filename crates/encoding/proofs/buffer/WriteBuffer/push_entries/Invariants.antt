-- what is left to push gives the whole
use Rattle.std.proofs.Common.{◌≡◌, drop, vec_items}
use Rattle.model.specs.LogFragments.{entry_bytes}
use Rattle.encoding.specs.Buffers.{pushed}
use Rattle.encoding.proofs.buffer.WriteBuffer.push_entries.Given as goal

abbrev pub invariant-loop-entry : goal.invariant-loop-entry
invariant-loop-entry l =
    pushed (vec_items l.self.bytes) (entry_bytes (drop l.entry-index l.entries))
    ≡ pushed (vec_items l.initial.self.bytes) (entry_bytes l.entries)
