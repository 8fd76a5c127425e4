-- The eight bytes are a window into the store, and each is a byte.
use Rattle.std.proofs.Common.{arith}
use Rattle.model.specs.Bytes.{le}
use Rattle.log_pass.proofs.OneEntry.{bytes_window}
use Rattle.log_pass.proofs.LogEntry.at.Goals as goal

pub invariant_of-result : goal.invariant_of-result
unfolding le
invariant_of-result g c = record {
  same =
      bytes_window _ c.bytes_at-bytes.result _ c.bytes_at-bytes.ensures (omega arith) _ _ (omega (arith, c.from_le_bytes-source.ensures)) (omega (arith, c.from_le_bytes-number.ensures))
      (λ i. g.met.S.Store.byte c.args.store.now i);
}
