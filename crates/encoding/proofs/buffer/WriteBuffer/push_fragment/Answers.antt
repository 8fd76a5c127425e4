use Rattle.std.proofs.Common.{append_assoc}
use Rattle.encoding.proofs.Pushes.{pushed_both}
use Rattle.encoding.proofs.buffer.WriteBuffer.push_fragment.Goals as goal

-- a row of seven, which the check's own search does not reach the end of
pub returns : goal.returns
returns c =
    simp (
      c.push_number-4.ensures,
      c.push_span.ensures,
      c.push_zeros.ensures,
      c.push_node.ensures,
      c.push_number-3.ensures,
      c.push_number-2.ensures,
      c.push_number.ensures,
      c.from.ensures,
      c.from-2.ensures,
      c.left.ensures,
      pushed_both,
      append_assoc,
    )
