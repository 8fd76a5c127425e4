use Rattle.std.proofs.Common.{◌≡◌, ◌∙◌, ap, arith}
use Rattle.std.proofs.lemmas.Slice.{between_to_end}
use Rattle.model.specs.Bytes.{le}
use Rattle.format.specs.Heads.{head_of}
use Rattle.format.proofs.Referred.{head_window, node_window}
use Rattle.format.proofs.nodes.node_at.Goals as goal

pub returns : goal.returns
unfolding le
returns g c =
    let row = g.S.Store.bytes c.args.store.now in
    let p = c.args.place in
    let bytes = c.bytes_at-bytes.result in
    let v : c.from_le_bytes.result ≡ le 4 bytes 0 = c.from_le_bytes.ensures ∙ omega arith in
    let e : c.from-head.result ≡ head_of (le 4 row p) = c.from-head.ensures ∙ ap head_of v ∙ head_window row bytes p c.bytes_at-bytes.ensures (omega arith) in
    record {
      head = e;
      reference = c.referred.ensures ∙ node_window row bytes _ p c.from-head.result c.bytes_at-bytes.ensures (omega arith) e (between_to_end bytes 4 20 (omega arith));
    }
