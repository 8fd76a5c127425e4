use Rattle.std.proofs.Common.{ap, ◌∙◌, ap₂, add-zero, arith}
use Rattle.model.specs.Bytes.{le}
use Rattle.model.specs.References.{span}
use Rattle.format.proofs.Fetched.{le_part}
use Rattle.format.proofs.references.span_at.Goals as goal

pub returns : goal.returns
returns g c =
    let row = g.S.Store.bytes c.args.store.now in
    let p = c.args.place in
    let (both, front, back) = c.split_at.ensures.by_index in
    let h = c.split_at.ensures in
    ap₂ span
    (c.number.ensures.value ∙ le_part row _ _ p 0 8 c.bytes_at-bytes.ensures (omega arith) h.front_len (λ i l. grind (arith, front i 0)) ∙ ap (le 8 row) (add-zero p))
    (c.number-2.ensures.value ∙ le_part row _ _ p 8 4 c.bytes_at-bytes.ensures (omega arith) (omega arith) (λ i l. back i 0))
