use Rattle.std.proofs.Common.{◌≡◌, ◌∙◌, length, take, ap, arith}
use Rattle.adding.specs.Adds.{add_of}
use Rattle.lent_store.specs.declared.lent_mut.LentMut.{LentMut}
use Rattle.sheet_c.proofs.Ending.{lent_runs}
use Rattle.sheet_c.proofs.extending.extended.Goals as goal

pub returns-clause-extends : goal.returns-clause-extends
returns-clause-extends c =
    let row = λ (s : LentMut). take s.len s.buffer.now in
    let lent = c.up_to-store.ensures in
    let size : c.up_to-store.result.len ≡ c.args.len = omega (arith, lent.len, c.requires) in
    let same = c.new-file.ensures.store in
    lent_runs row _ c.new-file.result.store c.transaction.new.file.store c.transaction.result c.args.room _ (length c.args.buffer.now) _ (take c.args.len c.args.buffer.now) _ _ (add_of c.args.new.now) c.args.version.now
    (ap (λ r. r.counts.room) c.new-file.ensures.room ∙ c.in-Ok.ensures)
    (ap row same ∙ ap (λ n. take n c.up_to-store.result.buffer.now) size ∙ ap (λ b. take c.args.len b) lent.bytes)
    (ap (λ (s : LentMut). length s.buffer.now) same ∙ ap length lent.bytes)
    (ap row c.into_parts-store.ensures.store)
    (c.transaction.ensures c.new-file.ensures.shut)
