use Rattle.std.proofs.Common.{slice_set, ap, ◌∙◌, arith}
use Rattle.sheet_c.proofs.Putting.{put_one}
use Rattle.sheet_c.proofs.looking.put_lists.Goals as goal

pub loop-i-preserved : goal.loop-i-preserved
loop-i-preserved c =
    let few = c.min-n.ensures in
    let here = c.loop-i-test.true in (
      omega arith,
      ap (λ t. slice_set t c.loop-i.i c.list_as.result) c.loop-i.invariant.1
          ∙ put_one c.args.rows.now c.args.out.now c.loop-i.i c.list_as.result _ (omega arith) (omega arith) c.list_as.ensures,
    )
