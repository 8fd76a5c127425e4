use Rattle.keeping.proofs.Kept.{kept}
use Rattle.keeping.proofs.keep_committed.Goals as goal

pub returns-clause-kept : goal.returns-clause-kept
returns-clause-kept c = λ b c' s adds t.
    kept b c' s adds t c.args.room.now c.args.draft.now c.args.count _ _ _ _ _ c.as_slice-touched.ensures.values c.as_slice.ensures.values c.keep_rows.ensures c.keep_pieces.ensures c.keep_counts.ensures.changes c.keep_counts.ensures.finished
