-- The list stands there already, or is put at its place, where there is room.
use Rattle.std.proofs.Common.{ap, ◌∙◌, refl, arith}
use Rattle.std.proofs.lemmas.Bool.{cond-true}
use Rattle.counts.specs.Chains.{listed}
use Rattle.counts.proofs.Listed.{is_listed, set_listed, listed_inserted, not_listed, rise_more}
use Rattle.counts.proofs.lists.Lists.set_newest.Goals as goal

pub invariant_of-self-in-Err : goal.invariant_of-self-in-Err
invariant_of-self-in-Err c =
    let d = c.args.self.now in
    let w = c.insert.ensures in
    let more = rise_more _ d.rises c.args.list _ c.in-Err.ensures.1 (record { list = c.args.list; newest = c.args.newest }) refl (omega (arith, c.in-Err.ensures.0)) in
    record { rises = rw (w.items ∙ cond-true _ _ _ (w.succeeds c.requires)) more }

pub returns-in-Ok-clause-before : goal.returns-in-Ok-clause-before
returns-in-Ok-clause-before c =
    let d = c.args.self.now in
    rw c.replace.ensures.value (is_listed _ d.rises c.args.list _ d.rows.ok.0 _ c.in-Ok.ensures _ c.index_mut.ensures.value)

pub returns-in-Ok-clause-holds : goal.returns-in-Ok-clause-holds
returns-in-Ok-clause-holds c =
    let d = c.args.self.now in
    rw c.replace.ensures.after (set_listed _ d.rises c.args.list _ d.rows.ok.0 _ c.in-Ok.ensures _ c.index_mut.ensures.value c.args.newest)

pub returns-in-Err-clause-before : goal.returns-in-Err-clause-before
returns-in-Err-clause-before c = not_listed _ c.args.self.now.rises c.args.list _ c.in-Err.ensures.1

pub returns-in-Err-clause-holds : goal.returns-in-Err-clause-holds
returns-in-Err-clause-holds c = λ id.
    let w = c.insert.ensures in
    ap (listed id) (w.items ∙ cond-true _ _ _ (w.succeeds c.requires))
    ∙ listed_inserted id _ _ (record { list = c.args.list; newest = c.args.newest }) c.in-Err.ensures.1.0 (omega (arith, c.in-Err.ensures.0))
