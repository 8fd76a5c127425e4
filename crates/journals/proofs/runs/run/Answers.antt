use Rattle.std.proofs.Common.{◌≡◌, [], ◌∷◌, List, length, refl, sym, ap, subst, ◌∙◌, arith}
use Rattle.std.specs.List.{AllByRecursion}
use Rattle.journals.specs.Telling.{NeedsNoDraft}
use Rattle.journals.proofs.Steps.{going_on, going_last}
use Rattle.journals.proofs.runs.run.Goals as goal

nothing_left : {X : Type 0} (l : List X) → length l ≡ 0 → l ≡ []
nothing_left [] h = refl
nothing_left (x ∷ xs) h = absurd (omega arith)

pub loop-call-preserved : goal.loop-call-preserved
loop-call-preserved g c =
    let at = c.loop-call in
    let steps = c.in-Some.ensures.steps.0 in
    let fewer = ap length steps in
    let was = at.invariant.3 in
    let each = at.invariant.4 in
    let len = c.push_reserved.ensures.len in
    let cap = c.push_reserved.ensures.capacity in (
      tt,
      tt,
      going_on g.S.Store.bytes g.S.Store.most g.S.SavingStore.wrote c.args.file.now c.args.hand c.args.calls.items c.args.lines.now.items g.met.S.SavingStore.more at.file c.make-hand.new.file _ _ at.held _ _ _ _ _ at.invariant.2 steps c.make-hand.ensures.makes c.push_reserved.ensures.items,
      omega arith,
      omega arith,
      λ all. let (quiet, kept) = at.invariant.5 all in let here = subst (AllByRecursion NeedsNoDraft) steps quiet in (here.1, c.make-hand.ensures.hand here.0 ∙ kept),
    )

pub returns-clause-runs : goal.returns-clause-runs
returns-clause-runs g c =
    let at = c.loop-call in
    let none = c.in-None.ensures.steps.0 in
    going_last g.S.Store.bytes g.S.Store.most g.S.SavingStore.wrote c.args.file.now c.args.hand c.args.calls.items c.args.lines.now.items at.file _ at.held _ at.invariant.2 (nothing_left _ (sym at.call-iterator.rest.ok.0 ∙ none))
