-- There is room for all that the step touches and makes, so the draft is the one after it.
use Rattle.std.proofs.Common.{[], ◌∷◌, ◌++◌}
use Rattle.model.specs.Layouts.{blank}
use Rattle.model.specs.Saving.{layout}
use Rattle.commits.specs.Parts.{parts}
use Rattle.drafts.specs.Lays.{Lays}
use Rattle.drafts.specs.Rowed.{Rowed}
use Rattle.drafts.proofs.Rows.{rowed_after}
use Rattle.drafts.proofs.Taken.{made_after, taken, few_after}
use Rattle.drafts.proofs.layout.DraftLayout.take.Goals as goal

pub returns-clause-lays : goal.returns-clause-lays
returns-clause-lays c = λ s adds a h w.
    let few = few_after s (layout s adds) (parts (blank s) adds) c.args.self.now a c.args.step.now h w in
    made_after (λ d. Lays s (adds ++ (a ∷ [])) d) c.args.self.now c.args.step.now few _ c.touch.ensures _ c.touch_made.ensures _ c.push_piece.ensures _ c.push_piece-2.ensures
    (taken s adds a c.args.self.now c.args.step.now h w)

pub returns-clause-rowed : goal.returns-clause-rowed
returns-clause-rowed c = λ s adds a rows h w r f.
    let few = few_after s (layout s adds) (parts (blank s) adds) c.args.self.now a c.args.step.now h w in
    made_after (λ d. Rowed rows d) c.args.self.now c.args.step.now few _ c.touch.ensures _ c.touch_made.ensures _ c.push_piece.ensures _ c.push_piece-2.ensures
    (rowed_after rows s (layout s adds) (parts (blank s) adds) c.args.self.now a c.args.step.now h w r f)
