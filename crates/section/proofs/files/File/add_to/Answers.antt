use Rattle.std.proofs.Common.{refl}
use Rattle.adding.specs.Adds.{add_of}
use Rattle.section.specs.SavingAnswers.{add_answer}
use Rattle.section.proofs.Calls.{refused_told, refused_stands, refused_wrote}
use Rattle.section.proofs.Adds.{foreign_add, checked_add, wrote_add, answer_add, next_stands}
use Rattle.section.proofs.files.File.add_to.Goals as goal

pub returns-in_err-in_draft-clause-writes : goal.returns-in_err-in_draft-clause-writes
returns-in_err-in_draft-clause-writes g c = λ st k.
    refused_wrote _ _ _ _ _ st k _ _ (foreign_add _ _ _ _ _ c.args.draft.now _ c.in_err-in_draft.ensures (add_of c.args.new.now) st k) (λ ws. g.S.SavingStore.wrote c.args.self.now.store ws c.args.self.now.store) (g.met.S.SavingStore.none c.args.self.now.store)

-- the add is refused by its checks
pub returns-in_err-step-clause-answer : goal.returns-in_err-step-clause-answer
returns-in_err-step-clause-answer g c = λ st k.
    refused_told _ _ _ _ _ st k _ _ (checked_add _ _ _ _ _ c.args.draft.now _ c.in_ok-in_draft.ensures _ c.ceiling.ensures _ c.adds_bytes.ensures st k _ c.in_err-step.ensures.tells) add_answer (λ x. refl) _ c.from_residual-in_err-step.ensures.1

pub returns-in_err-step-clause-after : goal.returns-in_err-step-clause-after
returns-in_err-step-clause-after g c = λ st k. refused_stands _ _ _ _ _ st k _ _ (checked_add _ _ _ _ _ c.args.draft.now _ c.in_ok-in_draft.ensures _ c.ceiling.ensures _ c.adds_bytes.ensures st k _ c.in_err-step.ensures.tells)

pub returns-in_err-step-clause-writes : goal.returns-in_err-step-clause-writes
returns-in_err-step-clause-writes g c = λ st k.
    refused_wrote _ _ _ _ _ st k _ _ (checked_add _ _ _ _ _ c.args.draft.now _ c.in_ok-in_draft.ensures _ c.ceiling.ensures _ c.adds_bytes.ensures st k _ c.in_err-step.ensures.tells) (λ ws. g.S.SavingStore.wrote c.args.self.now.store ws c.args.self.now.store)
    (g.met.S.SavingStore.none c.args.self.now.store)

-- the add is done
pub returns-clause-answer : goal.returns-clause-answer
returns-clause-answer g c = λ st k.
    answer_add _ _ _ _ _ c.args.draft.now _ c.in_ok-in_draft.ensures _ c.ceiling.ensures _ c.adds_bytes.ensures st k _ c.in_ok-step.ensures.tells _ c.made_list.ensures

pub returns-clause-after : goal.returns-clause-after
returns-clause-after g c = λ st k.
    let wrote = wrote_add _ _ _ _ _ c.args.draft.now _ c.in_ok-in_draft.ensures _ c.ceiling.ensures _ c.adds_bytes.ensures st k _ c.in_ok-step.ensures.tells (λ ws. g.S.SavingStore.wrote c.args.self.now.store ws c.make.new.store) c.make.ensures.writes in
    next_stands _ _ _ _ _ c.args.draft.now _ c.in_ok-in_draft.ensures _ c.ceiling.ensures _ c.adds_bytes.ensures st k _ c.in_ok-step.ensures.tells _ _ c.make.new.draft
    (g.met.S.SavingStore.stands _ _ _ wrote) (g.met.S.SavingStore.lasts _ _ _ wrote) c.in_ok-step.ensures.row c.make.ensures.lays c.make.ensures.rowed

pub returns-clause-writes : goal.returns-clause-writes
returns-clause-writes g c = λ st k.
    wrote_add _ _ _ _ _ c.args.draft.now _ c.in_ok-in_draft.ensures _ c.ceiling.ensures _ c.adds_bytes.ensures st k _ c.in_ok-step.ensures.tells (λ ws. g.S.SavingStore.wrote c.args.self.now.store ws c.make.new.store) c.make.ensures.writes
