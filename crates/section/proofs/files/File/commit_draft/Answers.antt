use Rattle.std.proofs.Common.{refl}
use Rattle.section.specs.Commits.{commit_done}
use Rattle.section.proofs.Calls.{refused_told, refused_stands, refused_wrote}
use Rattle.section.proofs.Finishes.{array_bytes, foreign_commit, failed_commit, done_commit, wrote_commit, stands_then}
use Rattle.section.proofs.files.File.commit_draft.Goals as goal

pub returns-in_err-access-clause-answer : goal.returns-in_err-access-clause-answer
returns-in_err-access-clause-answer g c = λ st k.
    refused_told _ _ _ _ _ st k _ _ (foreign_commit _ _ _ _ _ c.args.draft.now c.args.guid.now _ c.in_err-access.ensures st k) commit_done (λ x. refl) _ c.from_residual.ensures.1

pub returns-in_err-access-clause-after : goal.returns-in_err-access-clause-after
returns-in_err-access-clause-after g c = λ st k.
    refused_stands _ _ _ _ _ st k _ _ (foreign_commit _ _ _ _ _ c.args.draft.now c.args.guid.now _ c.in_err-access.ensures st k)

pub returns-in_err-access-clause-writes : goal.returns-in_err-access-clause-writes
returns-in_err-access-clause-writes g c = λ st k.
    refused_wrote _ _ _ _ _ st k _ _ (foreign_commit _ _ _ _ _ c.args.draft.now c.args.guid.now _ c.in_err-access.ensures st k)
    (λ ws. g.S.SavingStore.wrote c.args.self.now.store ws c.args.self.now.store) (g.met.S.SavingStore.none c.args.self.now.store)

pub returns-in_err-after-clause-answer : goal.returns-in_err-after-clause-answer
returns-in_err-after-clause-answer g c = λ st k.
    refused_told _ _ _ _ _ st k _ _ (failed_commit _ _ _ _ _ c.args.draft.now c.args.guid.now _ c.in_ok-access.ensures st k _ c.in_err-after.ensures.says) commit_done (λ x. refl) _ c.from_residual-in_err-after.ensures.1

pub returns-in_err-after-clause-after : goal.returns-in_err-after-clause-after
returns-in_err-after-clause-after g c = λ st k.
    refused_stands _ _ _ _ _ st k _ _ (failed_commit _ _ _ _ _ c.args.draft.now c.args.guid.now _ c.in_ok-access.ensures st k _ c.in_err-after.ensures.says)

pub returns-in_err-after-clause-writes : goal.returns-in_err-after-clause-writes
returns-in_err-after-clause-writes g c = λ st k.
    refused_wrote _ _ _ _ _ st k _ _ (failed_commit _ _ _ _ _ c.args.draft.now c.args.guid.now _ c.in_ok-access.ensures st k _ c.in_err-after.ensures.says)
    (λ ws. g.S.SavingStore.wrote c.args.self.now.store ws c.args.self.now.store) (g.met.S.SavingStore.none c.args.self.now.store)

pub returns-clause-answer : goal.returns-clause-answer
returns-clause-answer g c = λ st k. done_commit _ _ _ _ _ c.args.draft.now c.args.guid.now _ c.in_ok-access.ensures st k c.in_ok-after.ensures.says

pub returns-clause-writes : goal.returns-clause-writes
returns-clause-writes g c = λ st k.
    wrote_commit _ _ _ _ _ c.args.draft.now c.args.guid.now _ c.in_ok-access.ensures st k c.in_ok-after.ensures.says (array_bytes c.args.guid.now c.fits-guid) c.told-guid
    (λ ws. g.S.SavingStore.wrote c.args.self.now.store ws c.finish.new.self.store) c.finish.ensures.wrote

pub returns-clause-after : goal.returns-clause-after
returns-clause-after g c = λ st k.
    let guid_bytes = array_bytes c.args.guid.now c.fits-guid in
    let wrote = wrote_commit _ _ _ _ _ c.args.draft.now c.args.guid.now _ c.in_ok-access.ensures st k c.in_ok-after.ensures.says guid_bytes c.told-guid
    (λ ws. g.S.SavingStore.wrote c.args.self.now.store ws c.finish.new.self.store) c.finish.ensures.wrote in
    stands_then _ _ _ _ _ c.args.draft.now c.args.guid.now _ c.in_ok-access.ensures st k c.in_ok-after.ensures.says guid_bytes c.told-guid
    _ (g.met.S.SavingStore.stands _ _ _ wrote) _ (g.met.S.SavingStore.lasts _ _ _ wrote) _ _ _ c.in_ok-after.ensures.known c.finish.ensures.kept
