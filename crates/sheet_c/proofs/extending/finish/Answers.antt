use Rattle.adding.specs.Adds.{add_of}
use Rattle.model.specs.Calls.{add, after}
use Rattle.section.specs.SavingAnswers.{as_draft}
use Rattle.sheet_c.proofs.Ending.{add_refused, commit_refused, both_done}
use Rattle.sheet_c.proofs.extending.finish.Goals as goal

pub returns-in-Err : goal.returns-in-Err
returns-in-Err g c = λ st h.
    add_refused g.S.Store.bytes g.S.SavingStore.wrote _ _ _ _ st c.args.draft (add_of c.args.new.now) c.args.version.now c.args.file.now.store c.add-done.new.self.store c.abandon.new.self.store c.add-done.result.done c.in-Err.fault c.into.result
    (c.add-done.ensures.answer st h) (c.add-done.ensures.after st h) (c.add-done.ensures.writes st h) c.in-Err.is c.into.ensures c.abandon.ensures.store

pub returns-in-Ok-commit : goal.returns-in-Ok-commit
returns-in-Ok-commit g c = λ st h.
    let k = c.add-done.ensures.after st h in
    let next = after st (add (as_draft c.args.draft) (add_of c.args.new.now)) in
    both_done g.S.Store.bytes g.S.SavingStore.wrote g.met.S.SavingStore.more _ _ _ _ st c.args.draft c.add-done.result.draft (add_of c.args.new.now) c.args.version.now c.args.file.now.store c.add-done.new.self.store c.commit.new.self.store
    c.add-done.result.done c.in-Ok.made c.commit.result _ c.id_or_0.result
    c.add-done.ensures.draft (c.add-done.ensures.answer st h) (c.add-done.ensures.writes st h) c.in-Ok.is (c.commit.ensures.answer next k) (c.commit.ensures.after next k) (c.commit.ensures.writes next k) c.in-Ok-commit.is c.id_or_0.ensures

pub returns-in-Err-commit : goal.returns-in-Err-commit
returns-in-Err-commit g c = λ st h.
    let k = c.add-done.ensures.after st h in
    let next = after st (add (as_draft c.args.draft) (add_of c.args.new.now)) in
    commit_refused g.S.Store.bytes g.S.SavingStore.wrote g.met.S.SavingStore.more _ _ _ _ st c.args.draft c.add-done.result.draft (add_of c.args.new.now) c.args.version.now c.args.file.now.store c.add-done.new.self.store c.commit.new.self.store c.abandon-in-Err-commit.new.self.store
    c.add-done.result.done c.in-Ok.made c.commit.result c.in-Err-commit.field-0 c.into-in-Err-commit.result
    c.add-done.ensures.draft (c.add-done.ensures.answer st h) (c.add-done.ensures.writes st h) c.in-Ok.is (c.commit.ensures.answer next k) (c.commit.ensures.after next k) (c.commit.ensures.writes next k) c.in-Err-commit.is c.into-in-Err-commit.ensures c.abandon-in-Err-commit.ensures.store
