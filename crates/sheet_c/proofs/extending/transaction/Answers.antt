use Rattle.adding.specs.Adds.{add_of}
use Rattle.model.specs.Calls.{open_file, after}
use Rattle.model.specs.Journal.{shut}
use Rattle.sheet_c.proofs.Ending.{stands_shut, not_refused, extends}
use Rattle.sheet_c.proofs.extending.transaction.Goals as goal

pub returns-in_err-draft : goal.returns-in_err-draft
returns-in_err-draft g c = λ h.
    let f = c.args.file.now in
    let b = g.S.Store.bytes f.store in
    let most = g.S.Store.most f.store in
    let open' = c.in_ok-open.ensures.stands (shut b most) (stands_shut b most f.room f.draft f.access h) in
    absurd (not_refused f.access f.room.counts.room b most c.in_ok-open.field-0 h c.in_ok-open.ensures.answer _ (c.in_err-draft.ensures.answer (after (shut b most) (open_file 1)) open'))

pub returns : goal.returns
returns g c = λ h.
    let f = c.args.file.now in
    let b = g.S.Store.bytes f.store in
    let most = g.S.Store.most f.store in
    let first = after (shut b most) (open_file 1) in
    let open' = c.in_ok-open.ensures.stands (shut b most) (stands_shut b most f.room f.draft f.access h) in
    extends f.access f.room.counts.room b most c.in_ok-open.field-0 h c.in_ok-open.ensures.answer g.S.Store.bytes g.S.SavingStore.wrote f.store c.open.new.self.store c.begin.new.self.store c.finish.new.file.store c.in_ok-draft.draft (add_of c.args.new.now) c.args.version.now c.finish.result
    (c.in_ok-draft.ensures.answer first open') c.open.ensures.store c.begin.ensures.store (c.finish.ensures _ (c.in_ok-draft.ensures.after first open'))
