use Rattle.std.proofs.Common.{◌∙◌, ap}
use Rattle.lent_store.specs.declared.lent.Lent.{Lent}
use Rattle.sheet_c.proofs.Seeing.{holds}
use Rattle.sheet_c.proofs.looking.open.Goals as goal

pub returns-in-Ok-open : goal.returns-in-Ok-open
returns-in-Ok-open c =
    let row = λ (s : Lent). s.bytes.now in
    holds c.new-file.result.access c.open.new.self.access c.args.room _ c.args.bytes.now _ c.open.new.self.store.bytes.now c.new-file.result.room c.open.new.self.room 1 c.in-Ok-open.figures
    c.new-file.ensures.shut (ap (λ r. r.counts.room) c.new-file.ensures.room ∙ c.in-Ok.ensures) (ap row c.new-file.ensures.store ∙ c.new-2.ensures) (ap row c.open.ensures.store)
    c.in-Ok-open.ensures.answer c.in-Ok-open.ensures.marks c.in-Ok-open.ensures.lists c.in-Ok-open.ensures.sound c.new-file.ensures.sound
