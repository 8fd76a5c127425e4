use Rattle.std.proofs.Common.{◌∙◌, sym}
use Rattle.section.proofs.Opens.{answer_read}
use Rattle.section.proofs.States.{open_stands}
use Rattle.section.proofs.files.File.open.Goals as goal

pub returns-clause-answer : goal.returns-clause-answer
returns-clause-answer g c =
    answer_read _ _ _ c.read_file.new.room c.in_ok-access.access c.in_ok-access.ensures.file c.args.self.now.access _ (sym c.is_some.ensures ∙ c.if-is_some.false) c.figures_by.ensures

pub returns-clause-stands : goal.returns-clause-stands
returns-clause-stands g c =
    open_stands _ _ _ _ _ _ _ _ _ (sym c.is_some.ensures ∙ c.if-is_some.false) (g.met.S.Store.byte c.args.self.now.store) (g.met.S.Store.within c.args.self.now.store) c.in_ok-access.ensures.file
