use Rattle.journals.proofs.Journals.{journal_of}
use Rattle.journals.proofs.laws.calls_make_a_journal.Goals as goal

pub returns : goal.returns
returns c = journal_of
