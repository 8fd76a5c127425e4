use Rattle.journals.proofs.Journals.{runs_begin}
use Rattle.journals.proofs.laws.an_accepted_opening_begins_a_journal.Goals as goal

pub returns : goal.returns
returns c = runs_begin
