use Rattle.commits.proofs.CommitReads.{commit_reads}
use Rattle.commits.proofs.LooksGrow.{looks_grow}
use Rattle.lasting.proofs.Lasting.{finished_states_last}
use Rattle.lasting.proofs.finished_states_last.Goals as goal

pub returns : goal.returns
returns c = finished_states_last commit_reads looks_grow
