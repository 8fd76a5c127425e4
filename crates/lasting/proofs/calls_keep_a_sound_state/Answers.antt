use Rattle.commits.proofs.CommitReads.{commit_reads}
use Rattle.commits.proofs.LooksGrow.{looks_grow}
use Rattle.lasting.proofs.Sounds.{steps_sound}
use Rattle.lasting.proofs.calls_keep_a_sound_state.Goals as goal

pub returns : goal.returns
returns c = steps_sound commit_reads looks_grow
