use Rattle.lasting.proofs.SameLooks.{local}
use Rattle.lasting.proofs.same_footprint_same_file.Goals as goal

pub returns : goal.returns
returns c = local
