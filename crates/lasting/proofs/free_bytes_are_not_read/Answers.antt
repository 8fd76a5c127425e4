use Rattle.lasting.proofs.FreeApart.{free_apart}
use Rattle.lasting.proofs.free_bytes_are_not_read.Goals as goal

pub returns : goal.returns
returns c = free_apart
