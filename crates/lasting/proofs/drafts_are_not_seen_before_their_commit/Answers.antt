use Rattle.lasting.proofs.Sounds.{drafts_unseen}
use Rattle.lasting.proofs.drafts_are_not_seen_before_their_commit.Goals as goal

pub returns : goal.returns
returns c = drafts_unseen
