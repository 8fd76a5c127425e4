-- As it is stated.
use Rattle.commits.proofs.CommitLeaves.{commit_leaves}
use Rattle.commits.proofs.commit_leaves_lists_with_their_tails.Goals as goal

pub returns : goal.returns
returns c = commit_leaves
