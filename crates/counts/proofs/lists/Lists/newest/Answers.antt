use Rattle.counts.proofs.Listed.{not_listed}
use Rattle.counts.proofs.lists.Lists.newest.Goals as goal

pub returns-in-Err : goal.returns-in-Err
returns-in-Err c = not_listed _ c.args.self.now.rises c.args.list _ c.in-Err.ensures.1
