use Rattle.std.proofs.Common.{arith}
use Rattle.format.proofs.Fetched.{window_fill}
use Rattle.format.proofs.fetching.fetch.Goals as goal

pub returns : goal.returns
returns g c = window_fill _ _ c.min-there.result c.args.buffer.now _ _ c.read.result (omega arith) (c.fill.ensures.after (λ y e. e)) c.read.ensures
