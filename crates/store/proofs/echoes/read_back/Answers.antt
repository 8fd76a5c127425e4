use Rattle.store.specs.RowsLemmas.{read_back}
use Rattle.store.proofs.echoes.read_back.Goals as goal

pub returns : goal.returns
returns g c = read_back c.requires.stands.0 c.args.place c.args.new.now _ c.args.buffer.now c.read.new.buffer c.read.result c.requires.stands.1 c.requires.room c.requires.stands.2 c.read.ensures
