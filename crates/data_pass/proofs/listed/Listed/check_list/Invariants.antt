use Rattle.model.specs.Section.{NodeList}
use Rattle.data_pass.specs.ListWalks.{Lies, Passing}
use Rattle.data_pass.proofs.listed.Listed.check_list.Given as goal

-- the data of the fragments so far is right
abbrev pub invariant-loop-span : goal.invariant-loop-span
invariant-loop-span g l = (m : NodeList)
    → Lies (g.S.Store.bytes l.self.store.now) l.self.end l.row l.self.fragments.now m
    → Passing (g.S.Store.bytes l.self.store.now) l.self.end l.self.fragments.now l.row m l.spans l.span-index l.left
