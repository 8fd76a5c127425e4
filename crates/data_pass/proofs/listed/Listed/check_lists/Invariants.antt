use Rattle.std.proofs.Common.{◌≡◌, List, []}
use Rattle.model.specs.declared.types.Header.{Header}
use Rattle.model.specs.Section.{Log, NodeList}
use Rattle.model.specs.Breaks.{Walked}
use Rattle.data_pass.specs.Files.{Filed}
use Rattle.data_pass.specs.ListWalks.{Seen}
use Rattle.data_pass.proofs.listed.Listed.check_lists.Given as goal

-- the data of the lists so far is right
abbrev pub invariant-loop-row : goal.invariant-loop-row
invariant-loop-row g l = (h : Header) (log : Log) (ls : List NodeList) → h.end ≡ l.self.end → Walked (g.S.Store.bytes l.self.store.now) h log ls []
    → Filed log ls l.rows l.self.fragments.now
    → Seen l.self.end l.self.fragments.now ls l.row-index
