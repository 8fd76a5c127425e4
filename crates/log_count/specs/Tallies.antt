-- A list's count as entries of the log are met, until so many transactions have ended.
use Rattle.std.specs.Prelude.{◌-◌, cond, List, [], ◌∷◌, ◌==◌}
use Rattle.model.specs.declared.types.Entry.{Entry}
use Rattle.log_count.specs.declared.Tally.{Tally}

-- an entry is met: a sentinel ends a transaction, and the list's own entry sets its count
abbrev pub met : Tally → Entry → Tally
met t e = cond (e.source == 1)
    (record { list = t.list; left = t.left - 1; count = t.count })
    (record { list = t.list; left = t.left; count = cond (e.source == t.list) e.number t.count })

-- entries are met one after the other; once all transactions have ended, the count stays
unfoldable pub met_all : Tally → List Entry → Tally
met_all t [] = t
met_all t (e ∷ es) = let rest = met_all (met t e) es in cond (t.left == 0) t rest
