-- What changes in the order of the log say: the counts of lists, after all transactions or after some.
use Rattle.std.specs.Prelude.{ℕ, ◌+◌, List, [], ◌∷◌, ◌++◌, map, filter, nat_le}
use Rattle.model.specs.declared.types.Entry.{Entry}
use Rattle.model.specs.LogFragments.{entry}
use Rattle.model.specs.Section.{latest}
use Rattle.model.specs.Layouts.{greatest}
use Rattle.counts.specs.declared.changes.Change.{Change}

-- transaction t gives a list a count
abbrev pub change : ℕ → ℕ → ℕ → Change
change t id n = record { transaction = t; list = id; count = n }

-- changes as entries of the log
abbrev pub entry_of : Change → Entry
entry_of c = entry c.list c.count

abbrev pub entries : List Change → List Entry
entries cs = map entry_of cs

-- those whose transaction is at most k
abbrev pub entries_upto : ℕ → List Change → List Entry
entries_upto k cs = entries (filter (λ c. nat_le c.transaction k) cs)

-- a list's count after all changes, and after k transactions
abbrev pub noted : List Change → ℕ → ℕ
noted cs id = latest id 0 (entries cs)

abbrev pub noted_at : List Change → ℕ → ℕ → ℕ
noted_at cs k id = latest id 0 (entries_upto k cs)

-- the highest ID of a list that was given a count
abbrev pub noted_most : List Change → ℕ
noted_most cs = greatest (map (λ e. e.source) (entries cs))

-- the entries of a transaction as changes, and those of transactions one after the other, numbered from t on
abbrev pub changes_of : ℕ → List Entry → List Change
changes_of t es = map (λ e. change t e.source e.number) es

unfoldable pub numbered : ℕ → List (List Entry) → List Change
numbered t [] = []
numbered t (es ∷ ts) = changes_of t es ++ numbered (t + 1) ts
