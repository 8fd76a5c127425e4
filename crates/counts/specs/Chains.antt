-- How a table finds the changes of a list: its newest one by the lists in order, and from each change the one before it.
use Rattle.std.specs.Prelude.{ℕ, zero, suc, cond, List, [], ◌∷◌, Option, Some, None, ◌==◌, slice_index_or}
use Rattle.counts.specs.declared.changes.Change.{Change}
use Rattle.counts.specs.declared.changes.Counted.{Counted}
use Rattle.counts.specs.Noted.{change}

abbrev pub no_change : Change
no_change = change 0 0 0

-- the list of the i-th change
abbrev pub list_at : List Change → ℕ → ℕ
list_at cs i = (slice_index_or cs i no_change).list

-- the index of a list's last change among the first n
unfoldable pub newest_in : ℕ → List Change → ℕ → Option ℕ
newest_in id cs zero = None
newest_in id cs (suc n) = cond (list_at cs n == id) (Some n) (newest_in id cs n)

-- the change that the lists hold for one of them
unfoldable pub listed : ℕ → List Counted → Option ℕ
listed id [] = None
listed id (x ∷ xs) = cond (x.list == id) (Some x.newest) (listed id xs)

-- the index beside the i-th change: that of its list's change before it, and i where it is the list's first
abbrev pub link_of : ℕ → Option ℕ → ℕ
link_of i None = i
link_of i (Some j) = j
