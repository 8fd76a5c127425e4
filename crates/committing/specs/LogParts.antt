-- The two parts of a commit's writes to the log: entries in a new fragment, and entries that still fit the last.
use Rattle.std.specs.Prelude.{ℕ, ◌^◌, ◌≤◌, List, [], ◌∷◌, length}
use Rattle.model.specs.declared.types.Entry.{Entry}
use Rattle.model.specs.Bytes.{Write, put, behind}
use Rattle.model.specs.References.{span, span_bytes}
use Rattle.model.specs.LogFragments.{entry_bytes, entries_in, entry_place, log_next, new_log_fragment}
use Rattle.model.specs.Means.{Inside}
use Rattle.model.specs.Committing.{if_any}
use Rattle.writing.specs.Padded.{padded}
use Rattle.committing.specs.declared.log_end.LogEnd.{LogEnd}

-- the log and the draft end by 2^40, and the entries are those of 16 lists and the sentinel at most
pub record LogSizes (l : LogEnd) (end : ℕ) (es : List Entry) : Type 0 where
  pub fragment : Inside 12 (2 ^ 40) l.fragment
  pub used : l.used ≤ entries_in l.fragment.size
  pub end' : end ≤ 2 ^ 40
  pub few : length es ≤ 17

-- the entries that do not fit the last fragment: a new one, and the last's next reference
abbrev pub rest_writes : LogEnd → ℕ → List Entry → List Write
rest_writes l end rest = if_any rest (padded end (new_log_fragment rest) ∷ put (log_next l.fragment) (span_bytes (span end 1024)) ∷ [])

-- the file's end then
abbrev pub end_behind : ℕ → List Entry → ℕ
end_behind end [] = end
end_behind end (e ∷ es) = behind (padded end (new_log_fragment (e ∷ es)))

-- those that fit
abbrev pub fit_writes : LogEnd → List Entry → List Write
fit_writes l fit = if_any fit (put (entry_place l.fragment l.used) (entry_bytes fit) ∷ [])
