-- The writes of a commit, from the log's end, the draft's end, and the counts of the lists that it touched.
use Rattle.std.specs.Prelude.{◌≡◌, ℕ, ◌+◌, ◌-◌, ◌^◌, ◌<◌, ◌≤◌, Bool, cond, List, [], ◌∷◌, ◌++◌, map, length, take, drop, nat_lt}
use Rattle.model.specs.declared.types.Entry.{Entry}
use Rattle.model.specs.declared.types.Span.{Span}
use Rattle.model.specs.declared.types.Header.{Header}
use Rattle.model.specs.Bytes.{Write, put, behind}
use Rattle.model.specs.References.{span, span_bytes}
use Rattle.model.specs.LogFragments.{entry, entry_bytes, sentinel, entries_in, entry_place, log_next, new_log_fragment}
use Rattle.model.specs.Means.{Inside}
use Rattle.model.specs.Section.{Section, last_of}
use Rattle.model.specs.Layouts.{Add}
use Rattle.model.specs.Saving.{layout}
use Rattle.model.specs.Committing.{new_entries, if_any, header_write, committing, logged}
use Rattle.writing.specs.declared.tails.Tail.{Tail}
use Rattle.writing.specs.Padded.{padded}
use Rattle.committing.specs.declared.log_end.LogEnd.{LogEnd}

-- the counts of the lists touched, in the order of first touch, and the sentinel
abbrev pub counts_of : List Tail → List Entry
counts_of ts = map (λ t. entry t.list t.count) ts

abbrev pub entries_for : List Tail → List Entry
entries_for ts = counts_of ts ++ (sentinel (counts_of ts) ∷ [])

-- how many entries still fit the log's last fragment, and whether n of them do not
abbrev pub places : LogEnd → ℕ
places l = entries_in l.fragment.size - l.used

abbrev pub runs_out : LogEnd → ℕ → Bool
runs_out l n = nat_lt (places l) n

-- where the log ends, once n entries are written over a file that ends at `end`
abbrev pub log_end : Span → ℕ → LogEnd
log_end fragment used = record { fragment = fragment; used = used }

abbrev pub log_then : LogEnd → ℕ → ℕ → LogEnd
log_then l end n = cond (runs_out l n) (log_end (span end 1024) (n - places l)) (log_end l.fragment (l.used + n))

-- if places run out, a new fragment with the rest comes first, then the old next reference; then the entries that fit, in one write
unfoldable pub log_writes : LogEnd → ℕ → List Entry → List Write
log_writes l end es =
    let fit = take (places l) es in
    let rest = drop (places l) es in
    if_any rest (padded end (new_log_fragment rest) ∷ put (log_next l.fragment) (span_bytes (span end 1024)) ∷ [])
    ++ if_any fit (put (entry_place l.fragment l.used) (entry_bytes fit) ∷ [])

-- the file's end then
unfoldable pub end_then : LogEnd → ℕ → List Entry → ℕ
end_then l end es = cond (runs_out l (length es)) (behind (padded end (new_log_fragment (drop (places l) es)))) end

-- and last the header's
unfoldable pub commit_writes : List ℕ → Header → LogEnd → ℕ → List Entry → List ℕ → List Write
commit_writes b h l end es guid = log_writes l end es ++ (header_write b h (end_then l end es) guid ∷ [])

-- the log of a section ends here
pub record EndsLog (s : Section) (l : LogEnd) : Type 0 where
  pub fragment : l.fragment ≡ last_of (span 0 0) s.log.fragments
  pub used : l.used ≡ s.log.used

-- these are the writes, and this is the end, that the rules plan for the commit
abbrev pub WritesCommitted : Type 0
WritesCommitted = (b : List ℕ) (s : Section) (adds : List Add) (guid : List ℕ) (l : LogEnd) → EndsLog s l
    → (committing b s adds guid ≡ commit_writes b s.header l (layout s adds).end (new_entries (layout s adds)) guid)
    × ((logged s (layout s adds)).end ≡ end_then l (layout s adds).end (new_entries (layout s adds)))

-- the numbers of a commit that passed its checks
pub record Sizes (b : List ℕ) (h : Header) (l : LogEnd) (end : ℕ) (touched : List Tail) (guid : List ℕ) : Type 0 where
  pub header : 1024 ≤ length b
  pub count : h.count + 1 < 2 ^ 32
  pub generation : h.generation + 1 < 2 ^ 64
  pub fragment : Inside 12 (2 ^ 40) l.fragment
  pub used : l.used ≤ entries_in l.fragment.size
  pub end' : end ≤ 2 ^ 40
  pub few : length touched ≤ 16
  pub version : length guid ≡ 16
