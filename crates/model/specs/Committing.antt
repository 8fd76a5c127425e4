-- Committing: the log entries of a draft, and the writes that end it.
use Rattle.std.specs.Prelude.{ℕ, ◌+◌, ◌-◌, cond, List, [], ◌∷◌, ◌++◌, map, length, take, drop, nat_lt}
use Rattle.model.specs.declared.types.Entry.{Entry}
use Rattle.model.specs.declared.types.Header.{Header}
use Rattle.model.specs.Bytes.{digits, Write, put, applied, behind}
use Rattle.model.specs.References.{span, span_bytes}
use Rattle.model.specs.LogFragments.{entry, entry_bytes, sentinel, entries_in, entry_place, log_next, new_log_fragment}
use Rattle.model.specs.Section.{Section, last_of}
use Rattle.model.specs.Layouts.{Add, Layout, find_tail}
use Rattle.model.specs.Saving.{at_end, layout}

-- one entry for each list touched, with its new count, and the sentinel
abbrev pub count_entries : Layout → List Entry
count_entries y = map (λ id. entry id (find_tail y.tails id).count) y.touched

abbrev pub new_entries : Layout → List Entry
new_entries y = count_entries y ++ (sentinel (count_entries y) ∷ [])

-- writes that are made only for entries that there are
abbrev pub if_any : List Entry → List Write → List Write
if_any [] ws = []
if_any (e ∷ es) ws = ws

-- the log's writes: its end and fragments then, and the writes before the header's
pub record Logged : Type 0 where
  pub end : ℕ
  pub fragments : ℕ
  pub writes : List Write

-- if places run out, a new log fragment with the rest comes first, then the old next reference; then the entries that fit, in one write
abbrev pub logged : Section → Layout → Logged
logged s y =
    let last = last_of (span 0 0) s.log.fragments in
    let places = entries_in last.size - s.log.used in
    let fit = take places (new_entries y) in
    let rest = drop places (new_entries y) in
    let piece = at_end y (new_log_fragment rest) in
    let more = nat_lt places (length (new_entries y)) in
    record {
      end = cond more (behind piece) y.end;
      fragments = cond more (y.fragments + 1) y.fragments;
      writes = if_any rest (piece ∷ put (log_next last) (span_bytes (span y.end 1024)) ∷ [])
          ++ if_any fit (put (entry_place last s.log.used) (entry_bytes fit) ∷ []);
    }

-- the write of the first 512 bytes: the count and nFileVersionGeneration one higher, the new guidFileVersion, and the new end
abbrev pub header_write : List ℕ → Header → ℕ → List ℕ → Write
header_write b h end guid = put 0 (applied (take 512 b) (
    put 0x60 (digits 4 (h.count + 1))
    ∷ put 0xC4 (digits 8 end)
    ∷ put 0xD4 guid
    ∷ put 0xE4 (digits 8 (h.generation + 1))
    ∷ []))

-- commit's writes, the header's last
unfoldable pub committing : List ℕ → Section → List Add → List ℕ → List Write
committing b s adds guid =
    let l = logged s (layout s adds) in
    l.writes ++ (header_write b s.header l.end guid ∷ [])
