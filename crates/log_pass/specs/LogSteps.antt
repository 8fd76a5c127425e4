-- Steps of reading the log: what the code holds of it, and what one entry, the entries of a fragment and a fragment do to that.
-- The counts and the sum are `old` and `was` before a step, and `new` and `is` after it.
use Rattle.std.specs.Prelude.{◌≡◌, ℕ, suc, ◌+◌, ◌-◌, ◌<◌, Bool, true, false, List, [], ◌∷◌, ◌++◌, length, Some, None, Ok, Err, vec_items, vec_len, Option, Result}
use Rattle.model.specs.declared.types.Span.{Span}
use Rattle.model.specs.declared.types.Entry.{Entry}
use Rattle.model.specs.declared.types.Header.{Header}
use Rattle.model.specs.Crc.{run, crc_32}
use Rattle.model.specs.Faults.{Outcome, done, refused}
use Rattle.model.specs.References.{span_at}
use Rattle.model.specs.LogFragments.{entry_bytes, entries_in, log_next}
use Rattle.model.specs.OpenedLog.{Reading, reading, finished, unfinished, log_entries, log_from}
use Rattle.counts.specs.declared.table.Counts.{Counts}
use Rattle.counts.specs.Noted.{numbered}
use Rattle.crc.specs.declared.Crc.{Crc}
use Rattle.refusals.specs.declared.faults.LogFault.{LogFault}
use Rattle.log_pass.specs.Logs.{Met, wrong, ends, goes, met, counts_in, counts_met, Refuses}

-- a log as far as it was read is held: by the changes so far, how many transactions are finished (fewer than in all), and the sum's register
pub record Holds (count : ℕ) (t : Counts) (c : Crc) (k : Reading) : Type 0 where
  pub noted : vec_items t.changes ≡ numbered 1 (k.transactions ++ (k.pending ∷ []))
  pub ended : t.finished ≡ length k.transactions
  pub under : length k.transactions < count
  pub summed : c.register ≡ run crc_32 crc_32.first (entry_bytes k.pending)

-- an entry by itself: the rule that it breaks, and the places of the counts that are met at it
abbrev pub alone : Met → Outcome Reading
alone (wrong x) = refused x
alone (ends ts) = done (reading ts [])
alone (goes ps k) = done k

abbrev pub places_at : Met → List ℕ
places_at (wrong x) = []
places_at (ends ts) = []
places_at (goes ps k) = ps

-- one entry is taken, which says whether it finishes the log; it is refused for a rule, or since there is no room for one count more
abbrev pub Takes : Met → ℕ → Counts → Counts → Crc → Result Bool LogFault → Type 0
Takes m count old new is (Ok true) =
    (ts : List (List Entry)) × (m ≡ ends ts) × (vec_items new.changes ≡ numbered 1 ts) × (new.finished ≡ length ts) × (vec_len new.changes ≡ vec_len old.changes)
Takes m count old new is (Ok false) =
    (k : Reading) × (ps : List ℕ) × (m ≡ goes ps k) × Holds count new is k × (vec_len new.changes ≡ vec_len old.changes + length ps)
Takes m count old new is (Err x) = Refuses (alone m) (places_at m) (old.room - vec_len old.changes) x

-- the entries of a fragment are read
abbrev pub EntriesRead : List ℕ → ℕ → Span → Reading → Counts → Counts → Crc → Result (Option ℕ) LogFault → Type 0
EntriesRead b count f k old new is (Ok (Some used)) =
    (ts : List (List Entry)) × (log_entries (entries_in f.size) b count f 0 k ≡ done (finished ts used)) × (vec_items new.changes ≡ numbered 1 ts) × (new.finished ≡ length ts)
    × (vec_len new.changes ≡ vec_len old.changes + length (counts_in (entries_in f.size) b count f 0 k))
EntriesRead b count f k old new is (Ok None) =
    (to : Reading) × (log_entries (entries_in f.size) b count f 0 k ≡ done (unfinished to)) × Holds count new is to
    × (vec_len new.changes ≡ vec_len old.changes + length (counts_in (entries_in f.size) b count f 0 k))
EntriesRead b count f k old new is (Err x) =
    Refuses (log_entries (entries_in f.size) b count f 0 k) (counts_in (entries_in f.size) b count f 0 k) (old.room - vec_len old.changes) x

-- a fragment f behind the fragments fs is read, which then are gs; m more may come after it
abbrev pub FragmentRead : ℕ → List ℕ → Header → List Span → ℕ → Span → Reading → List Span → Counts → Counts → Crc → Result (Option ℕ) LogFault → Type 0
FragmentRead m b h fs field f k gs old new is (Ok (Some used)) =
    (ts : List (List Entry)) × (log_from (suc m) b h fs field f k ≡ done (record { fragments = gs; transactions = ts; used = used }))
    × (vec_items new.changes ≡ numbered 1 ts) × (new.finished ≡ length ts) × (vec_len new.changes ≡ vec_len old.changes + length (counts_met (suc m) b h fs field f k))
FragmentRead m b h fs field f k gs old new is (Ok None) =
    (to : Reading) × (ps : List ℕ) × (log_from (suc m) b h fs field f k ≡ log_from m b h gs (log_next f) (span_at b (log_next f)) to)
    × (counts_met (suc m) b h fs field f k ≡ ps ++ counts_met m b h gs (log_next f) (span_at b (log_next f)) to)
    × Holds h.count new is to × (vec_len new.changes ≡ vec_len old.changes + length ps) × (length gs ≡ length fs + 1)
FragmentRead m b h fs field f k gs old new is (Err x) =
    Refuses (log_from (suc m) b h fs field f k) (counts_met (suc m) b h fs field f k) (old.room - vec_len old.changes) x

-- the same for each reading that the tables and the sum hold
abbrev pub TakesEntry : ℕ → ℕ → Entry → Counts → Crc → Counts → Crc → Result Bool LogFault → Type 0
TakesEntry count p e old was new is r = (k : Reading) → Holds count old was k → Takes (met count p e k) count old new is r

abbrev pub ReadsEntries : List ℕ → ℕ → Span → Counts → Crc → Counts → Crc → Result (Option ℕ) LogFault → Type 0
ReadsEntries b count f old was new is r = (k : Reading) → Holds count old was k → EntriesRead b count f k old new is r

abbrev pub ReadsFragment : List ℕ → Header → List Span → ℕ → Span → List Span → Counts → Crc → Counts → Crc → Result (Option ℕ) LogFault → Type 0
ReadsFragment b h fs field f gs old was new is r = (m : ℕ) (k : Reading) → Holds h.count old was k → FragmentRead m b h fs field f k gs old new is r
