-- Reading the log: what one entry does, the counts that are met on the way, and what reading answers.
use Rattle.std.specs.Prelude.{◌≡◌, ℕ, zero, suc, ◌+◌, ◌<◌, ◌≤◌, cond, not, ◌||◌, List, [], ◌∷◌, ◌++◌, length, Ok, Err, Result, ◌==◌, nat_le, slice_index}
use Rattle.model.specs.declared.types.Span.{Span}
use Rattle.model.specs.declared.types.Entry.{Entry}
use Rattle.model.specs.declared.types.Header.{Header}
use Rattle.model.specs.declared.types.Fault.{Fault}
use Rattle.model.specs.Faults.{fault, Outcome, done, refused}
use Rattle.model.specs.References.{span_at}
use Rattle.model.specs.LogFragments.{entry_at, sentinel, entries_in, entry_place, log_next}
use Rattle.model.specs.Section.{Log, flat, latest}
use Rattle.model.specs.OpenedLog.{outside, overlaps, Reading, reading, LogPart, finished, unfinished, log_entries, log_from}
use Rattle.counts.specs.declared.changes.Change.{Change}
use Rattle.counts.specs.Noted.{numbered}
use Rattle.refusals.specs.declared.faults.LogFault.{LogFault}
use Rattle.refusals.specs.declared.faults.LogFault.TheVariants as log
use Rattle.refusals.specs.Refusals.{log_told}

-- what an entry does to a log as far as it was read: it breaks a rule, it finishes the log, or the log goes on;
-- a count that goes on is met at its place
pub data Met : Type 0 where
  wrong : Fault → Met
  ends : List (List Entry) → Met
  goes : List ℕ → Reading → Met

unfoldable pub met : ℕ → ℕ → Entry → Reading → Met
met count p e k =
    let ts = k.transactions ++ (k.pending ∷ []) in
    let ended = cond (length ts == count) (ends ts) (goes [] (reading ts [])) in
    let sum_differs = not (e.number == (sentinel k.pending).number) in
    let not_above = nat_le e.number (latest e.source 0 (flat k.transactions ++ k.pending)) in
    let more = goes (p ∷ []) (reading k.transactions (k.pending ++ (e ∷ []))) in
    cond (e.source == 1) (cond sum_differs (wrong (fault 6 2 p 0)) ended) (cond not_above (wrong (fault 7 2 p 0)) more)

-- the places of the counts that are met from the i-th entry of the fragment f on; n entries are left
abbrev pub counts_past : (Reading → List ℕ) → Met → List ℕ
counts_past next (wrong x) = []
counts_past next (ends ts) = []
counts_past next (goes ps k) = ps ++ next k

unfoldable pub counts_in : ℕ → List ℕ → ℕ → Span → ℕ → Reading → List ℕ
counts_in zero b count f i k = []
counts_in (suc n) b count f i k =
    counts_past (counts_in n b count f (i + 1)) (met count (entry_place f i) (entry_at b (entry_place f i)) k)

-- the places of the counts that are met from the fragment f on, until the log is finished or refused
abbrev pub counts_after : (List Span → ℕ → Span → Reading → List ℕ) → List ℕ → List Span → Span → Outcome LogPart → List ℕ
counts_after next b fs f (done (finished ts used)) = []
counts_after next b fs f (done (unfinished k)) = next (fs ++ (f ∷ [])) (log_next f) (span_at b (log_next f)) k
counts_after next b fs f (refused x) = []

unfoldable pub counts_met : ℕ → List ℕ → Header → List Span → ℕ → Span → Reading → List ℕ
counts_met zero b h fs field f k = []
counts_met (suc n) b h fs field f k =
    cond (outside 12 h.end f || overlaps f fs) []
    (counts_in (entries_in f.size) b h.count f 0 k
    ++ counts_after (counts_met n b h) b fs f (log_entries (entries_in f.size) b h.count f 0 k))

-- the whole log, and all counts that are met in it
abbrev pub whole_log : List ℕ → Header → Outcome Log
whole_log b h = log_from 2048 b h [] 0xA0 h.log (reading [] [])

abbrev pub all_counts : List ℕ → Header → List ℕ
all_counts b h = counts_met 2048 b h [] 0xA0 h.log (reading [] [])

-- a fault is told exactly: want of room where there are more counts to meet than there is room left, with the place of the first too many;
-- else the counts have room, and the fault is the one that is told of the whole
abbrev pub Told : {A : Type 0} → Outcome A → List ℕ → ℕ → LogFault → Type 0
Told whole ps left f = (whole ≡ refused (log_told f)) × (length ps ≤ left)

abbrev pub Refuses : {A : Type 0} → Outcome A → List ℕ → ℕ → LogFault → Type 0
Refuses whole ps left (log.Outside p) = Told whole ps left (log.Outside p)
Refuses whole ps left (log.Sum p) = Told whole ps left (log.Sum p)
Refuses whole ps left (log.Backward p) = Told whole ps left (log.Backward p)
Refuses whole ps left (log.Overlap p) = Told whole ps left (log.Overlap p)
Refuses whole ps left (log.Full p) = Told whole ps left (log.Full p)
Refuses whole ps left (log.Room p) = (left < length ps) × (p ≡ slice_index ps left)

-- the log is read into a room that held nothing: its fragments, the changes of its transactions, and how many entries of the last fragment are used
abbrev pub LogRead : List ℕ → Header → ℕ → List Span → List Change → ℕ → Result ℕ LogFault → Type 0
LogRead b h room fs cs n (Ok used) =
    (ts : List (List Entry)) × (whole_log b h ≡ done (record { fragments = fs; transactions = ts; used = used }))
    × (cs ≡ numbered 1 ts) × (n ≡ length ts) × (length (all_counts b h) ≤ room)
LogRead b h room fs cs n (Err x) = Refuses (whole_log b h) (all_counts b h) room x
