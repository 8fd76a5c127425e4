-- Opening the transaction log: what it holds up to the last finished sentinel, or the first broken rule.
-- Each recursion goes down on a number that the format itself bounds, so none can run out early:
-- the entries left in a fragment, and the fragments that may still come (2,048 in all, where the next is refused as too many).
-- A read past the end gives 0, and is never made in a file that passes.
use Rattle.std.specs.Prelude.{ℕ, zero, suc, ◌+◌, Bool, cond, not, ◌||◌, List, [], ◌∷◌, ◌++◌, length, ◌==◌, nat_le, nat_lt}
use Rattle.model.specs.declared.types.Span.{Span}
use Rattle.model.specs.declared.types.Entry.{Entry}
use Rattle.model.specs.declared.types.Header.{Header}
use Rattle.model.specs.Faults.{fault, Outcome, done, refused, Check, unless, then}
use Rattle.model.specs.References.{end_of, absent, share, meets, span_at}
use Rattle.model.specs.Headers.{header_span}
use Rattle.model.specs.LogFragments.{entry_at, sentinel, entries_in, entry_place, log_next}
use Rattle.model.specs.Section.{Log, flat, latest}

-- 5 outside: a fragment's reference is absent, its size is under the least one, or it ends past the file's end
abbrev pub outside : ℕ → ℕ → Span → Bool
outside least end f = absent f || nat_lt f.size least || nat_lt end (end_of f)

-- 11 overlap: it shares a byte with the header or with a fragment read before
abbrev pub overlaps : Span → List Span → Bool
overlaps f before = share f header_span || meets f before

-- a log as far as it was read: the finished transactions, and the entries of the one that is not finished
pub record Reading : Type 0 where
  pub transactions : List (List Entry)
  pub pending : List Entry

abbrev pub reading : List (List Entry) → List Entry → Reading
reading ts pending = record { transactions = ts; pending = pending }

-- a log fragment was read: the log was finished by so many entries of it, or goes on in the next
pub data LogPart : Type 0 where
  finished : List (List Entry) → ℕ → LogPart
  unfinished : Reading → LogPart

-- the entries of the fragment f from the i-th on; n of them are left
-- 6 sum: a sentinel's number is not the CRC of the transaction's entries; 7 backward: a list's count is not above its last, 0 at first
unfoldable pub log_entries : ℕ → List ℕ → ℕ → Span → ℕ → Reading → Outcome LogPart
log_entries zero b count f i r = done (unfinished r)
log_entries (suc n) b count f i r =
    let p = entry_place f i in
    let e = entry_at b p in
    let ts = r.transactions ++ (r.pending ∷ []) in
    let next = log_entries n b count f (i + 1) (reading ts []) in
    let ended = cond (length ts == count) (done (finished ts (i + 1))) next in
    let more = log_entries n b count f (i + 1) (reading r.transactions (r.pending ++ (e ∷ []))) in
    let sum_differs = not (e.number == (sentinel r.pending).number) in
    let not_above = nat_le e.number (latest e.source 0 (flat r.transactions ++ r.pending)) in
    let at_sentinel = unless ((sum_differs, fault 6 2 p 0) ∷ []) ended in
    let at_count = unless ((not_above, fault 7 2 p 0) ∷ []) more in
    cond (e.source == 1) at_sentinel at_count

-- a log fragment whose reference stands at `field`, behind the fragments fs
abbrev pub log_checks : ℕ → List Span → ℕ → Span → List Check
log_checks end fs field f = (outside 12 end f, fault 5 2 field 0) ∷ (overlaps f fs, fault 11 2 field 0) ∷ []

-- what follows the entries of the fragment f: the log is finished, or `next` reads it from the next fragment on
abbrev pub log_goes : (List Span → ℕ → Span → Reading → Outcome Log) → List ℕ → List Span → Span → LogPart → Outcome Log
log_goes next b fs f (finished ts used) = done (record { fragments = fs ++ (f ∷ []); transactions = ts; used = used })
log_goes next b fs f (unfinished r) = next (fs ++ (f ∷ [])) (log_next f) (span_at b (log_next f)) r

-- the log from the fragment f on, whose reference stands at `field`; fs were read, and n may still come
-- 13 full: fragment 2,049
unfoldable pub log_from : ℕ → List ℕ → Header → List Span → ℕ → Span → Reading → Outcome Log
log_from zero b h fs field f r = unless ((outside 12 h.end f, fault 5 2 field 0) ∷ []) (refused (fault 13 2 field 0))
log_from (suc n) b h fs field f r =
    let rest = then (log_entries (entries_in f.size) b h.count f 0 r) (log_goes (log_from n b h) b fs f) in
    unless (log_checks h.end fs field f) rest
