-- The entries of a log fragment, one after the other: what is left gives what the whole gives.
use Rattle.std.proofs.Common.{◌≡◌, ℕ, suc, ◌+◌, ◌-◌, ◌<◌, ◌≤◌, true, false, List, [], ◌++◌, length, Some, None, Ok, vec_len, sym, refl, ap, ◌∙◌, append_assoc, append-nil, arith}
use Rattle.std.proofs.lemmas.List.{length-append}
use Rattle.model.specs.declared.types.Span.{Span}
use Rattle.model.specs.declared.types.Fault.{Fault}
use Rattle.model.specs.Faults.{Outcome, done, refused}
use Rattle.model.specs.LogFragments.{entry_at, entries_in, entry_place}
use Rattle.model.specs.OpenedLog.{Reading, LogPart, finished, log_entries}
use Rattle.counts.specs.declared.table.Counts.{Counts}
use Rattle.crc.specs.declared.Crc.{Crc}
use Rattle.refusals.specs.declared.faults.LogFault.{LogFault}
use Rattle.log_pass.specs.Logs.{Met, wrong, ends, goes, met, counts_past, counts_in, Refuses}
use Rattle.log_pass.specs.LogSteps.{alone, places_at, Holds, Takes, EntriesRead}
use Rattle.log_pass.proofs.Refusing.{refuses_on}

-- what an entry leaves to be read
abbrev pub log_past : (Reading → Outcome LogPart) → ℕ → Met → Outcome LogPart
log_past next i (wrong x) = refused x
log_past next i (ends ts) = done (finished ts i)
log_past next i (goes ps k) = next k

-- what the i-th entry does, and what is left behind it
abbrev here : List ℕ → ℕ → Span → ℕ → Reading → Met
here b count f i k = met count (entry_place f i) (entry_at b (entry_place f i)) k

abbrev log_behind : List ℕ → ℕ → Span → ℕ → Met → Outcome LogPart
log_behind b count f i m = log_past (log_entries (entries_in f.size - (i + 1)) b count f (i + 1)) (i + 1) m

abbrev counts_behind : List ℕ → ℕ → Span → ℕ → Met → List ℕ
counts_behind b count f i m = counts_past (counts_in (entries_in f.size - (i + 1)) b count f (i + 1)) m

pub entries_more : (n m : ℕ) (b : List ℕ) (count : ℕ) (f : Span) (i : ℕ) (k : Reading) → n ≡ suc m
    → (log_entries n b count f i k ≡ log_past (log_entries m b count f (i + 1)) (i + 1) (here b count f i k))
    × (counts_in n b count f i k ≡ counts_past (counts_in m b count f (i + 1)) (here b count f i k))
unfolding log_entries counts_in met
entries_more n m b count f i k l = rw l (grind arith, refl)

-- the first i entries were read: how far, the places of the counts met, and that the rest gives what the whole gives
pub record Going (b : List ℕ) (count : ℕ) (f : Span) (i : ℕ) (k : Reading) (old t : Counts) (c : Crc) : Type 0 where
  pub to : Reading
  pub places : List ℕ
  pub holds : Holds count t c to
  pub rest : log_entries (entries_in f.size - i) b count f i to ≡ log_entries (entries_in f.size) b count f 0 k
  pub counted : places ++ counts_in (entries_in f.size - i) b count f i to ≡ counts_in (entries_in f.size) b count f 0 k
  pub long : vec_len t.changes ≡ vec_len old.changes + length places

-- what comes behind the places of an entry by itself, and the rule that it breaks
places_behind : (next : Reading → List ℕ) (m : Met) → (after : List ℕ) × (counts_past next m ≡ places_at m ++ after) × ((x : Fault) → alone m ≡ refused x → (m ≡ wrong x) × (after ≡ []))
places_behind next (wrong y) = ([], refl, λ x e. (cc, refl))
places_behind next (ends ts) = ([], refl, λ x e. (cc, refl))
places_behind next (goes ps k) = (next k, refl, λ x e. (cc, cc))

module _ {b : List ℕ} {count : ℕ} {f : Span} {i : ℕ} {k : Reading} {old t : Counts} {c : Crc} (g : Going b count f i k old t c) where
  gives : i < entries_in f.size → log_entries (entries_in f.size) b count f 0 k ≡ log_behind b count f i (here b count f i g.to)
  gives l = sym g.rest ∙ (entries_more (entries_in f.size - i) (entries_in f.size - (i + 1)) b count f i g.to (omega arith)).0

  counts : i < entries_in f.size → counts_in (entries_in f.size) b count f 0 k ≡ g.places ++ counts_behind b count f i (here b count f i g.to)
  counts l = sym g.counted ∙ ap (λ xs. g.places ++ xs) (entries_more (entries_in f.size - i) (entries_in f.size - (i + 1)) b count f i g.to (omega arith)).1

  pub going_more : {new : Counts} {is : Crc} → i < entries_in f.size → Takes (here b count f i g.to) count t new is (Ok false) → Going b count f (i + 1) k old new is
  going_more l (to, ps, m, h, a) = record {
    to = to;
    places = g.places ++ ps;
    holds = h;
    rest = sym (gives l ∙ ap (log_behind b count f i) m);
    counted = append_assoc g.places ps _ ∙ sym (counts l ∙ ap (λ x. g.places ++ counts_behind b count f i x) m);
    long = a ∙ omega (arith, g.long, length-append g.places ps);
  }

  pub going_ends : (new : Counts) (is : Crc) → i < entries_in f.size → Takes (here b count f i g.to) count t new is (Ok true) → EntriesRead b count f k old new is (Ok (Some (i + 1)))
  going_ends new is l (ts, m, e, z, a) =
      let w : counts_in (entries_in f.size) b count f 0 k ≡ g.places = counts l ∙ ap (λ x. g.places ++ counts_behind b count f i x) m ∙ append-nil g.places in
      (ts, gives l ∙ ap (log_behind b count f i) m, e, z, a ∙ g.long ∙ ap (λ xs. vec_len old.changes + length xs) (sym w))

  pub going_wrong : (x : LogFault) → i < entries_in f.size → t.room ≡ old.room → vec_len t.changes ≤ t.room
      → Refuses (alone (here b count f i g.to)) (places_at (here b count f i g.to)) (t.room - vec_len t.changes) x
      → Refuses (log_entries (entries_in f.size) b count f 0 k) (counts_in (entries_in f.size) b count f 0 k) (old.room - vec_len old.changes) x
  going_wrong x l r s =
      let m = here b count f i g.to in
      let (after, q, a) = places_behind (counts_in (entries_in f.size - (i + 1)) b count f (i + 1)) m in
      refuses_on (alone m) (log_entries (entries_in f.size) b count f 0 k) g.places (places_at m) after (counts_in (entries_in f.size) b count f 0 k)
      (t.room - vec_len t.changes) (old.room - vec_len old.changes) (counts l ∙ ap (λ xs. g.places ++ xs) q) (omega (arith, g.long))
      (λ y e. (gives l ∙ ap (log_behind b count f i) (a y e).0, (a y e).1)) x

  pub going_all : entries_in f.size ≤ i → EntriesRead b count f k old t c (Ok None)
  unfolding log_entries counts_in
  going_all l =
      let e : entries_in f.size - i ≡ 0 = omega arith in
      let w : counts_in (entries_in f.size) b count f 0 k ≡ g.places
      = sym g.counted ∙ ap (λ m. g.places ++ counts_in m b count f i g.to) e ∙ append-nil g.places in
      (g.to, sym g.rest ∙ ap (λ m. log_entries m b count f i g.to) e, g.holds, g.long ∙ ap (λ xs. vec_len old.changes + length xs) (sym w))
