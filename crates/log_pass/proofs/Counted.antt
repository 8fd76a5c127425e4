-- A finished log has as many counts to meet as its transactions have entries.
use Rattle.std.proofs.Common.{◌≡◌, ℕ, zero, suc, ◌+◌, Bool, true, false, cond, not, eqb, leb, List, [], ◌∷◌, ◌++◌, length, sym, refl, ap, ◌∙◌, inl, inr, append-nil, arith}
use Rattle.std.proofs.lemmas.List.{length-append, length_push}
use Rattle.std.proofs.lemmas.Bool.{cases_Bool}
use Rattle.model.specs.declared.types.Span.{Span}
use Rattle.model.specs.declared.types.Entry.{Entry}
use Rattle.model.specs.declared.types.Header.{Header}
use Rattle.model.specs.declared.types.Fault.{Fault}
use Rattle.model.specs.Faults.{fault, Outcome, done, refused, then}
use Rattle.model.specs.LogFragments.{entry_at, sentinel, entries_in, entry_place}
use Rattle.model.specs.Section.{Log, flat, latest}
use Rattle.model.specs.OpenedLog.{outside, overlaps, Reading, reading, LogPart, finished, unfinished, log_entries, log_goes, log_from}
use Rattle.log_pass.specs.Logs.{Met, wrong, ends, goes, met, counts_past, counts_in, counts_after, counts_met, whole_log, all_counts}
use Rattle.log_pass.proofs.OneEntry.{flat_push}
use Rattle.log_pass.proofs.Entries.{log_past, entries_more}
use Rattle.log_pass.proofs.Fragments.{at_log, at_counts}

-- how many entries were read
abbrev total : Reading → ℕ
total k = length (flat k.transactions) + length k.pending

abbrev AddsUp : Reading → Met → Type 0
AddsUp k (wrong x) = Unit {0}
AddsUp k (ends ts) = length (flat ts) ≡ total k
AddsUp k (goes ps j) = total j ≡ total k + length ps

by_tests : (k : Reading) (s d z a : Bool) (x y : Fault) (ts : List (List Entry)) (ps qs : List ℕ) (i j : Reading)
    → AddsUp k (ends ts) → AddsUp k (goes ps i) → AddsUp k (goes qs j)
    → AddsUp k (cond s (cond d (wrong x) (cond z (ends ts) (goes ps i))) (cond a (wrong y) (goes qs j)))
by_tests k true true z a x y ts ps qs i j e f g = tt
by_tests k true false true a x y ts ps qs i j e f g = e
by_tests k true false false a x y ts ps qs i j e f g = f
by_tests k false d z true x y ts ps qs i j e f g = tt
by_tests k false d z false x y ts ps qs i j e f g = g

met_adds_up : (count p : ℕ) (e : Entry) (k : Reading) → AddsUp k (met count p e k)
unfolding met
met_adds_up count p e k =
    let ts = k.transactions ++ (k.pending ∷ []) in
    let l : length (flat (k.transactions ++ (k.pending ∷ []))) ≡ length (flat k.transactions) + length k.pending
    = ap length (flat_push k.transactions k.pending) ∙ length-append (flat k.transactions) k.pending in
    by_tests k (eqb e.source 1) (not (eqb e.number (sentinel k.pending).number)) (eqb (length ts) count)
    (leb e.number (latest e.source 0 (flat k.transactions ++ k.pending))) (fault 6 2 p 0) (fault 7 2 p 0) ts [] (p ∷ [])
    (reading ts []) (reading k.transactions (k.pending ++ (e ∷ []))) l (omega (arith, l)) (omega (arith, length_push k.pending e))

abbrev part_total : LogPart → ℕ
part_total (finished ts used) = length (flat ts)
part_total (unfinished k) = total k

entries_step : (n : ℕ) (b : List ℕ) (count : ℕ) (f : Span) (i : ℕ) (k : Reading) (part : LogPart)
    → ((j : Reading) → log_entries n b count f i j ≡ done part → length (counts_in n b count f i j) + total j ≡ part_total part)
    → (m : Met) → AddsUp k m → log_past (log_entries n b count f i) i m ≡ done part
    → length (counts_past (counts_in n b count f i) m) + total k ≡ part_total part
entries_step n b count f i k part ih (wrong x) t e = let z : ◌≡◌ {A = ℕ} 0 1 = cc in absurd (omega arith)
entries_step n b count f i k part ih (ends ts) t e = let q : finished ts i ≡ part = cc in omega (arith, ap part_total q, t)
entries_step n b count f i k part ih (goes ps j) t e = omega (arith, ih j e, t, length-append ps (counts_in n b count f i j))

counts_in_total : (n : ℕ) (b : List ℕ) (count : ℕ) (f : Span) (i : ℕ) (k : Reading) (part : LogPart)
    → log_entries n b count f i k ≡ done part → length (counts_in n b count f i k) + total k ≡ part_total part
unfolding log_entries counts_in
counts_in_total zero b count f i k part e = let q : unfinished k ≡ part = cc in omega (arith, ap part_total q)
counts_in_total (suc n) b count f i k part e =
    let p = entry_place f i in
    ap (λ xs. length xs + total k) (entries_more (suc n) n b count f i k refl).1
    ∙ entries_step n b count f (i + 1) k part (λ j d. counts_in_total n b count f (i + 1) j part d) (met count p (entry_at b p) k) (met_adds_up count p (entry_at b p) k)
    (sym (entries_more (suc n) n b count f i k refl).0 ∙ e)

module _ (m : ℕ) (b : List ℕ) (h : Header) (fs : List Span) (field : ℕ) (f : Span) (k : Reading) (log : Log)
    (ih : (gs : List Span) (p : ℕ) (g : Span) (j : Reading) → log_from m b h gs p g j ≡ done log → length (counts_met m b h gs p g j) + total j ≡ length (flat log.transactions))
    (o : outside 12 h.end f ≡ false) (v : overlaps f fs ≡ false) where
  fragment_step : (x : Outcome LogPart) → log_entries (entries_in f.size) b h.count f 0 k ≡ x → then x (log_goes (log_from m b h) b fs f) ≡ done log
      → length (counts_met (suc m) b h fs field f k) + total k ≡ length (flat log.transactions)
  fragment_step (refused y) e d = let z : ◌≡◌ {A = ℕ} 0 1 = cc in absurd (omega arith)
  fragment_step (done (finished ts used)) e d =
      let q : ts ≡ log.transactions = ap logs d in
      let c = at_counts m b h fs field f k o v (done (finished ts used)) e ∙ append-nil (counts_in (entries_in f.size) b h.count f 0 k) in
      omega (arith, ap length c, counts_in_total (entries_in f.size) b h.count f 0 k (finished ts used) e, ap (λ xs. length (flat xs)) q)
    where
      logs : Outcome Log → List (List Entry)
      logs (done l) = l.transactions
      logs (refused y) = []
  fragment_step (done (unfinished j)) e d =
      let c = at_counts m b h fs field f k o v (done (unfinished j)) e in
      let a = counts_in_total (entries_in f.size) b h.count f 0 k (unfinished j) e in
      omega (arith, ap length c, length-append (counts_in (entries_in f.size) b h.count f 0 k) (counts_after (counts_met m b h) b fs f (done (unfinished j))), a, ih _ _ _ j d)

-- a fragment whose place is wrong
from_outside : (m : ℕ) (b : List ℕ) (h : Header) (fs : List Span) (field : ℕ) (f : Span) (k : Reading) → outside 12 h.end f ≡ true
    → log_from (suc m) b h fs field f k ≡ refused (fault 5 2 field 0)
unfolding log_from
from_outside m b h fs field f k o = rw o

from_overlap : (m : ℕ) (b : List ℕ) (h : Header) (fs : List Span) (field : ℕ) (f : Span) (k : Reading) → outside 12 h.end f ≡ false → overlaps f fs ≡ true
    → log_from (suc m) b h fs field f k ≡ refused (fault 11 2 field 0)
unfolding log_from
from_overlap m b h fs field f k o v = rw (o, v)

counts_met_total : (m : ℕ) (b : List ℕ) (h : Header) (fs : List Span) (field : ℕ) (f : Span) (k : Reading) (log : Log)
    → log_from m b h fs field f k ≡ done log → length (counts_met m b h fs field f k) + total k ≡ length (flat log.transactions)
unfolding log_from
counts_met_total zero b h fs field f k log e = elim (cases_Bool (outside 12 h.end f)) [
  | inl o ↦ let q = rw o at e in let z : ◌≡◌ {A = ℕ} 0 1 = cc in absurd (omega arith)
  | inr o ↦ let q = rw o at e in let z : ◌≡◌ {A = ℕ} 0 1 = cc in absurd (omega arith)
]
counts_met_total (suc m) b h fs field f k log e = elim (cases_Bool (outside 12 h.end f)) [
  | inl o ↦ let q = sym (from_outside m b h fs field f k o) ∙ e in let z : ◌≡◌ {A = ℕ} 0 1 = cc in absurd (omega arith)
  | inr o ↦ elim (cases_Bool (overlaps f fs)) [
    | inl v ↦ let q = sym (from_overlap m b h fs field f k o v) ∙ e in let z : ◌≡◌ {A = ℕ} 0 1 = cc in absurd (omega arith)
    | inr v ↦
        fragment_step m b h fs field f k log (λ gs p g j d. counts_met_total m b h gs p g j log d) o v
        (log_entries (entries_in f.size) b h.count f 0 k) refl (sym (at_log m b h fs field f k o v _ refl) ∙ e)
  ]
]

-- so room for a finished log's entries is room enough
pub all_counts_total : (b : List ℕ) (h : Header) (log : Log) → whole_log b h ≡ done log → length (all_counts b h) ≡ length (flat log.transactions)
all_counts_total b h log e = omega (arith, counts_met_total 2048 b h [] 0xA0 h.log (reading [] []) log e)
