-- The fragments of the log, one after the other: what is left gives what the whole gives.
use Rattle.std.proofs.Common.{◌≡◌, ℕ, suc, ◌+◌, ◌-◌, ◌<◌, ◌≤◌, false, List, [], ◌∷◌, ◌++◌, length, Some, None, Ok, Err, vec_items, vec_len, Option, Result, sym, ap, ◌∙◌, inl, inr, append_assoc, append-nil, cond, arith, refl}
use Rattle.std.proofs.lemmas.List.{length-append, length_push}
use Rattle.std.proofs.lemmas.Bool.{cases_Bool}
use Rattle.model.specs.declared.types.Span.{Span}
use Rattle.model.specs.declared.types.Header.{Header}
use Rattle.model.specs.Crc.{crc_32}
use Rattle.model.specs.Faults.{Outcome, done, refused, then}
use Rattle.model.specs.References.{span_at}
use Rattle.model.specs.LogFragments.{entry_bytes, entries_in, log_next}
use Rattle.model.specs.OpenedLog.{outside, overlaps, Reading, reading, LogPart, finished, unfinished, log_entries, log_goes, log_from}
use Rattle.counts.specs.declared.table.Counts.{Counts}
use Rattle.counts.specs.Noted.{numbered}
use Rattle.crc.specs.declared.Crc.{Crc}
use Rattle.crc.proofs.Rows.{run_end}
use Rattle.tables.specs.declared.places.Misplaced.{Misplaced}
use Rattle.tables.specs.declared.places.Misplaced.TheVariants as place
use Rattle.refusals.specs.declared.faults.LogFault.{LogFault}
use Rattle.tables.specs.Places.{Admits}
use Rattle.log_pass.specs.Logs.{counts_in, counts_after, counts_met, whole_log, all_counts, Refuses, LogRead}
use Rattle.log_pass.specs.LogSteps.{Holds, EntriesRead, FragmentRead}
use Rattle.log_pass.proofs.Refusing.{refuses_on}
use Rattle.tables.specs.Misplacings.{log_misplaced}

module _ (m : ℕ) (b : List ℕ) (h : Header) (fs : List Span) (field : ℕ) (f : Span) (k : Reading) where
  -- a fragment whose place is wrong
  pub fragment_misplaced : (gs : List Span) (left : ℕ) (w : Misplaced) → length fs < 2048 → Admits {T = Unit {0}} 12 h.end fs f gs (Err w)
      → Refuses (log_from (suc m) b h fs field f k) (counts_met (suc m) b h fs field f k) left (log_misplaced w field)
  unfolding log_from counts_met
  fragment_misplaced gs left place.Outside l (o, s) = rw o (refl, omega arith)
  fragment_misplaced gs left place.Full l (o, n, s) = absurd (omega arith)
  fragment_misplaced gs left place.Overlap l (o, n, v, s) = rw (o, v) (refl, omega arith)

  -- a fragment whose place is right
  module _ (o : outside 12 h.end f ≡ false) (v : overlaps f fs ≡ false) where
    pub at_log : (x : Outcome LogPart) → log_entries (entries_in f.size) b h.count f 0 k ≡ x
        → log_from (suc m) b h fs field f k ≡ then x (log_goes (log_from m b h) b fs f)
    unfolding log_from
    at_log x e = rw (o, v, e)

    pub at_counts : (x : Outcome LogPart) → log_entries (entries_in f.size) b h.count f 0 k ≡ x
        → counts_met (suc m) b h fs field f k ≡ counts_in (entries_in f.size) b h.count f 0 k ++ counts_after (counts_met m b h) b fs f x
    unfolding counts_met
    at_counts x e = rw (o, v, e)

    pub fragment_read : (gs : List Span) (old new : Counts) (is : Crc) → gs ≡ fs ++ (f ∷ []) → (r : Result (Option ℕ) LogFault)
        → EntriesRead b h.count f k old new is r → FragmentRead m b h fs field f k gs old new is r
    fragment_read gs old new is s (Ok (Some used)) (ts, e, c, z, a) =
        let w = at_counts (done (finished ts used)) e ∙ append-nil (counts_in (entries_in f.size) b h.count f 0 k) in
        (ts, rw s (at_log (done (finished ts used)) e), c, z, a ∙ ap (λ xs. vec_len old.changes + length xs) (sym w))
    fragment_read gs old new is s (Ok None) (to, e, c, a) = (
      to,
      counts_in (entries_in f.size) b h.count f 0 k,
      rw s (at_log (done (unfinished to)) e),
      rw s (at_counts (done (unfinished to)) e),
      c,
      a,
      ap length s ∙ length_push fs f,
    )
    fragment_read gs old new is s (Err x) r =
        let part = log_entries (entries_in f.size) b h.count f 0 k in
        let ps = counts_in (entries_in f.size) b h.count f 0 k in
        refuses_on part (log_from (suc m) b h fs field f k) [] ps (counts_after (counts_met m b h) b fs f part) (counts_met (suc m) b h fs field f k)
        (old.room - vec_len old.changes) (old.room - vec_len old.changes) (at_counts part refl) (omega arith) (λ y e. (at_log (refused y) e, ap (counts_after (counts_met m b h) b fs f) e)) x r

-- the first i fragments were read: how far, the places of the counts met, and that the rest gives what the whole gives
pub record Walking (b : List ℕ) (h : Header) (i : ℕ) (fs : List Span) (field : ℕ) (f : Span) (t : Counts) (c : Crc) : Type 0 where
  pub to : Reading
  pub places : List ℕ
  pub holds : Holds h.count t c to
  pub rest : log_from (2048 - i) b h fs field f to ≡ whole_log b h
  pub counted : places ++ counts_met (2048 - i) b h fs field f to ≡ all_counts b h
  pub long : vec_len t.changes ≡ length places
  pub size : length fs ≡ i

pub walking_none : (b : List ℕ) (h : Header) (fs : List Span) (t : Counts) (c : Crc)
    → fs ≡ [] → vec_items t.changes ≡ [] → vec_len t.changes ≡ 0 → t.finished ≡ 0 → 1 ≤ h.count → c.register ≡ crc_32.first
    → Walking b h 0 fs 0xA0 h.log t c
unfolding numbered entry_bytes
walking_none b h fs t c f d l z s r = record {
  to = reading [] [];
  places = [];
  holds = record { noted = d; ended = z; under = s; summed = r ∙ sym (run_end crc_32 crc_32.first) };
  rest = rw f;
  counted = rw f;
  long = l;
  size = ap length f;
}

module _ {b : List ℕ} {h : Header} {i : ℕ} {fs : List Span} {field : ℕ} {f : Span} {t : Counts} {c : Crc} (w : Walking b h i fs field f t c) where
  gives : i < 2048 → whole_log b h ≡ log_from (suc (2047 - i)) b h fs field f w.to
  gives l = let e : 2048 - i ≡ suc (2047 - i) = omega arith in sym w.rest ∙ ap (λ m. log_from m b h fs field f w.to) e

  counts : i < 2048 → all_counts b h ≡ w.places ++ counts_met (suc (2047 - i)) b h fs field f w.to
  counts l = let e : 2048 - i ≡ suc (2047 - i) = omega arith in sym w.counted ∙ ap (λ m. w.places ++ counts_met m b h fs field f w.to) e

  pub walking_more : {gs : List Span} {new : Counts} {is : Crc} → i < 2048 → FragmentRead (2047 - i) b h fs field f w.to gs t new is (Ok None)
      → Walking b h (i + 1) gs (log_next f) (span_at b (log_next f)) new is
  walking_more {gs} l (to, ps, e, d, n, a, s) =
      let z : 2048 - (i + 1) ≡ 2047 - i = omega arith in
      record {
        to = to;
        places = w.places ++ ps;
        holds = n;
        rest = rw z (sym (gives l ∙ e));
        counted = rw z (append_assoc w.places ps _ ∙ sym (counts l ∙ ap (λ xs. w.places ++ xs) d));
        long = a ∙ omega (arith, w.long, length-append w.places ps);
        size = s ∙ omega (arith, w.size);
      }

  pub walking_ends : (room used : ℕ) (gs : List Span) (new : Counts) (is : Crc) → i < 2048 → vec_len new.changes ≤ room
      → FragmentRead (2047 - i) b h fs field f w.to gs t new is (Ok (Some used)) → LogRead b h room gs (vec_items new.changes) new.finished (Ok used)
  walking_ends room used gs new is l r (ts, e, d, z, a) =
      (ts, gives l ∙ e, d, z, omega (arith, w.long, ap length (counts l), length-append w.places (counts_met (suc (2047 - i)) b h fs field f w.to)))

  pub walking_wrong : (room : ℕ) (x : LogFault) → i < 2048 → t.room ≡ room → vec_len t.changes ≤ t.room
      → Refuses (log_from (suc (2047 - i)) b h fs field f w.to) (counts_met (suc (2047 - i)) b h fs field f w.to) (t.room - vec_len t.changes) x → Refuses (whole_log b h) (all_counts b h) room x
  walking_wrong room x l r s =
      let ps = counts_met (suc (2047 - i)) b h fs field f w.to in
      refuses_on (log_from (suc (2047 - i)) b h fs field f w.to) (whole_log b h) w.places ps [] (all_counts b h) (t.room - vec_len t.changes) room
      (counts l ∙ ap (λ xs. w.places ++ xs) (sym (append-nil ps))) (omega (arith, w.long)) (λ y e. (gives l ∙ e, refl)) x

  -- all fragments that may come have come
  pub walking_all : (room : ℕ) → 2048 ≤ i → vec_len t.changes ≤ room → (x : LogFault) → x ≡ log_misplaced (cond (outside 12 h.end f) place.Outside place.Full) field
      → Refuses (whole_log b h) (all_counts b h) room x
  unfolding log_from counts_met
  walking_all room l r x e =
      let z : 2048 - i ≡ 0 = omega arith in
      let n : all_counts b h ≡ w.places = sym w.counted ∙ ap (λ m. w.places ++ counts_met m b h fs field f w.to) z ∙ append-nil w.places in
      let g = sym w.rest ∙ ap (λ m. log_from m b h fs field f w.to) z in
      elim (cases_Bool (outside 12 h.end f)) [
        | inl o ↦ let q = e ∙ ap (λ y. log_misplaced (cond y place.Outside place.Full) field) o in rw q (g ∙ rw o, omega (arith, w.long, ap length n))
        | inr o ↦ let q = e ∙ ap (λ y. log_misplaced (cond y place.Outside place.Full) field) o in rw q (g ∙ rw o, omega (arith, w.long, ap length n))
      ]
