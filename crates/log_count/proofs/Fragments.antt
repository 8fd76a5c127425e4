-- The walk over the log for a list's count: the entries of a fragment, and the fragments that are left.
use Rattle.std.proofs.Common.{◌≡◌, ℕ, suc, ◌+◌, ◌-◌, ◌*◌, ◌^◌, ◌<◌, ◌≤◌, min, List, [], ◌∷◌, ◌++◌, map, length, sym, subst, refl, ap, ◌∙◌, append-nil, arith}
use Rattle.std.specs.List.{AllByRecursion}
use Rattle.std.proofs.ByRecursion.{All-weaker}
use Rattle.model.specs.declared.types.Span.{Span}
use Rattle.model.specs.declared.types.Entry.{Entry}
use Rattle.model.specs.Faults.{done}
use Rattle.model.specs.References.{span, span_at}
use Rattle.model.specs.LogFragments.{entry_at, entries_in, entry_place, log_next}
use Rattle.model.specs.Section.{Section, flat, last_of, count_at}
use Rattle.model.specs.Opened.{opened}
use Rattle.model.specs.Means.{Inside, Chain, entries_of, log_row, closed}
use Rattle.meaning.proofs.Growth.{entries_more}
use Rattle.meaning.proofs.OpensMeans.{opens_means}
use Rattle.log_count.specs.declared.Tally.{Tally}
use Rattle.log_count.specs.Tallies.{met, met_all}
use Rattle.log_count.proofs.Tallied.{tally, met_none, met_more, met_append, met_transactions}

-- a fragment ends by 2^40, past which no file goes, so that no place in it passes 64 bits
abbrev pub EndsLow : Span → Type 0
EndsLow f = f.start + f.size ≤ 2 ^ 40

-- before its i-th entry: what is left gives what the whole gives
pub record Meeting (b : List ℕ) (f : Span) (was : Tally) (i : ℕ) (t : Tally) : Type 0 where
  pub gives : EndsLow f → met_all t (entries_of b f i (entries_in f.size - i)) ≡ met_all was (entries_of b f 0 (entries_in f.size))

pub meeting_none : (b : List ℕ) (f : Span) (t : Tally) → Meeting b f t 0 t
meeting_none b f t = record { gives = λ h. let z : entries_in f.size - 0 ≡ entries_in f.size = omega arith in ap (λ k. met_all t (entries_of b f 0 k)) z }

module _ {b : List ℕ} {f : Span} {was t : Tally} {i : ℕ} (w : Meeting b f was i t) where
  -- one entry more is met; its place was told by a sum that stops at the highest number
  pub meeting_more : (p : ℕ) (e : Entry) (u : Tally) → i < entries_in f.size → 0 < t.left → p ≡ min (f.start + 8 * i) (2 ^ 64 - 1) → (p ≤ 2 ^ 40 → e ≡ entry_at b p) → u ≡ met t e
      → Meeting b f was (i + 1) u
  meeting_more p e u l g is reads q = record {
    gives = λ h.
        let rest = entries_of b f (i + 1) (entries_in f.size - (i + 1)) in
        let s : entries_in f.size - i ≡ suc (entries_in f.size - (i + 1)) = omega arith in
        let place : p ≡ entry_place f i = omega arith in
        let read : e ≡ entry_at b (entry_place f i) = reads (omega arith) ∙ ap (entry_at b) place in
        ap (λ x. met_all x rest) (q ∙ ap (met t) read) ∙ sym (met_more t (entry_at b (entry_place f i)) rest g) ∙ ap (λ k. met_all t (entries_of b f i k)) (sym s) ∙ w.gives h;
  }

  -- no transaction is to end any more, or no entry is left
  pub meeting_done : t.left ≡ 0 → EndsLow f → t ≡ met_all was (entries_of b f 0 (entries_in f.size))
  meeting_done z h = sym (met_none t (entries_of b f i (entries_in f.size - i)) z) ∙ w.gives h

  pub meeting_all : entries_in f.size ≤ i → EndsLow f → t ≡ met_all was (entries_of b f 0 (entries_in f.size))
  unfolding met_all
  meeting_all l h = let z : entries_in f.size - i ≡ 0 = omega arith in rw z at (w.gives h)

-- fragments of the log that follow one another by their references; the first is f
abbrev pub Follow : List ℕ → Span → List Span → Type 0
Follow b f fs = Chain (λ g. span_at b (log_next g)) f fs

-- so many entries of the last fragment are used; there is no last one behind the log
abbrev pub Used : ℕ → List Span → Type 0
Used used [] = Unit {0}
Used used (f ∷ fs) = used ≤ entries_in (last_of f fs).size

-- the log goes on with the fragment f, of n fragments at most; the entries in them bring the tally t to the count
pub record Ahead (b : List ℕ) (list count n : ℕ) (f : Span) (t : Tally) : Type 0 where
  pub fragments : List Span
  pub used : ℕ
  pub follow : Follow b f fragments
  pub inside : AllByRecursion (Inside 12 (2 ^ 40)) fragments
  pub few : length fragments ≤ n
  pub places : Used used fragments
  pub gives : met_all t (log_row b fragments used) ≡ tally list 0 count

-- where no transaction is to end any more, or no fragment is left, the count is reached
pub ahead_done : (b : List ℕ) (list count n : ℕ) (f : Span) (t : Tally) → Ahead b list count n f t → t.left ≡ 0 → t.count ≡ count
ahead_done b list count n f t a z = ap (λ (s : Tally). s.count) (sym (met_none t (log_row b a.fragments a.used) z) ∙ a.gives)

none_ahead : (b : List ℕ) (list count used : ℕ) (fs : List Span) (t : Tally) → length fs ≡ 0 → met_all t (log_row b fs used) ≡ tally list 0 count → t ≡ tally list 0 count
unfolding met_all
none_ahead b list count used [] t z g = g
none_ahead b list count used (f ∷ fs) t z g = absurd (omega arith)

pub ahead_none : (b : List ℕ) (list count n : ℕ) (f : Span) (t : Tally) → Ahead b list count n f t → n ≡ 0 → t.count ≡ count
ahead_none b list count n f t a z = ap (λ (s : Tally). s.count) (none_ahead b list count a.used a.fragments t (omega (arith, a.few)) a.gives)

-- one fragment is met, and the next is named by its reference
module _ (b : List ℕ) (list count n m : ℕ) (f : Span) (t : Tally) (left : 0 < t.left) (one : n ≡ m + 1) where
  abbrev whole : List Entry
  whole = entries_of b f 0 (entries_in f.size)

  -- all entries of the last fragment are met, though not all are used
  last_whole : (used : ℕ) → used ≤ entries_in f.size → met_all t (entries_of b f 0 used) ≡ tally list 0 count → met_all t whole ≡ tally list 0 count
  last_whole used u g =
      let more = entries_of b f (0 + used) (entries_in f.size - used) in
      let s : used + (entries_in f.size - used) ≡ entries_in f.size = omega arith in
      ap (λ k. met_all t (entries_of b f 0 k)) (sym s) ∙ ap (met_all t) (entries_more b f 0 used (entries_in f.size - used))
      ∙ met_append t (entries_of b f 0 used) more ∙ ap (λ x. met_all x more) g ∙ met_none (tally list 0 count) more refl

  goes_on : (fs : List Span) (used : ℕ) → Follow b f fs → AllByRecursion (Inside 12 (2 ^ 40)) fs → length fs ≤ n → Used used fs
      → met_all t (log_row b fs used) ≡ tally list 0 count → EndsLow f × Ahead b list count m (span_at b (log_next f)) (met_all t whole)
  unfolding met_all
  goes_on [] used c i l u g = absurd (omega (arith, left, ap (λ (s : Tally). s.left) g))
  goes_on (g ∷ []) used (e, c) (i, j) l u q = (
    subst EndsLow e i.1,
    record {
      fragments = [];
      used = 0;
      follow = tt;
      inside = tt;
      few = omega arith;
      places = tt;
      gives = last_whole used (subst (λ x. used ≤ entries_in x.size) e u) (ap (λ x. met_all t (entries_of b x 0 used)) (sym e) ∙ q);
    },
  )
  goes_on (g ∷ (h ∷ hs)) used (e, c) (i, j) l u q = (
    subst EndsLow e i.1,
    record {
      fragments = h ∷ hs;
      used = used;
      follow = subst (λ x. Follow b (span_at b (log_next x)) (h ∷ hs)) e c;
      inside = j;
      few = omega (arith, l);
      places = u;
      gives = sym (met_append t whole (log_row b (h ∷ hs) used)) ∙ ap (λ x. met_all t (entries_of b x 0 (entries_in x.size) ++ log_row b (h ∷ hs) used)) (sym e) ∙ q;
    },
  )

  pub ahead_more : (p : ℕ) (next : Span) (u : Tally) → Ahead b list count n f t → (EndsLow f → u ≡ met_all t whole)
      → (EndsLow f → p ≡ log_next f) → next ≡ span_at b p → Ahead b list count m next u
  ahead_more p next u a meets place reads =
      let (h, on) = goes_on a.fragments a.used a.follow a.inside a.few a.places a.gives in
      rw (reads, place h, meets h) on

-- at first the whole log is ahead
used_all : (fs : List Span) (used : ℕ) → used ≤ entries_in (last_of (span 0 0) fs).size → Used used fs
used_all [] used u = tt
used_all (f ∷ fs) used u = u

pub ahead_all : (b : List ℕ) (s : Section) (k list : ℕ) (first : Span) → opened b ≡ done s → first ≡ s.header.log → k ≤ s.header.count
    → Ahead b list (count_at s.log k list) 2048 first (tally list k 0)
ahead_all b s k list first o e l =
    let m = (opens_means b s o).0 in
    let p = m.log.part in
    record {
      fragments = s.log.fragments;
      used = s.log.used;
      follow = subst (λ f. Follow b f s.log.fragments) (sym e) p.chain;
      inside = All-weaker (Inside 12 s.header.end) (Inside 12 (2 ^ 40)) (λ f i. (i.0, omega (arith, i.1, m.header.most))) s.log.fragments p.inside;
      few = p.few;
      places = used_all s.log.fragments s.log.used p.places;
      gives = ap (met_all (tally list k 0)) (p.row ∙ append-nil (flat (map closed s.log.transactions)))
          ∙ met_transactions list k 0 s.log.transactions p.lists (omega (arith, l, m.log.finished));
    }
