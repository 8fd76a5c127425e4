-- What reading a log tells: the log is right, or this is the first rule that it breaks.
use Rattle.std.proofs.Common.{◌≡◌, ℕ, zero, suc, ◌+◌, ◌<◌, ◌≤◌, false, not, eqb, leb, ◌≢◌, List, [], ◌∷◌, ◌++◌, map, length, sym, refl, ap, ◌∙◌, subst, arith}
use Rattle.std.specs.List.{AllByRecursion}
use Rattle.std.proofs.lemmas.List.{append_assoc, append-nil, length_push}
use Rattle.std.proofs.lemmas.Bool.Decides.{nat_tests}
use Rattle.std.proofs.lemmas.Bool.{cond_both, eqb-true, eqb-false, leb-true, leb-false}
use Rattle.std.proofs.ByRecursion.{All-append}
use Rattle.model.specs.declared.types.Span.{Span}
use Rattle.model.specs.declared.types.Entry.{Entry}
use Rattle.model.specs.declared.types.Fault.{Fault}
use Rattle.model.specs.declared.types.Header.{Header}
use Rattle.model.specs.Faults.{Outcome, done, refused, then}
use Rattle.model.specs.References.{span, span_at}
use Rattle.model.specs.Headers.{header_span}
use Rattle.model.specs.LogFragments.{entry_at, sentinel, entries_in, entry_place, log_next}
use Rattle.model.specs.Section.{Log, flat, last_of, latest}
use Rattle.model.specs.OpenedLog.{Reading, LogPart, finished, unfinished, log_entries, log_from, reading, log_goes}
use Rattle.model.specs.Means.{Inside, log_row, closed, CountsLists, Rising, PartOfLog, Logs}
use Rattle.model.specs.Breaks.{Misplaced, Placed, log_field, log_reference, LogBreaks, fragment, sum, backward}
use Rattle.meaning.proofs.Base.{pairs_push}
use Rattle.meaning.proofs.Places.{place_tells, full_tells}
use Rattle.meaning.proofs.Growth.{last_push, row_push, row_next, chain_next, rising_row}
use Rattle.meaning.proofs.Members.{flat_push}
use Rattle.meaning.proofs.ReadLog.{log_is, closed_push}

-- entries ----------------------------------------------------------------------------------------------------------

-- the entries read so far, sentinels and all
abbrev pub row : List (List Entry) → List Entry → List Entry
row ts pending = flat (map closed ts) ++ pending

row_sentinel : (ts : List (List Entry)) (pending : List Entry) → row (ts ++ (pending ∷ [])) [] ≡ row ts pending ++ (sentinel pending ∷ [])
row_sentinel ts pending =
    append-nil (flat (map closed (ts ++ (pending ∷ [])))) ∙ closed_push ts pending ∙ sym (append_assoc (flat (map closed ts)) pending (sentinel pending ∷ []))

row_count : (ts : List (List Entry)) (pending : List Entry) (e : Entry) → row ts (pending ++ (e ∷ [])) ≡ row ts pending ++ (e ∷ [])
row_count ts pending e = sym (append_assoc (flat (map closed ts)) pending (e ∷ []))

pub record Fair (ts : List (List Entry)) (pending : List Entry) : Type 0 where
  pub lists : AllByRecursion CountsLists ts
  pub pending_lists : CountsLists pending
  pub rising : Rising [] (flat ts ++ pending)

fair_count : (ts : List (List Entry)) (pending : List Entry) (e : Entry) → Fair ts pending → e.source ≢ 1 → latest e.source 0 (flat ts ++ pending) < e.number
    → Fair ts (pending ++ (e ∷ []))
fair_count ts pending e f s l = record {
  lists = f.lists;
  pending_lists = All-append (λ (e : Entry). e.source ≢ 1) pending (e ∷ []) f.pending_lists (s, tt);
  rising = subst (λ w. Rising [] w) (append_assoc (flat ts) pending (e ∷ [])) (rising_row [] (flat ts ++ pending) (e ∷ []) f.rising (l, tt));
}

fair_sentinel : (ts : List (List Entry)) (pending : List Entry) → Fair ts pending → Fair (ts ++ (pending ∷ [])) []
fair_sentinel ts pending f = record {
  lists = All-append CountsLists ts (pending ∷ []) f.lists (f.pending_lists, tt);
  pending_lists = tt;
  rising = subst (λ w. Rising [] w) (sym (flat_push ts pending) ∙ sym (append-nil (flat (ts ++ (pending ∷ []))))) f.rising;
}

-- a log as far as it was read, and one entry or one fragment more -----------------------------------------------------

module _ (b : List ℕ) (h : Header) where
  part_entry : (fs : List Span) (g : Span) (i : ℕ) (ts us : List (List Entry)) (pending left : List Entry) → PartOfLog b h (fs ++ (g ∷ [])) i ts pending → i < entries_in g.size
      → Fair us left → row us left ≡ row ts pending ++ (entry_at b (entry_place g i) ∷ []) → PartOfLog b h (fs ++ (g ∷ [])) (i + 1) us left
  part_entry fs g i ts us pending left p l fair e = record {
    chain = p.chain;
    inside = p.inside;
    apart = p.apart;
    few = p.few;
    places = subst (λ (f : Span). i + 1 ≤ entries_in f.size) (sym (last_push (span 0 0) fs g)) (omega arith);
    row = row_push b fs g i 1 ∙ ap (λ z. z ++ (entry_at b (entry_place g i) ∷ [])) p.row ∙ sym e;
    lists = fair.lists;
    pending_lists = fair.pending_lists;
    rising = fair.rising;
  }

  part_fair : (fs : List Span) (i : ℕ) (ts : List (List Entry)) (pending : List Entry) → PartOfLog b h fs i ts pending → Fair ts pending
  part_fair fs i ts pending p = record { lists = p.lists; pending_lists = p.pending_lists; rising = p.rising }

  -- all entries of fs are read, and f is the next fragment
  abbrev Through : List Span → List (List Entry) → List Entry → Type 0
  Through fs ts pending = PartOfLog b h fs (entries_in (last_of (span 0 12) fs).size) ts pending

  part_fragment : (fs : List Span) (f : Span) (ts : List (List Entry)) (pending : List Entry) → span_at b 0xA0 ≡ h.log → Through fs ts pending
      → f ≡ log_reference b fs → Placed 12 h.end fs f → PartOfLog b h (fs ++ (f ∷ [])) 0 ts pending
  part_fragment [] f ts pending o p e g = record {
    chain = (e ∙ o, tt);
    inside = (g.inside, tt);
    apart = pairs_push (header_span ∷ []) f p.apart g.apart;
    few = omega arith;
    places = omega arith;
    row = p.row;
    lists = p.lists;
    pending_lists = p.pending_lists;
    rising = p.rising;
  }
  part_fragment (x ∷ fs) f ts pending o p e g =
      let n = length_push (x ∷ fs) f in
      let room = g.room in
      record {
        chain = chain_next b (span 0 0) h.log x fs f p.chain (sym e);
        inside = All-append (Inside 12 h.end) (x ∷ fs) (f ∷ []) p.inside (g.inside, tt);
        apart = pairs_push (header_span ∷ (x ∷ fs)) f p.apart g.apart;
        few = omega arith;
        places = omega arith;
        row = row_next b (span 0 12) x fs f 0 ∙ append-nil (log_row b (x ∷ fs) (entries_in (last_of (span 0 12) (x ∷ fs)).size)) ∙ p.row;
        lists = p.lists;
        pending_lists = p.pending_lists;
        rising = p.rising;
      }

  field_push : (fs : List Span) (f : Span) → log_next f ≡ log_field (fs ++ (f ∷ []))
  field_push [] f = refl
  field_push (x ∷ fs) f = ap log_next (sym (last_push x fs f))

  -- entries ----------------------------------------------------------------------------------------------------------------

  -- what the entries of the fragment g tell, behind the fragments fs
  abbrev PartTells : List Span → Span → Outcome LogPart → Type 0
  PartTells fs g (done (finished ts u)) = Logs b h (log_is (fs ++ (g ∷ [])) ts u)
  PartTells fs g (done (unfinished r)) = PartOfLog b h (fs ++ (g ∷ [])) (entries_in g.size) r.transactions r.pending × (length r.transactions < h.count)
  PartTells fs g (refused f) = LogBreaks b h f

  sentinel_is : (e : Entry) (pending : List Entry) → e.source ≡ 1 → not (eqb e.number (sentinel pending).number) ≡ false → sentinel pending ≡ e
  sentinel_is e pending s n = grind (arith, nat_tests)

  entries_tell : (fs : List Span) (g : Span) (n i : ℕ) (ts : List (List Entry)) (pending : List Entry) → PartOfLog b h (fs ++ (g ∷ [])) i ts pending → length ts < h.count
      → i + n ≡ entries_in g.size → PartTells fs g (log_entries n b h.count g i (reading ts pending))
  unfolding log_entries
  entries_tell fs g zero i ts pending p c e =
      let w : i ≡ entries_in g.size = omega arith in
      (subst (λ z. PartOfLog b h (fs ++ (g ∷ [])) z ts pending) w p, c)
  entries_tell fs g (suc n) i ts pending p c e =
      let x = entry_at b (entry_place g i) in
      let us = ts ++ (pending ∷ []) in
      let fair = part_fair (fs ++ (g ∷ [])) i ts pending p in
      let here : i < entries_in g.size = omega arith in
      cond_both (eqb x.source 1) _ _ (PartTells fs g) (λ s.
      cond_both (not (eqb x.number (sentinel pending).number)) _ _ (PartTells fs g)
      (λ d. sum fs g i ts pending p c here (eqb-true x.source 1 s) (grind (arith, nat_tests))) (λ d.
      let q : PartOfLog b h (fs ++ (g ∷ [])) (i + 1) us []
      = part_entry fs g i ts us pending [] p here (fair_sentinel ts pending fair)
      (row_sentinel ts pending ∙ ap (λ z. row ts pending ++ (z ∷ [])) (sentinel_is x pending (eqb-true x.source 1 s) d)) in
      let m = length_push ts pending in
      cond_both (eqb (length us) h.count) _ _ (PartTells fs g)
      (λ t. record { part = q; finished = eqb-true (length us) h.count t; ends = omega arith })
      (λ t. entries_tell fs g n (i + 1) us [] q (let d = eqb-false (length us) h.count t in omega arith) (omega arith))))
      (λ s. cond_both (leb x.number (latest x.source 0 (flat ts ++ pending))) _ _ (PartTells fs g)
      (λ d. backward fs g i ts pending p c here (eqb-false x.source 1 s) (leb-true x.number (latest x.source 0 (flat ts ++ pending)) d))
      (λ d. entries_tell fs g n (i + 1) ts (pending ++ (x ∷ []))
      (part_entry fs g i ts ts pending (pending ++ (x ∷ [])) p here
      (fair_count ts pending x fair (eqb-false x.source 1 s) (leb-false x.number (latest x.source 0 (flat ts ++ pending)) d)) (row_count ts pending x)) c (omega arith)))

  -- fragments --------------------------------------------------------------------------------------------------------------

  abbrev pub LogTells : Outcome Log → Type 0
  LogTells (done l) = Logs b h l
  LogTells (refused f) = LogBreaks b h f

  goes_tell : (n : ℕ) (fs : List Span) (f : Span) (a : Outcome LogPart) → PartTells fs f a
      → ((r : Reading) → Through (fs ++ (f ∷ [])) r.transactions r.pending → length r.transactions < h.count
      → LogTells (log_from n b h (fs ++ (f ∷ [])) (log_next f) (span_at b (log_next f)) r))
      → LogTells (then a (log_goes (log_from n b h) b fs f))
  goes_tell n fs f (done (finished ts u)) t k = t
  goes_tell n fs f (done (unfinished r)) t k = k r (subst (λ (g : Span). PartOfLog b h (fs ++ (f ∷ [])) (entries_in g.size) r.transactions r.pending) (sym (last_push (span 0 12) fs f)) t.0) t.1
  goes_tell n fs f (refused e) t k = t

  log_misplaced : (fs : List Span) (field : ℕ) (f : Span) (ts : List (List Entry)) (pending : List Entry) (e : Fault) → field ≡ log_field fs → f ≡ span_at b field
      → Through fs ts pending → length ts < h.count → Misplaced 12 h.end 2 0 field fs f e → LogBreaks b h e
  log_misplaced fs field f ts pending e x y p c m =
      fragment fs ts pending p c (subst (λ z. Misplaced 12 h.end 2 0 z fs (span_at b z) e) x (subst (λ (z : Span). Misplaced 12 h.end 2 0 field fs z e) y m))

  log_tell : span_at b 0xA0 ≡ h.log → (n : ℕ) (fs : List Span) (field : ℕ) (f : Span) (r : Reading) → n + length fs ≡ 2048 → field ≡ log_field fs → f ≡ span_at b field
      → Through fs r.transactions r.pending → length r.transactions < h.count → LogTells (log_from n b h fs field f r)
  unfolding log_from
  log_tell o zero fs field f r l x y p c =
      full_tells 12 h.end 2 0 field fs f LogTells (omega arith) (omega arith) (λ e m. log_misplaced fs field f r.transactions r.pending e x y p c m)
  log_tell o (suc n) fs field f r l x y p c =
      place_tells 12 h.end 2 0 field fs f LogTells (then (log_entries (entries_in f.size) b h.count f 0 r) (log_goes (log_from n b h) b fs f)) (omega arith) (omega arith)
      (λ e m. log_misplaced fs field f r.transactions r.pending e x y p c m)
      (λ g. goes_tell n fs f (log_entries (entries_in f.size) b h.count f 0 r)
      (entries_tell fs f (entries_in f.size) 0 r.transactions r.pending
      (part_fragment fs f r.transactions r.pending o p (y ∙ ap (λ z. span_at b z) x) g) c (omega arith))
      (λ r' p' c'. let m = length_push fs f in
      log_tell o n (fs ++ (f ∷ [])) (log_next f) (span_at b (log_next f)) r' (omega arith) (field_push fs f) refl p' c'))

  -- the whole log
  pub log_told : span_at b 0xA0 ≡ h.log → 1 ≤ h.count → LogTells (log_from 2048 b h [] 0xA0 h.log (reading [] []))
  log_told o c = log_tell o 2048 [] 0xA0 h.log (reading [] []) (omega arith) refl (sym o)
      (record { chain = tt; inside = tt; apart = (tt, tt); few = omega arith; places = omega arith; row = refl; lists = tt; pending_lists = tt; rising = tt }) (omega arith)
