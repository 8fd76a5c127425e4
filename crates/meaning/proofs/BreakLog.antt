-- A log that breaks a rule is refused, with what the first broken rule tells.
use Rattle.std.proofs.Common.{◌≡◌, ℕ, zero, suc, ◌-◌, ◌<◌, ◌≤◌, ◌≢◌, List, [], ◌∷◌, ◌++◌, length, sym, refl, ap, ◌∙◌, arith}
use Rattle.std.proofs.lemmas.List.{length_push}
use Rattle.std.proofs.lemmas.Bool.Decides.{nat_tests}
use Rattle.model.specs.declared.types.Span.{Span}
use Rattle.model.specs.declared.types.Entry.{Entry}
use Rattle.model.specs.declared.types.Fault.{Fault}
use Rattle.model.specs.declared.types.Header.{Header}
use Rattle.model.specs.Faults.{fault, refused, then}
use Rattle.model.specs.References.{span, span_at}
use Rattle.model.specs.LogFragments.{entry_at, sentinel, entries_in, entry_place, log_next}
use Rattle.model.specs.Section.{flat, last_of, latest}
use Rattle.model.specs.OpenedLog.{log_entries, log_from, Reading, reading, log_goes}
use Rattle.model.specs.Means.{PartOfLog}
use Rattle.model.specs.Breaks.{Misplaced, LogBreaks, fragment, sum, backward}
use Rattle.meaning.proofs.Growth.{last_push}
use Rattle.meaning.proofs.Places.{misplaced_refused, full_refused}
use Rattle.meaning.proofs.ReadLog.{log_step, log_part_read, entries_over}

step_sum : (n : ℕ) (b : List ℕ) (count : ℕ) (f : Span) (i : ℕ) (ts : List (List Entry)) (pending : List Entry) → (entry_at b (entry_place f i)).source ≡ 1
    → (entry_at b (entry_place f i)).number ≢ (sentinel pending).number → log_entries (suc n) b count f i (reading ts pending) ≡ refused (fault 6 2 (entry_place f i) 0)
unfolding log_entries
step_sum n b count f i ts pending s d = grind (arith, nat_tests)

step_backward : (n : ℕ) (b : List ℕ) (count : ℕ) (f : Span) (i : ℕ) (ts : List (List Entry)) (pending : List Entry) → (entry_at b (entry_place f i)).source ≢ 1
    → (entry_at b (entry_place f i)).number ≤ latest (entry_at b (entry_place f i)).source 0 (flat ts ++ pending)
    → log_entries (suc n) b count f i (reading ts pending) ≡ refused (fault 7 2 (entry_place f i) 0)
unfolding log_entries
step_backward n b count f i ts pending s d = grind (arith, nat_tests)

log_none : (b : List ℕ) (h : Header) (fs : List Span) (field : ℕ) (f : Span) (r : Reading) (e : Fault) → 2048 ≤ length fs → Misplaced 12 h.end 2 0 field fs f e
    → log_from zero b h fs field f r ≡ refused e
unfolding log_from
log_none b h fs field f r e l m = full_refused 12 h.end 2 0 field fs f e (omega arith) l m

module _ (b : List ℕ) (h : Header) where
  misplaced : (n : ℕ) (fs : List Span) (field : ℕ) (f : Span) (r : Reading) (e : Fault) → n ≡ 2048 - length fs → Misplaced 12 h.end 2 0 field fs f e
      → log_from n b h fs field f r ≡ refused e
  misplaced zero fs field f r e l m = log_none b h fs field f r e (omega arith) m
  misplaced (suc n) fs field f r e l m = log_step n b h fs field f r ∙ misplaced_refused 12 h.end 2 0 field fs f _ e (omega arith) (omega arith) m

  -- the next entry breaks a rule
  entry_breaks : (fs : List Span) (g : Span) (i : ℕ) (ts : List (List Entry)) (pending : List Entry) (e : Fault) → PartOfLog b h (fs ++ (g ∷ [])) i ts pending → length ts < h.count
      → i < entries_in g.size → ((n : ℕ) → log_entries (suc n) b h.count g i (reading ts pending) ≡ refused e)
      → log_from 2048 b h [] 0xA0 h.log (reading [] []) ≡ refused e
  entry_breaks fs g i ts pending e p c l k =
      let n = length_push fs g in
      let (front, last, read) = log_part_read b h (fs ++ (g ∷ [])) i ts pending p (omega arith) c in
      let one : entries_in g.size - i ≡ suc (entries_in g.size - i - 1) = omega arith in
      let go : (x : Span) → x ≡ g → log_entries (entries_in x.size - i) b h.count x i (reading ts pending) ≡ refused e
      = λ x q. ap (λ (x : Span). log_entries (entries_in x.size - i) b h.count x i (reading ts pending)) q
      ∙ ap (λ z. log_entries z b h.count g i (reading ts pending)) one ∙ k (entries_in g.size - i - 1) in
      let x = last_of (span 0 0) (fs ++ (g ∷ [])) in
      read ∙ ap (λ a. then a (log_goes (log_from (2048 - length (fs ++ (g ∷ []))) b h) b front x)) (go x (last_push (span 0 0) fs g))

  pub log_breaks : (e : Fault) → span_at b 0xA0 ≡ h.log → LogBreaks b h e → log_from 2048 b h [] 0xA0 h.log (reading [] []) ≡ refused e
  log_breaks e o (fragment [] ts pending p c m) =
      ap (λ (x : Span). log_from 2048 b h [] 0xA0 x (reading [] [])) (sym o) ∙ misplaced 2048 [] 0xA0 (span_at b 0xA0) (reading [] []) e (omega arith) m
  log_breaks e o (fragment (x ∷ fs) ts pending p c m) =
      let all = x ∷ fs in
      let g = last_of x fs in
      let N = entries_in g.size in
      let n = 2048 - length all in
      let (front, last, read) = log_part_read b h all N ts pending p (omega arith) c in
      read ∙ ap (λ a. then a (log_goes (log_from n b h) b front g)) (entries_over N b h.count g N (reading ts pending))
      ∙ ap (λ z. log_from n b h z (log_next g) (span_at b (log_next g)) (reading ts pending)) last
      ∙ misplaced n all (log_next g) (span_at b (log_next g)) (reading ts pending) e refl m
  log_breaks e o (sum fs g i ts pending p c l s d) =
      entry_breaks fs g i ts pending (fault 6 2 (entry_place g i) 0) p c l (λ n. step_sum n b h.count g i ts pending s d)
  log_breaks e o (backward fs g i ts pending p c l s d) =
      entry_breaks fs g i ts pending (fault 7 2 (entry_place g i) 0) p c l (λ n. step_backward n b h.count g i ts pending s d)
