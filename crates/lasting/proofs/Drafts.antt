-- Every write of a draft over an accepted file, and every write of its commit but the header's, goes to the file's free zone.
use Rattle.std.proofs.Common.{◌≡◌, ℕ, ◌-◌, ◌≤◌, true, cond, ltb, List, [], ◌∷◌, ◌++◌, length, take, drop, sym, refl, ap, ◌∙◌, arith}
use Rattle.std.proofs.lemmas.List.{append-nil, append_assoc, length-take, length-drop}
use Rattle.std.proofs.lemmas.Bool.{lt-ltb}
use Rattle.std.proofs.lemmas.Bool.Decides.{nat_tests}
use Rattle.std.proofs.ByRecursion.{All-map, All-append}
use Rattle.model.specs.declared.types.Span.{Span}
use Rattle.model.specs.declared.types.Entry.{Entry}
use Rattle.model.specs.Bytes.{put, behind}
use Rattle.model.specs.Faults.{done}
use Rattle.model.specs.References.{span, span_bytes}
use Rattle.model.specs.LogFragments.{entry_bytes, entries_in, entry_place, log_next, new_log_fragment}
use Rattle.model.specs.Section.{NodeList, Section}
use Rattle.model.specs.Opened.{opened}
use Rattle.model.specs.Layouts.{Add, Layout, tail_of, blank}
use Rattle.model.specs.Saving.{at_end, plan, planned, laid, layout}
use Rattle.model.specs.Committing.{new_entries, if_any, logged}
use Rattle.model.specs.Calls.{add_checks}
use Rattle.model.specs.Journal.{FitAdd}
use Rattle.model.specs.Laws.{in_log, last_fragment, WritesFree, DoneAdds, add_writes, DraftsWriteFree}
use Rattle.meaning.proofs.Base.{Clean}
use Rattle.meaning.proofs.Members.{In, all_from_in}
use Rattle.lasting.proofs.Places.{meant, LogEnd, list_end, log_end}
use Rattle.commits.proofs.Sizes.{length_span_bytes, length_entry_bytes}
use Rattle.commits.proofs.Sums.{entries_bytes}
use Rattle.lasting.proofs.Sizes.{piece_ends, span_bytes_bytes, log_fragment_bytes}
use Rattle.lasting.proofs.Steps.{Steps, steps_append, steps_none, steps_at_end, steps_within}
use Rattle.lasting.proofs.Adds.{old, TailHeld, DraftHeld, Kept, kept_planned}

-- ---- one add more at the end of a draft

pub writes_push : (y : Layout) (adds : List Add) (a : Add) → add_writes y (adds ++ (a ∷ [])) ≡ add_writes y adds ++ (planned (laid y adds) a).writes
unfolding laid
writes_push y [] a = append-nil (planned y a).writes
writes_push y (x ∷ xs) a =
    ap (λ ws. (planned y x).writes ++ ws) (writes_push (planned y x).layout xs a)
    ∙ sym (append_assoc (planned y x).writes (add_writes (planned y x).layout xs) (planned (laid (planned y x).layout xs) a).writes)

pub adds_push : (ceiling : ℕ) (y : Layout) (adds : List Add) (a : Add) → DoneAdds ceiling y adds → FitAdd a → Clean (add_checks ceiling (laid y adds) a)
    → DoneAdds ceiling y (adds ++ (a ∷ []))
unfolding laid
adds_push ceiling y [] a h fit p = (fit, p, tt)
adds_push ceiling y (x ∷ xs) a (f, c, h) fit p = (f, c, adds_push ceiling (planned y x).layout xs a h fit p)

-- ---- all adds of a draft

laid_kept : {s : Section} (ceiling : ℕ) (adds : List Add) {y : Layout} → DraftHeld s y → DoneAdds ceiling y adds → Kept s y (plan (laid y adds) (add_writes y adds))
unfolding laid
laid_kept ceiling [] d p = record { held = d; steps = steps_none }
laid_kept ceiling (a ∷ more) d (f, c, p) =
    let k = kept_planned ceiling a d f c in
    let r = laid_kept ceiling more k.held p in
    record { held = r.held; steps = steps_append k.steps r.steps }

-- ---- the log's writes

abbrev last_log : Section → Span
last_log s = last_fragment s.log.fragments

steps_rest : (s : Section) (y : Layout) (rest : List Entry) (r : Span) → LogEnd s → s.header.end ≤ y.end
    → Steps s y.end (cond (ltb 0 (length rest)) (behind (at_end y (new_log_fragment rest))) y.end)
    (if_any rest (at_end y (new_log_fragment rest) ∷ put (log_next (last_log s)) (span_bytes r) ∷ []))
steps_rest s y [] r g h = steps_none
steps_rest s y (e ∷ es) r g h =
    let size = g.size in
    let to = g.to in
    let used_to = g.used_to in
    let z = length_span_bytes r in
    let new = new_log_fragment (e ∷ es) in
    let p = piece_ends y new in
    let k : ltb 0 (length (e ∷ es)) ≡ true = lt-ltb 0 (length (e ∷ es)) (omega arith) in
    let next : Steps s (behind (at_end y new)) (behind (at_end y new)) (put (log_next (last_log s)) (span_bytes r) ∷ [])
    = steps_within (log_next (last_log s)) (span_bytes r) (omega arith) (span_bytes_bytes r) (λ i u v. in_log (omega arith) (omega arith)) in
    rw k (steps_append (steps_at_end y new h (log_fragment_bytes (e ∷ es))) next)

steps_fit : (s : Section) (a : ℕ) (fit : List Entry) → LogEnd s → s.header.end ≤ a → length fit ≤ entries_in (last_log s).size - s.log.used
    → Steps s a a (if_any fit (put (entry_place (last_log s) s.log.used) (entry_bytes fit) ∷ []))
steps_fit s a [] g h k = steps_none
steps_fit s a (e ∷ es) g h k =
    let size = g.size in
    let to = g.to in
    let used_to = g.used_to in
    let z = length_entry_bytes (e ∷ es) in
    steps_within (entry_place (last_log s) s.log.used) (entry_bytes (e ∷ es)) (omega arith) (entries_bytes (e ∷ es)) (λ i u v. in_log u (omega arith))

steps_logged : (s : Section) (y : Layout) → LogEnd s → s.header.end ≤ y.end → Steps s y.end (logged s y).end (logged s y).writes
steps_logged s y g d =
    let places = entries_in (last_log s).size - s.log.used in
    let es = new_entries y in
    let e : ltb 0 (length (drop places es)) ≡ ltb places (length es) = simp length-drop (grind (arith, nat_tests)) in
    let one = rw e at (steps_rest s y (drop places es) (span y.end 1024) g d) in
    let up = one.rises in
    steps_append one (steps_fit s (logged s y).end (take places es) g (omega arith) (simp length-take (omega arith)))

-- ---- over an accepted file

module _ (b : List ℕ) (s : Section) (opens : opened b ≡ done s) where
  held_tail : (l : NodeList) → In l s.lists → TailHeld s s.header.end (tail_of l)
  held_tail l i =
      let e = list_end (meant b s opens) l i in
      let from = e.free_from in
      record { grown = old l i refl (omega arith); size = e.size; to = e.to; free_from = omega arith; free_to = e.free_to }

  held_blank : DraftHeld s (blank s)
  held_blank = record {
    end = omega arith;
    tails = All-map (TailHeld s s.header.end) tail_of s.lists (all_from_in (λ l. TailHeld s s.header.end (tail_of l)) s.lists held_tail);
  }

  module _ (ceiling : ℕ) (adds : List Add) (dones : DoneAdds ceiling (blank s) adds) where
    -- the adds of a draft
    pub adds_step : Steps s s.header.end (layout s adds).end (add_writes (blank s) adds)
    adds_step = (laid_kept ceiling adds held_blank dones).steps

    -- one more
    pub add_step : (a : Add) → FitAdd a → Clean (add_checks ceiling (layout s adds) a)
        → Steps s (layout s adds).end (planned (layout s adds) a).layout.end (planned (layout s adds) a).writes
    add_step a fit c = (kept_planned ceiling a (laid_kept ceiling adds held_blank dones).held fit c).steps

    -- and commit, up to the header's write
    pub log_step : Steps s (layout s adds).end (logged s (layout s adds)).end (logged s (layout s adds)).writes
    log_step = steps_logged s (layout s adds) (log_end (meant b s opens)) adds_step.rises

pub drafts_write_free : DraftsWriteFree
drafts_write_free b ceiling s adds bytes opens dones =
    let one = adds_step b s opens ceiling adds dones in
    let two = log_step b s opens ceiling adds dones in
    All-append (WritesFree s) (add_writes (blank s) adds) (logged s (layout s adds)).writes one.free two.free
