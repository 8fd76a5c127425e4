-- Whatever a cut in a call leaves opens as a finished file: the old one, or the new one where a commit's new header stands.
use Rattle.std.proofs.Common.{◌≡◌, ℕ, ◌+◌, ◌⊎◌, List, [], ◌∷◌, ◌++◌, length, Some, None, Option, sym, refl, ap, ◌∙◌, subst, inl, inr, arith}
use Rattle.model.specs.Bytes.{Write, written, applied, Bytes}
use Rattle.model.specs.Faults.{Outcome, done}
use Rattle.model.specs.Section.{Section}
use Rattle.model.specs.Opened.{opened}
use Rattle.model.specs.Looks.{Look, looks_to, look}
use Rattle.model.specs.Layouts.{Add, blank}
use Rattle.model.specs.Saving.{planned, layout}
use Rattle.model.specs.Committing.{logged}
use Rattle.model.specs.Calls.{Draft, Access, State, Call, open_file, add, commit, saw, Effect, commit_checks, effect, writes_of, writes, after}
use Rattle.model.specs.Journal.{Fit, shut, LookAlike}
use Rattle.model.specs.Cuts.{WritesHeader, Cut, old_header, new_header, torn, raised}
use Rattle.model.specs.Contents.{held, saved, drafted}
use Rattle.model.specs.Laws.{WritesFree, CommitsTo, CommitReads, LooksGrow, adds_of, Survives, CutsSurvive}
use Rattle.meaning.proofs.Base.{Clean, all_front}
use Rattle.lasting.proofs.Steps.{Steps}
use Rattle.lasting.proofs.Untouched.{SameFile, not_header, cut_kept}
use Rattle.lasting.proofs.Effects.{open_state, Does, stays, rests, grows, ends}
use Rattle.lasting.proofs.Opening.{opened_answer, opened_look, sees}
use Rattle.lasting.proofs.InDraft.{drafted_bytes, Drafting, log_writes, last_write, committed_bytes, mid_same, mid_long, next_step, logs_step, logs_same, committing_is, committed_is, last_is_header}
use Rattle.lasting.proofs.Sounds.{does_here, sound_drafting, of_sound}

-- ---- lists

never_empty : {X : Type 0} (xs : List X) (y : X) (ys : List X) → [] ≡ xs ++ (y ∷ ys) → ⊥
never_empty [] y ys h = let z : ◌≡◌ {A = ℕ} 0 1 = cc in omega arith
never_empty (x ∷ xs) y ys h = let z : ◌≡◌ {A = ℕ} 0 1 = cc in omega arith

-- the place of w in a list that ends in h: at the end, or before it
at_last : {X : Type 0} (l : List X) (h : X) (before : List X) (w : X) (later : List X) → l ++ (h ∷ []) ≡ before ++ (w ∷ later)
    → ((before ≡ l) × (w ≡ h)) ⊎ ((rest : List X) × (l ≡ before ++ (w ∷ rest)))
at_last [] h [] w later e = let q : w ≡ h = cc in inl (refl, q)
at_last [] h (x ∷ before) w later e = let q : [] ≡ before ++ (w ∷ later) = cc in absurd (never_empty before w later q)
at_last (x ∷ l) h [] w later e = let q : x ≡ w = cc in inr (l, ap (λ y. y ∷ l) q)
at_last (x ∷ l) h (y ∷ before) w later e =
    let q : x ≡ y = cc in
    let r : l ++ (h ∷ []) ≡ before ++ (w ∷ later) = cc in
    elim (at_last l h before w later r) [
      | inl (a, b) ↦ inl (cc, b)
      | inr (rest, a) ↦ inr (rest, cc)
    ]

-- ---- cuts

-- a cut in a write that is not the header's does not raise the count
not_raised : (token : Draft) (guid b : List ℕ) (w : Write) (t : List ℕ) → (WritesHeader w → ⊥) → (cut : Cut b w t) → raised (commit token guid) cut ≡ 0
not_raised token guid b w t h (old_header k) = refl
not_raised token guid b w t h (new_header k) = absurd (h k)
not_raised token guid b w t h (torn k c d e f) = refl

-- the open draft's nodes are those of its adds
drafted_is : (ceiling : ℕ) (b : List ℕ) (s : Section) (mark begins : ℕ) (draft : Option (List Add)) (id : ℕ) → opened b ≡ done s
    → drafted (open_state ceiling b (record { mark = mark; begins = begins; draft = draft })) id ≡ saved (blank s) (adds_of draft) id
unfolding drafted saved
drafted_is ceiling b s mark begins None id h = rw h
drafted_is ceiling b s mark begins (Some adds) id h = rw h

module _ {ceiling : ℕ} {b : List ℕ} {s : Section} (d : Access) (x : Drafting ceiling b s (adds_of d.draft)) where
  abbrev adds : List Add
  adds = adds_of d.draft

  abbrev mid : List ℕ
  mid = drafted_bytes b s adds

  abbrev here : State
  here = open_state ceiling mid d

  -- looks after opening t are looks here, if they are looks over the bytes here
  looks_here : (t : List ℕ) (section : Section) → opened t ≡ done section → (mark k : ℕ) → ((l : Look) → looks_to l ≡ k → look t l ≡ look mid l)
      → LookAlike k (after (shut t ceiling) (open_file mark)) here
  looks_here t section o mark k h l q = opened_look t section o ceiling mark l ∙ ap saw (h l q) ∙ sym (sees ceiling mid d l)

  -- a cut that leaves the finished file
  unharmed : (c : Call) {z : List ℕ} {w : Write} {t : List ℕ} (cut : Cut z w t) → raised c cut ≡ 0 → SameFile mid t s → (mark : ℕ)
      → Survives here s.header.count ceiling c cut mark
  unharmed c {z} {w} {t} cut r f mark = record {
    section = s;
    opens = opened_answer t s f.opens ceiling mark;
    count = omega (arith, r);
    looks = λ k one h. looks_here t s f.opens mark k (λ l q. f.looks l);
    grown = λ q. absurd (omega (arith, q, r));
  }

  -- a cut in a step that does not raise the count
  cut_step : (c : Call) (to : ℕ) (ws before later : List Write) (w : Write) → Steps s (layout s adds).end to ws → ws ≡ before ++ (w ∷ later)
      → (t : List ℕ) (cut : Cut (applied mid before) w t) → ((WritesHeader w → ⊥) → raised c cut ≡ 0) → (mark : ℕ) → Survives here s.header.count ceiling c cut mark
  cut_step c to ws before later w st e t cut r mark =
      let opens = (mid_same x).opens in
      let split = subst (Steps s (layout s adds).end to) e st in
      let (y, z) = all_front (WritesFree s) before (w ∷ later) split.free in
      unharmed c cut (r (not_header mid s opens w z.0)) (cut_kept mid s opens (layout s adds).end to (mid_long x) before later w t split cut) mark

  module _ (reads : CommitReads) (grow : LooksGrow) where
    module _ (token : Draft) (guid : List ℕ) (gb : Bytes guid) (gl : length guid ≡ 16) (p : Clean (commit_checks ceiling s adds guid)) where
      -- the new header stands
      grown_by : (c : Call) {z : List ℕ} {w : Write} {t : List ℕ} (cut : Cut z w t) → raised c cut ≡ 1 → t ≡ committed_bytes b s adds guid → (mark : ℕ)
          → Survives here s.header.count ceiling c cut mark
      grown_by c {z} {w} {t} cut r e mark =
          let k : CommitsTo b s adds (committed_bytes b s adds guid) guid = reads b ceiling s adds guid x.are_bytes gb gl x.opens x.dones p in
          let o : opened t ≡ done k.section = ap opened e ∙ k.opens in
          record {
            section = k.section;
            opens = opened_answer t k.section o ceiling mark;
            count = k.count ∙ ap (λ n. s.header.count + n) (sym r);
            looks = λ i one h. looks_here t k.section o mark i (λ l q.
                ap (λ y. look y l) e ∙ grow b ceiling s adds guid x.are_bytes gb gl x.opens x.dones p l (omega arith) (omega arith) ∙ sym ((mid_same x).looks l));
            grown = λ q id.
                ap (λ y. held y id) e ∙ k.grown id ∙ ap (λ ns. ns ++ saved (blank s) adds id) (sym ((mid_same x).holds id))
                ∙ ap (λ ns. held mid id ++ ns) (sym (drafted_is ceiling mid s d.mark d.begins d.draft id (mid_same x).opens));
          }

      -- a cut in the header's write
      cut_header : (z : List ℕ) (w : Write) (t : List ℕ) → z ≡ applied mid (log_writes s adds) → w ≡ last_write b s adds guid
          → (cut : Cut z w t) (mark : ℕ) → Survives here s.header.count ceiling (commit token guid) cut mark
      cut_header z w t q r (old_header k) mark = unharmed (commit token guid) (old_header k) refl (subst (λ y. SameFile mid y s) (sym q) (logs_same x)) mark
      cut_header z w t q r (new_header k) mark =
          let e : written z w.place w.new ≡ written (applied mid (log_writes s adds)) 0 (last_write b s adds guid).new = cc in
          grown_by (commit token guid) (new_header k) refl (e ∙ sym (committed_is x guid)) mark
      cut_header z w t q r (torn k c d e f) mark = absurd (k (subst WritesHeader (sym r) (last_is_header x guid gb gl)))

    survives : (c : Call) (o : Outcome Effect) → Does ceiling mid s d c o → (before later : List Write) (w : Write) → writes_of o ≡ before ++ (w ∷ later)
        → (t : List ℕ) (cut : Cut (applied mid before) w t) (mark : ℕ) → Survives here s.header.count ceiling c cut mark
    survives c o (stays i j k) before later w e t cut mark = absurd (never_empty before w later (sym j ∙ e))
    survives c o (rests a n draft i j) before later w e t cut mark = absurd (never_empty before w later e)
    survives c o (grows token a y i fit p) before later w e t cut mark =
        cut_step (add token a) (planned (layout s adds) a).layout.end (planned (layout s adds) a).writes before later w (next_step x a fit p) e t cut (λ h. refl) mark
    survives c o (ends token guid gb gl p) before later w e t cut mark =
        let raises = λ (h : WritesHeader w → ⊥). not_raised token guid (applied mid before) w t h cut in
        elim (at_last (log_writes s adds) (last_write b s adds guid) before w later (sym (committing_is x guid) ∙ e)) [
          | inl (q, r) ↦ cut_header token guid gb gl p (applied mid before) w t (ap (applied mid) q) r cut mark
          | inr (rest, q) ↦ cut_step (commit token guid) (logged s (layout s adds)).end (log_writes s adds) before rest w (logs_step x) q t cut raises mark
        ]

    survives_here : (c : Call) → Fit c → (before later : List Write) (w : Write) → writes here c ≡ before ++ (w ∷ later)
        → (t : List ℕ) (cut : Cut (applied mid before) w t) (mark : ℕ) → Survives here s.header.count ceiling c cut mark
    unfolding writes
    survives_here c fit = survives c (effect here c) (does_here d x c fit)

-- every cut in the call c
abbrev EachCut : Call → ℕ → State → ℕ → Type 0
EachCut c ceiling st n = (before later : List Write) (w : Write) → writes st c ≡ before ++ (w ∷ later)
    → (t : List ℕ) (cut : Cut (applied st.bytes before) w t) (mark : ℕ) → Survives st n ceiling c cut mark

pub cuts_survive : CommitReads → LooksGrow → CutsSurvive
cuts_survive reads grow st n ceiling c k fit = of_sound (EachCut c ceiling) k (survives_here k.access (sound_drafting k) reads grow c fit)
