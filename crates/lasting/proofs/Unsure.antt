-- What a disc keeps of writes that no sync has followed leaves the finished file as it was: all of them go where nothing finished stands.
use Rattle.std.proofs.Common.{◌≡◌, ℕ, ◌+◌, List, [], ◌∷◌, ◌++◌, Some, refl, sym, ap, append_assoc, ◌∙◌, subst, arith}
use Rattle.std.specs.List.{AllByRecursion}
use Rattle.std.proofs.ByRecursion.{All-append}
use Rattle.model.specs.Bytes.{Write, applied}
use Rattle.model.specs.Faults.{Outcome}
use Rattle.model.specs.Section.{Section}
use Rattle.model.specs.Looks.{Look}
use Rattle.model.specs.Layouts.{Add}
use Rattle.model.specs.Calls.{Access, State, Call, looking, saw, Effect, effect, answer_of, writes_of, access_after, answer, writes, after}
use Rattle.model.specs.Journal.{Fit, commits}
use Rattle.model.specs.Cuts.{WritesHeader}
use Rattle.model.specs.Laws.{WritesFree, adds_of, Sound}
use Rattle.meaning.proofs.Base.{all_front}
use Rattle.lasting.specs.Uncommitted.{after_all, Uncommitted}
use Rattle.lasting.specs.Unsynced.{Unsure, writes_of_all, Unharmed, UnsyncedHarmless}
use Rattle.lasting.proofs.Untouched.{all_outside, kept}
use Rattle.lasting.proofs.Effects.{open_state, Does, stays, rests, grows, ends}
use Rattle.lasting.proofs.Opening.{opened_answer, opened_look, sees}
use Rattle.lasting.proofs.InDraft.{drafted_bytes, Drafting, log_writes, last_write, mid_same, rested, next_step, next_is, next_drafting, logs_step, committing_is, last_is_header}
use Rattle.lasting.proofs.Sounds.{does_here, sound_drafting, of_sound}

-- ---- lists

-- what holds of each but the last holds of each in a front that the last is not in
all_but_last : {X : Type 0} (P Q : X → Type 0) (l : List X) (h : X) (before later : List X) → l ++ (h ∷ []) ≡ before ++ later
    → AllByRecursion P l → Q h → AllByRecursion (λ x. Q x → ⊥) before → AllByRecursion P before
all_but_last P Q l h [] later e a q n = tt
all_but_last P Q [] h (x ∷ before) later e a q n = let same : h ≡ x = cc in absurd (n.0 (subst Q same q))
all_but_last P Q (y ∷ l) h (x ∷ before) later e a q n =
    let same : y ≡ x = cc in
    let rest : l ++ (h ∷ []) ≡ before ++ later = cc in
    (subst P same a.0, all_but_last P Q l h before later rest a.1 q n.1)

-- of no writes, every front is empty
none_before : {X : Type 0} (P : X → Type 0) (before later : List X) → [] ≡ before ++ later → AllByRecursion P before
none_before P [] later e = tt
none_before P (x ∷ before) later e = let z : ◌≡◌ {A = ℕ} 0 1 = cc in absurd (omega arith)

-- ---- states that hold the finished file s

-- a state of an opened file that holds s, with a draft or without
pub record Holding (s : Section) (ceiling : ℕ) (st : State) : Type 0 where
  pub access : Access
  pub start : List ℕ
  pub drafting : Drafting ceiling start s (adds_of access.draft)
  pub is : st ≡ open_state ceiling (drafted_bytes start s (adds_of access.draft)) access

module _ {ceiling : ℕ} {b : List ℕ} {s : Section} (d : Access) (x : Drafting ceiling b s (adds_of d.draft)) where
  abbrev mid : List ℕ
  mid = drafted_bytes b s (adds_of d.draft)

  -- the writes of a call before a header's lie in the free zone
  free_before : (c : Call) (o : Outcome Effect) → Does ceiling mid s d c o → (before later : List Write) → writes_of o ≡ before ++ later
      → AllByRecursion (λ w. WritesHeader w → ⊥) before → AllByRecursion (WritesFree s) before
  free_before c o (stays i j k) before later e n = none_before (WritesFree s) before later (sym j ∙ e)
  free_before c o (rests a m draft i j) before later e n = none_before (WritesFree s) before later e
  free_before c o (grows token a y i fit p) before later e n = (all_front (WritesFree s) before later (subst (AllByRecursion (WritesFree s)) e (next_step x a fit p).free)).0
  free_before c o (ends token guid gb gl p) before later e n =
      let adds = adds_of d.draft in
      all_but_last (WritesFree s) WritesHeader (log_writes s adds) (last_write b s adds guid) before later (sym (committing_is x guid) ∙ e) (logs_step x).free (last_is_header x guid gb gl) n

  -- and all of one that commits nothing
  free_quiet : (c : Call) (o : Outcome Effect) → Does ceiling mid s d c o → commits (answer_of o) ≡ 0 → AllByRecursion (WritesFree s) (writes_of o)
  free_quiet c o (stays i j k) q = subst (AllByRecursion (WritesFree s)) (sym j) tt
  free_quiet c o (rests a m draft i j) q = tt
  free_quiet c o (grows token a y i fit p) q = (next_step x a fit p).free
  free_quiet c o (ends token guid gb gl p) q = absurd (omega arith)

  -- which holds s afterwards
  abbrev Then : Outcome Effect → Type 0
  Then o = Holding s ceiling (record { bytes = applied mid (writes_of o); ceiling = ceiling; access = access_after (Some d) o })

  then_holds : (c : Call) (o : Outcome Effect) → Does ceiling mid s d c o → commits (answer_of o) ≡ 0 → Then o
  unfolding applied
  then_holds c o (stays i j k) q = record { access = d; start = b; drafting = x; is = rw (j, k) }
  then_holds c o (rests a m draft i j) q = record {
    access = record { mark = d.mark; begins = m; draft = draft };
    start = mid;
    drafting = subst (Drafting ceiling mid s) (sym j) (rested x);
    is = ap (λ as'. open_state ceiling (drafted_bytes mid s as') (record { mark = d.mark; begins = m; draft = draft })) (sym j);
  }
  then_holds c o (grows token a y i fit p) q =
      let then_d : Access = record { mark = d.mark; begins = d.begins; draft = Some (adds_of d.draft ++ (a ∷ [])) } in
      record { access = then_d; start = b; drafting = next_drafting x a fit p; is = ap (λ bs. open_state ceiling bs then_d) (next_is x a fit p) }
  then_holds c o (ends token guid gb gl p) q = absurd (omega arith)

-- the same of any such state
abbrev FreeBefore : Section → Call → State → Type 0
FreeBefore s c st = (before later : List Write) → writes st c ≡ before ++ later → AllByRecursion (λ w. WritesHeader w → ⊥) before → AllByRecursion (WritesFree s) before

abbrev QuietHolds : Section → ℕ → Call → State → Type 0
QuietHolds s ceiling c st = commits (answer st c) ≡ 0 → AllByRecursion (WritesFree s) (writes st c) × Holding s ceiling (after st c)

holding_before : {s : Section} {ceiling : ℕ} {st : State} (c : Call) → Fit c → Holding s ceiling st → FreeBefore s c st
unfolding writes
holding_before {s} {ceiling} c fit h =
    let here = open_state ceiling (drafted_bytes h.start s (adds_of h.access.draft)) h.access in
    subst (FreeBefore s c) (sym h.is) (free_before h.access h.drafting c (effect here c) (does_here h.access h.drafting c fit))

holding_quiet : {s : Section} {ceiling : ℕ} {st : State} (c : Call) → Fit c → Holding s ceiling st → QuietHolds s ceiling c st
unfolding answer after writes
holding_quiet {s} {ceiling} c fit h =
    let here = open_state ceiling (drafted_bytes h.start s (adds_of h.access.draft)) h.access in
    let does = does_here h.access h.drafting c fit in
    subst (QuietHolds s ceiling c) (sym h.is) (λ q. (free_quiet h.access h.drafting c (effect here c) does q, then_holds h.access h.drafting c (effect here c) does q))

-- all writes of calls that commit nothing, and of one more those before a header's, lie in the free zone
all_free : {s : Section} {ceiling : ℕ} (st : State) (cs : List Call) → Holding s ceiling st → Uncommitted st cs → (c : Call) → Fit c → (before later : List Write)
    → writes (after_all st cs) c ≡ before ++ later → AllByRecursion (λ w. WritesHeader w → ⊥) before → AllByRecursion (WritesFree s) (writes_of_all st cs ++ before)
all_free st [] h u c fit before later e n = holding_before c fit h before later e n
all_free {s} st (x ∷ cs) h (xfit, quiet, u) c fit before later e n =
    let (free, next) = holding_quiet x xfit h quiet in
    let rest = all_free (after st x) cs next u c fit before later e n in
    subst (AllByRecursion (WritesFree s)) (sym (append_assoc (writes st x) (writes_of_all (after st x) cs) before)) (All-append (WritesFree s) (writes st x) (writes_of_all (after st x) cs ++ before) free rest)

-- ---- the file then

module _ {ceiling : ℕ} {b : List ℕ} {s : Section} (d : Access) (x : Drafting ceiling b s (adds_of d.draft)) where
  abbrev bytes : List ℕ
  bytes = drafted_bytes b s (adds_of d.draft)

  unharmed : (ws : List Write) → AllByRecursion (WritesFree s) ws → (t : List ℕ) → Unsure bytes ws t → (mark : ℕ) → Unharmed (open_state ceiling bytes d) s.header.count ceiling t mark
  unharmed ws free t u mark =
      let same = kept bytes s (mid_same x).opens t u.long (λ i not. u.outside i (all_outside s i ws not free)) in
      record {
        section = s;
        opens = opened_answer t s same.opens ceiling mark;
        count = refl;
        looks = λ l. opened_look t s same.opens ceiling mark l ∙ ap saw (same.looks l) ∙ sym (sees ceiling bytes d l);
      }

abbrev EachUnharmed : List Call → Call → ℕ → State → ℕ → Type 0
EachUnharmed cs c ceiling st n = Uncommitted st cs → Fit c → (before later : List Write) → writes (after_all st cs) c ≡ before ++ later → AllByRecursion (λ w. WritesHeader w → ⊥) before
    → (t : List ℕ) → Unsure st.bytes (writes_of_all st cs ++ before) t → (mark : ℕ) → Unharmed st n ceiling t mark

pub unsynced_harmless : UnsyncedHarmless
unsynced_harmless st n ceiling k cs u c fit =
    let x = sound_drafting k in
    let d = k.access in
    let here = open_state ceiling (drafted_bytes k.start k.section (adds_of d.draft)) d in
    let holds : Holding k.section ceiling here = record { access = d; start = k.start; drafting = x; is = refl } in
    of_sound (EachUnharmed cs c ceiling) k
    (λ v f before later e q t w mark. unharmed d x (writes_of_all here cs ++ before) (all_free here cs holds v c f before later e q) t w mark) u fit
