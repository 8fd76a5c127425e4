-- What one call on a file leaves.
use Rattle.std.proofs.Common.{◌≡◌, ℕ, true, eqb, List, length, inl, inr, Some, None, Ok, Err, Option, Result, sym, refl, ap, ap₂, ◌∙◌, subst, Bool, false, cond, [], not, ◌||◌, ◌+◌, ◌^◌, nat_le}
use Rattle.std.specs.Bool.{◌==◌}
use Rattle.std.proofs.lemmas.Bool.{cases_Bool}
use Rattle.model.specs.declared.types.Fault.{Fault}
use Rattle.model.specs.Bytes.{Write, Bytes, applied}
use Rattle.model.specs.Faults.{Outcome, done, refused, then}
use Rattle.model.specs.Section.{Section}
use Rattle.model.specs.Opened.{opened}
use Rattle.model.specs.Layouts.{Add}
use Rattle.model.specs.Looks.{Look, Looked}
use Rattle.model.specs.Calls.{Draft, State, Call, open_file, begin, add, commit, abandon, looking, saw, saving, Answer, accepted, begun, committed, abandoned, refusal, Effect, access_of, when_open, in_draft, looked_at, effect, writes_of, writes, answer, after}
use Rattle.model.specs.Journal.{FitAdd, Fit}
use Rattle.refusals.specs.declared.calls.SaveFault.{SaveFault}
use Rattle.refusals.specs.CallRefusals.{save_told}
use Rattle.refusals.specs.declared.faults.OpenFault.{OpenFault}
use Rattle.refusals.specs.Refusals.{told}
use Rattle.tables.specs.declared.room.Room.{Room}
use Rattle.drafts.specs.declared.layout.DraftLayout.{DraftLayout}
use Rattle.section.specs.declared.access.Access.{Access}
use Rattle.section.specs.declared.access.Figures.{Figures}
use Rattle.section.specs.declared.drafting.Draft as token
use Rattle.section.specs.declared.files.File.{File}
use Rattle.section.specs.Figures.{figures_of}
use Rattle.section.specs.Keeping.{Sound}
use Rattle.section.specs.LookAnswers.{look_of}
use Rattle.section.specs.OpenAnswers.{opened_in, outcome, open_answer}
use Rattle.section.specs.SavingAnswers.{as_draft, begin_answer, add_answer, abandon_answer}
use Rattle.section.specs.States.{StandsFor, opened_state}
use Rattle.section.proofs.Calls.{refused_answer, refused_writes, refused_after, done_answer, done_writes}
use Rattle.section.proofs.RoomLaws.{room_accepts, room_refuses}
use Rattle.section.proofs.States.{stands_sound}
use Rattle.journals.specs.declared.calls.Call as code
use Rattle.journals.specs.declared.calls.Call.TheVariants as calls
use Rattle.journals.specs.declared.calls.Line.{Line}
use Rattle.journals.specs.declared.calls.Line.TheVariants as lines
use Rattle.journals.specs.declared.calls.Look as asked
use Rattle.journals.specs.declared.calls.Seen.{Seen}
use Rattle.journals.specs.Telling.{in_hand, look_as, seen_as, taking, beginning, call_as, TellsAnswer, hand_after}
use Rattle.journals.specs.Making.{StandsAt, Leaves}

-- a call of the rules, by its answer
leaves_call : (At : State → Type 0) (Wrote : List Write → Type 0) (st : State) (hand : Option Draft) (call : code.Call) (c : Call) (a : Line) (left : Option Draft) (x : Answer) → x ≡ answer st c → Fit c
    → TellsAnswer left a x → left ≡ hand_after hand c x → At (after st c) → Wrote (writes st c) → Leaves At Wrote st hand call (Some c) a left
leaves_call At Wrote st hand call c a left x e fit told held at wrote = (fit, subst (TellsAnswer left a) e told, held ∙ ap (hand_after hand c) e, at, wrote)

-- ---- calls that write nothing

cond_quiet : (b : Bool) (f : Fault) (o : Outcome Effect) → writes_of o ≡ [] → writes_of (cond b (refused f) o) ≡ []
cond_quiet true f o e = refl
cond_quiet false f o e = e

begin_in : (d : Rattle.model.specs.Calls.Access) (o : Option (List Add)) → writes_of (Rattle.model.specs.Calls.beginning d o) ≡ []
begin_in d None =
    let n = d.begins + 1 in
    cond_quiet (nat_le (2 ^ 64) n) (saving 23) (done (record { answer = begun (record { mark = d.mark; number = n }); writes = []; access = access_of d.mark n (Some []) })) refl
begin_in d (Some adds) = refl

begin_effect : (o : Option Rattle.model.specs.Calls.Access) → writes_of (when_open 4 o (λ d. Rattle.model.specs.Calls.beginning d d.draft)) ≡ []
begin_effect None = refl
begin_effect (Some d) = begin_in d d.draft

begin_quiet : (st : State) → writes st begin ≡ []
unfolding writes
begin_quiet st = begin_effect st.access

abandon_in : (d : Rattle.model.specs.Calls.Access) (t : Draft) (o : Option (List Add)) → writes_of (in_draft d t o (λ adds. done (record { answer = abandoned; writes = []; access = access_of d.mark d.begins None }))) ≡ []
abandon_in d t None = refl
abandon_in d t (Some adds) =
    cond_quiet (not (t.mark == d.mark) || not (t.number == d.begins)) (saving 16) (done (record { answer = abandoned; writes = []; access = access_of d.mark d.begins None })) refl

abandon_effect : (o : Option Rattle.model.specs.Calls.Access) (t : Draft)
    → writes_of (when_open 4 o (λ d. in_draft d t d.draft (λ adds. done (record { answer = abandoned; writes = []; access = access_of d.mark d.begins None })))) ≡ []
abandon_effect None t = refl
abandon_effect (Some d) t = abandon_in d t d.draft

abandon_quiet : (st : State) (t : Draft) → writes st (abandon t) ≡ []
unfolding writes
abandon_quiet st t = abandon_effect st.access t

pub look_quiet : (st : State) (l : Look) → writes st (looking l) ≡ []
unfolding writes
look_quiet st l = refl

-- ---- an opening

-- what an accepted opening does
abbrev pub opened_effect : ℕ → Section → Effect
opened_effect mark s = record { answer = accepted s; writes = []; access = access_of mark 0 None }

-- what an opening tells is a refusal or a section's figures
then_refused : (x : Outcome Section) (f : Fault) → refused f ≡ then x (λ s. done (figures_of s)) → x ≡ refused f
then_refused (done s) f e = absurd cc
then_refused (refused g) f e = let w : f ≡ g = cc in ap refused (sym w)

then_done : (x : Outcome Section) (f : Figures) → done f ≡ then x (λ s. done (figures_of s)) → (s : Section) × (x ≡ done s) × (f ≡ figures_of s)
then_done (done s) f e = (s, refl, cc)
then_done (refused g) f e = absurd cc

module _ (At : State → Type 0) (Wrote : List Write → Type 0) (st : State) (hand : Option Draft) (mark : ℕ) where
  -- it was refused, as the rules refuse it, or for want of room
  refused_leaves : (f : OpenFault) → ((told f).number == 100 ≡ true → st.access ≡ None) → ((told f).number == 100 ≡ false → effect st (open_file mark) ≡ refused (told f)) → At st → Wrote []
      → Leaves At Wrote st hand (calls.Open mark) (call_as hand (calls.Open mark) (lines.Opened (Err f))) (lines.Opened (Err f)) hand
  refused_leaves f shut rules at none = elim (cases_Bool (eqb (told f).number 100)) [
    | inl t ↦ subst (λ c. Leaves At Wrote st hand (calls.Open mark) (cond c None (Some (open_file mark))) (lines.Opened (Err f)) hand) (sym t) ((t, shut t), refl, at, none)
    | inr n ↦
        let r = rules n in
        subst (λ c. Leaves At Wrote st hand (calls.Open mark) (cond c None (Some (open_file mark))) (lines.Opened (Err f)) hand) (sym n)
        (leaves_call At Wrote st hand (calls.Open mark) (open_file mark) (lines.Opened (Err f)) hand (refusal (told f)) (refused_answer st (open_file mark) (told f) r) tt refl refl
        (subst At (sym (refused_after st (open_file mark) (told f) r)) at) (subst Wrote (sym (refused_writes st (open_file mark) (told f) r)) none))
  ]

  -- it was accepted
  accepted_leaves : (f : Figures) (s : Section) → f ≡ figures_of s → effect st (open_file mark) ≡ done (opened_effect mark s) → At (after st (open_file mark)) → Wrote []
      → Leaves At Wrote st hand (calls.Open mark) (Some (open_file mark)) (lines.Opened (Ok f)) hand
  accepted_leaves f s e goes at none =
      let x : Effect = opened_effect mark s in
      leaves_call At Wrote st hand (calls.Open mark) (open_file mark) (lines.Opened (Ok f)) hand (accepted s) (sym (done_answer st (open_file mark) x goes)) tt (s, e, refl) refl at
      (subst Wrote (sym (done_writes st (open_file mark) x goes)) none)

  opened_leaves : (b : List ℕ) (most : ℕ) (room : Room) (d : DraftLayout) (o : Option Access) (capacity : ℕ) (r : Result Figures OpenFault) → StandsFor b most room d o st → outcome r ≡ open_answer o capacity b
      → At (opened_state st mark r) → Wrote [] → Leaves At Wrote st hand (calls.Open mark) (call_as hand (calls.Open mark) (lines.Opened r)) (lines.Opened r) hand
  opened_leaves b most room d (Some a) capacity (Ok f) k e at none = absurd cc
  opened_leaves b most room d (Some a) capacity (Err f) k e at none =
      let is : saving 14 ≡ told f = cc in
      refused_leaves f (λ t. absurd (let w = rw (← is) at t in cc)) (λ n. rw k.sound.open' (ap refused is)) at none
  opened_leaves b most room d None capacity (Ok f) k e at none =
      let (s, opens, is) = then_done (opened_in capacity b) f e in
      let rules : opened b ≡ done s = room_accepts capacity b s opens in
      accepted_leaves f s is (rw (k, rules) refl) at none
  opened_leaves b most room d None capacity (Err f) k e at none =
      refused_leaves f (λ t. ap (λ (x : State). x.access) k) (λ n. let rules : opened b ≡ refused (told f) = room_refuses capacity b (told f) (then_refused (opened_in capacity b) (told f) e) n in rw (k, rules) refl) at none

-- ---- the other calls

-- what a look answers
look_answer : (b : List ℕ) (most : ℕ) (room : Room) (d : DraftLayout) (o : Option Access) (st : State) (l : Look) (r : Looked) → StandsFor b most room d o st → (Sound b room o → r ≡ look_of o b l) → saw r ≡ answer st (looking l)
unfolding answer
look_answer b most room d None st l r k e = ap saw (e tt) ∙ rw k refl
look_answer b most room d (Some a) st l r k e =
    ap saw (e (stands_sound b most room d (Some a) st k) ∙ sym (ap₂ (λ o c. looked_at o c l) k.sound.open' k.bytes))

module _ {S : Type 0} (bytes : S → List ℕ) (most : S → ℕ) (old : File S) (st : State) (k : StandsAt bytes most old st) where
  pub looks_as : (at : asked.Look) (l : Look) (r : Looked) → look_as at ≡ l → (Sound (bytes old.store) old.room old.access → r ≡ look_of old.access (bytes old.store) l) → saw r ≡ answer st (looking (look_as at))
  looks_as at l r i e = rw i (look_answer (bytes old.store) (most old.store) old.room old.draft old.access st l r k e)

  module _ (new : File S) (wrote : S → List Write → S → Type 0) where
    abbrev At : State → Type 0
    At = StandsAt bytes most new

    abbrev Wrote : List Write → Type 0
    Wrote ws = wrote old.store ws new.store

    -- a call of the rules without a write, on a store that stays
    quiet : (none : (s : S) → wrote s [] s) → new.store ≡ old.store → (ws : List Write) → ws ≡ [] → Wrote ws
    quiet none same ws e = subst Wrote (sym e) (subst (λ t. wrote old.store [] t) (sym same) (none old.store))

    pub open_leaves : ((s : S) → wrote s [] s) → new.store ≡ old.store → (hand : Option token.Draft) (mark capacity : ℕ) (r : Result Figures OpenFault)
        → outcome r ≡ open_answer old.access capacity (bytes old.store) → At (opened_state st mark r) → Leaves At Wrote st (in_hand hand) (calls.Open mark) (call_as (in_hand hand) (calls.Open mark) (lines.Opened r)) (lines.Opened r) (in_hand hand)
    open_leaves none same hand mark capacity r e at =
        opened_leaves At Wrote st (in_hand hand) mark (bytes old.store) (most old.store) old.room old.draft old.access capacity r k e at (quiet none same [] refl)

    -- a begin with no draft in hand
    pub begun_leaves : ((s : S) → wrote s [] s) → new.store ≡ old.store → (hand : Option token.Draft) (t : token.Draft) → hand ≡ None → begin_answer (Ok t) ≡ answer st begin → At (after st begin)
        → Leaves At Wrote st (in_hand hand) calls.Begin (beginning (in_hand hand)) (lines.Begun (Ok tt)) (Some (as_draft t))
    begun_leaves none same hand t i e s =
        rw i (leaves_call At Wrote st None calls.Begin begin (lines.Begun (Ok tt)) (Some (as_draft t)) (begun (as_draft t)) e tt refl refl s (quiet none same (writes st begin) (begin_quiet st)))

    pub not_begun_leaves : ((s : S) → wrote s [] s) → new.store ≡ old.store → (hand : Option token.Draft) (f : SaveFault) → hand ≡ None → begin_answer (Err f) ≡ answer st begin → At (after st begin)
        → Leaves At Wrote st (in_hand hand) calls.Begin (beginning (in_hand hand)) (lines.Begun (Err f)) None
    not_begun_leaves none same hand f i e s =
        rw i (leaves_call At Wrote st None calls.Begin begin (lines.Begun (Err f)) None (refusal (save_told f)) e tt refl refl s (quiet none same (writes st begin) (begin_quiet st)))

    -- a call that takes the draft in hand
    module _ (hand : Option token.Draft) (call : code.Call) (t : token.Draft) (held : hand ≡ Some t) where
      taken_leaves : (c : Draft → Call) (a : Line) (left : Option Draft) (x : Answer) → x ≡ answer st (c (as_draft t)) → Fit (c (as_draft t)) → TellsAnswer left a x
          → left ≡ hand_after (Some (as_draft t)) (c (as_draft t)) x → At (after st (c (as_draft t))) → Wrote (writes st (c (as_draft t))) → Leaves At Wrote st (in_hand hand) call (taking (in_hand hand) c) a left
      taken_leaves c a left x e fit told then s w = rw held (leaves_call At Wrote st (Some (as_draft t)) call (c (as_draft t)) a left x e fit told then s w)

      add_hand : (y : Draft) (new : Add) (r : Result (Option ℕ) SaveFault) → Some y ≡ hand_after (Some y) (add y new) (add_answer r)
      add_hand y new (Ok None) = refl
      add_hand y new (Ok (Some id)) = refl
      add_hand y new (Err f) = refl

      pub added_leaves : (new : Add) (left : token.Draft) (r : Result (Option ℕ) SaveFault) → left ≡ t → FitAdd new → add_answer r ≡ answer st (add (as_draft t) new) → At (after st (add (as_draft t) new))
          → Wrote (writes st (add (as_draft t) new)) → Leaves At Wrote st (in_hand hand) call (taking (in_hand hand) (λ d. add d new)) (lines.Added r) (Some (as_draft left))
      added_leaves new left r same fit e s w =
          rw same (taken_leaves (λ d. add d new) (lines.Added r) (Some (as_draft t)) (add_answer r) e fit refl (add_hand (as_draft t) new r) s w)

      pub committed_leaves : (guid : List ℕ) → Bytes guid → length guid ≡ 16 → committed ≡ answer st (commit (as_draft t) guid) → At (after st (commit (as_draft t) guid))
          → Wrote (writes st (commit (as_draft t) guid)) → Leaves At Wrote st (in_hand hand) call (taking (in_hand hand) (λ d. commit d guid)) (lines.Committed (Ok tt)) None
      committed_leaves guid f g e s w = taken_leaves (λ d. commit d guid) (lines.Committed (Ok tt)) None committed e (f, g) refl refl s w

      pub not_committed_leaves : (guid : List ℕ) (left : token.Draft) (f : SaveFault) → left ≡ t → Bytes guid → length guid ≡ 16 → refusal (save_told f) ≡ answer st (commit (as_draft t) guid)
          → At (after st (commit (as_draft t) guid)) → Wrote (writes st (commit (as_draft t) guid)) → Leaves At Wrote st (in_hand hand) call (taking (in_hand hand) (λ d. commit d guid)) (lines.Committed (Err f)) (Some (as_draft left))
      not_committed_leaves guid left f same x g e s w =
          rw same (taken_leaves (λ d. commit d guid) (lines.Committed (Err f)) (Some (as_draft t)) (refusal (save_told f)) e (x, g) refl refl s w)

      pub abandoned_leaves : ((s : S) → wrote s [] s) → new.store ≡ old.store → (r : Result (Unit {0}) SaveFault) → abandon_answer r ≡ answer st (abandon (as_draft t)) → At (after st (abandon (as_draft t)))
          → Leaves At Wrote st (in_hand hand) call (taking (in_hand hand) (λ d. abandon d)) (lines.Abandoned r) None
      abandoned_leaves none same r e s =
          taken_leaves (λ d. abandon d) (lines.Abandoned r) None (abandon_answer r) e tt refl refl s (quiet none same (writes st (abandon (as_draft t))) (abandon_quiet st (as_draft t)))

-- a look changes nothing
pub look_stays : (st : State) (l : Look) → after st (looking l) ≡ st
unfolding after writes applied
look_stays st l = refl

pub saw_leaves : {S : Type 0} (bytes : S → List ℕ) (most : S → ℕ) (f : File S) (st : State) → StandsAt bytes most f st → (wrote : S → List Write → S → Type 0) → ((s : S) → wrote s [] s)
    → (hand : Option token.Draft) (call : code.Call) (l : asked.Look) (r : Seen) → call ≡ calls.Look l → saw (seen_as r) ≡ answer st (looking (look_as l))
    → Leaves (StandsAt bytes most f) (λ ws. wrote f.store ws f.store) st (in_hand hand) call (call_as (in_hand hand) call (lines.Saw r)) (lines.Saw r) (in_hand hand)
saw_leaves bytes most f st k wrote none hand call l r i e =
    rw i (leaves_call (StandsAt bytes most f) (λ ws. wrote f.store ws f.store) st (in_hand hand) (calls.Look l) (looking (look_as l)) (lines.Saw r) (in_hand hand) (saw (seen_as r)) e tt refl refl
    (subst (StandsAt bytes most f) (sym (look_stays st (look_as l))) k) (subst (λ ws. wrote f.store ws f.store) (sym (look_quiet st (look_as l))) (none f.store)))
