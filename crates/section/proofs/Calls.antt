-- The state that an opened file stands for, and what a call makes of it: refused, nothing; done, what its effect says.
use Rattle.std.proofs.Common.{◌≡◌, ℕ, Bool, true, false, ◌&&◌, eqb, List, [], Some, None, IsErrAnd, Ok, Err, Option, Result, sym, refl, ap, ◌∙◌, subst, inl, inr, arith}
use Rattle.std.proofs.lemmas.Bool.{cases_Bool}
use Rattle.std.proofs.lemmas.Bool.Decides.{nat_tests}
use Rattle.model.specs.declared.types.Fault.{Fault}
use Rattle.model.specs.Bytes.{Write, applied}
use Rattle.model.specs.Faults.{Outcome, done, refused}
use Rattle.model.specs.Section.{Section}
use Rattle.model.specs.Opened.{opened}
use Rattle.model.specs.Layouts.{Add}
use Rattle.model.specs.Calls.{Access, State, Call, Answer, refusal, Effect, when_open, in_draft, saving, effect, answer, writes, after}
use Rattle.model.specs.Laws.{adds_of}
use Rattle.lasting.proofs.Effects.{open_state}
use Rattle.lasting.proofs.InDraft.{drafted_bytes, Drafting, mid_same}
use Rattle.lasting.proofs.Sounds.{sound_drafting, state_is}
use Rattle.refusals.specs.declared.calls.SaveFault.{SaveFault}
use Rattle.refusals.specs.declared.calls.SaveFault.TheVariants as save
use Rattle.refusals.specs.CallRefusals.{save_told}
use Rattle.tables.specs.declared.room.Room.{Room}
use Rattle.tables.specs.declared.room.Row.{Row}
use Rattle.drafts.specs.declared.layout.DraftLayout.{DraftLayout}
use Rattle.drafts.specs.Lays.{Lays}
use Rattle.drafts.specs.Rowed.{Rowed}
use Rattle.section.specs.declared.access.Access as code
use Rattle.section.specs.declared.drafting.Draft as token
use Rattle.section.specs.Keeping.{Keeps}
use Rattle.section.specs.States.{InDraft, Knows, StandsFor}
use Rattle.section.specs.SavingAnswers.{as_draft, owns, owned}

-- ---- a call by its effect

module _ (st : State) (c : Call) (f : Fault) (e : effect st c ≡ refused f) where
  pub refused_answer : refusal f ≡ answer st c
  unfolding answer
  refused_answer = rw e refl

  pub refused_writes : writes st c ≡ []
  unfolding writes
  refused_writes = rw e refl

  pub refused_after : after st c ≡ st
  unfolding after writes applied
  refused_after = rw e refl

module _ (st : State) (c : Call) (x : Effect) (e : effect st c ≡ done x) where
  pub done_answer : answer st c ≡ x.answer
  unfolding answer
  done_answer = rw e refl

  pub done_writes : writes st c ≡ x.writes
  unfolding writes
  done_writes = rw e refl

  pub done_after : after st c ≡ record { bytes = applied st.bytes x.writes; ceiling = st.ceiling; access = x.access }
  unfolding after writes
  done_after = rw e refl

-- a call on a file that is refused: told, and nothing else
module _ (b : List ℕ) (most : ℕ) (room : Room) (d : DraftLayout) (o : Option code.Access) (st : State) (k : StandsFor b most room d o st) (c : Call) (e : SaveFault) (refuses : effect st c ≡ refused (save_told e)) where
  pub refused_told : {T : Type 0} (said : Result T SaveFault → Answer) → ((x : SaveFault) → said (Err x) ≡ refusal (save_told x)) → (r : Result T SaveFault) → IsErrAnd r (λ x. x ≡ e) → said r ≡ answer st c
  refused_told said is (Ok x) i = absurd i
  refused_told said is (Err x) i = is x ∙ ap (λ z. refusal (save_told z)) i ∙ refused_answer st c (save_told e) refuses

  pub refused_stands : StandsFor b most room d o (after st c)
  refused_stands = subst (StandsFor b most room d o) (sym (refused_after st c (save_told e) refuses)) k

  pub refused_wrote : (Wrote : List Write → Type 0) → Wrote [] → Wrote (writes st c)
  refused_wrote Wrote none = subst Wrote (sym (refused_writes st c (save_told e) refuses)) none

-- ---- the state of an opened file

-- a draft over a finished file, as the state of a file that keeps what its bytes hold
pub knows_at : {most : ℕ} {start : List ℕ} {s : Section} (b : List ℕ) (room : Room) (d : DraftLayout) (a : code.Access) (y : Access) → Drafting most start s (adds_of y.draft) → b ≡ drafted_bytes start s (adds_of y.draft)
    → y.mark ≡ a.mark → y.begins ≡ a.begins → InDraft s room.lists d a.drafting y.draft → Keeps b s room a → Knows b most room d a (open_state most b y)
knows_at {most} {start} {s} b room d a y x e mark begins draft keeps = record {
  bytes = refl;
  ceiling = refl;
  finished = s.header.count;
  sound = record {
    access = y;
    open' = refl;
    start = start;
    section = s;
    are_bytes = x.are_bytes;
    finished = x.opens;
    count = refl;
    same_ceiling = refl;
    below_ceiling = rw e x.below;
    adds = x.dones;
    bytes = e;
  };
  mark = mark;
  begins = begins;
  draft = draft;
  keeps = keeps;
}

module _ {b : List ℕ} {most : ℕ} {room : Room} {d : DraftLayout} {a : code.Access} {st : State} (k : Knows b most room d a st) where
  pub is_state : st ≡ open_state most b k.sound.access
  is_state = state_is st.bytes b st.ceiling most st.access (Some k.sound.access) k.bytes k.ceiling k.sound.open'

  pub drafting : Drafting most k.sound.start k.sound.section (adds_of k.sound.access.draft)
  drafting = sound_drafting k.sound

  pub bytes_are : b ≡ drafted_bytes k.sound.start k.sound.section (adds_of k.sound.access.draft)
  bytes_are = sym k.bytes ∙ k.sound.bytes

  pub opens : opened b ≡ done k.sound.section
  opens = subst (λ c. opened c ≡ done k.sound.section) (sym bytes_are) (mid_same drafting).opens

-- ---- a call that takes a draft

-- what a call does once its draft is known to be the one open
abbrev pub Then : Type 0
Then = Access → List Add → Outcome Effect

abbrev pub with_draft : State → token.Draft → Then → Outcome Effect
with_draft st t k = when_open 4 st.access (λ d. in_draft d (as_draft t) d.draft (k d))

-- the draft is open: its adds are laid out, and the call goes on with them
pub record Goes {b : List ℕ} {most : ℕ} {room : Room} {d : DraftLayout} {a : code.Access} {st : State} (k : Knows b most room d a st) (t : token.Draft) : Type 0 where
  pub adds : List Add
  pub open_here : a.drafting ≡ true
  pub draft : k.sound.access.draft ≡ Some adds
  pub lays : Lays k.sound.section adds d
  pub rowed : Rowed room.lists d
  pub on : (next : Then) → with_draft st t next ≡ next k.sound.access adds

in_own : (y : Access) (t : token.Draft) (adds : List Add) → eqb t.mark y.mark && eqb t.number y.begins ≡ true → (next : List Add → Outcome Effect)
    → in_draft y (as_draft t) (Some adds) next ≡ next adds
in_own y t adds e next = grind (arith, nat_tests)

in_foreign : (y : Access) (t : token.Draft) (s : Section) (rows : List Row) (d : DraftLayout) (drafting : Bool) (draft : Option (List Add)) → InDraft s rows d drafting draft
    → drafting && eqb t.mark y.mark && eqb t.number y.begins ≡ false → (next : List Add → Outcome Effect) → in_draft y (as_draft t) draft next ≡ refused (saving 16)
in_foreign y t s rows d false draft i e next = rw i refl
in_foreign y t s rows d true None i e next = absurd i
in_foreign y t s rows d true (Some adds) i e next = grind (arith, nat_tests)

-- the draft is the one open here
module _ {b : List ℕ} {most : ℕ} {room : Room} {d : DraftLayout} {a : code.Access} {st : State} (k : Knows b most room d a st) (t : token.Draft) where
  abbrev y : Access
  y = k.sound.access

  is_owned : owns a t ≡ true → (a.drafting ≡ true) × (eqb t.mark y.mark && eqb t.number y.begins ≡ true)
  is_owned e =
      let mark = k.mark in
      let begins = k.begins in
      (grind (arith, nat_tests), grind (arith, nat_tests))

  goes : (drafting : Bool) (draft : Option (List Add)) → y.draft ≡ draft → InDraft k.sound.section room.lists d drafting draft → drafting ≡ true → a.drafting ≡ true → eqb t.mark y.mark && eqb t.number y.begins ≡ true → Goes k t
  goes false draft is i e open_here own = absurd cc
  goes true None is i e open_here own = absurd i
  goes true (Some adds) is (lays, rowed) e open_here own = record {
    adds = adds;
    open_here = open_here;
    draft = is;
    lays = lays;
    rowed = rowed;
    on = λ next. ap (λ (x : State). with_draft x t next) (is_state k) ∙ ap (λ o. in_draft y (as_draft t) o (next y)) is ∙ in_own y t adds own (next y);
  }

  pub owned_goes : owns a t ≡ true → Goes k t
  owned_goes e = let (i, own) = is_owned e in goes a.drafting y.draft refl k.draft i i own

  not_goes : owns a t ≡ false → (next : Then) → with_draft st t next ≡ refused (saving 16)
  not_goes e next =
      let mark = k.mark in
      let begins = k.begins in
      let own : a.drafting && eqb t.mark y.mark && eqb t.number y.begins ≡ false = grind (arith, nat_tests) in
      ap (λ (x : State). with_draft x t next) (is_state k) ∙ in_foreign y t k.sound.section room.lists d a.drafting y.draft k.draft own (next y)

-- it is not: 15 or 16
module _ (b : List ℕ) (most : ℕ) (room : Room) (d : DraftLayout) (t : token.Draft) (st : State) (next : Then) where
  not_owned : (a : code.Access) (e : SaveFault) → Knows b most room d a st → Err e ≡ owned (Some a) t → with_draft st t next ≡ refused (save_told e)
  not_owned a e k is = elim (cases_Bool (owns a t)) [
    | inl o ↦ absurd (let w = rw o at is in cc)
    | inr o ↦ let w : e ≡ save.Foreign = (let w = rw o at is in cc) in not_goes k t o next ∙ ap (λ f. refused (save_told f)) (sym w)
  ]

  pub refuses_draft : (o : Option code.Access) (e : SaveFault) → Err e ≡ owned o t → StandsFor b most room d o st → with_draft st t next ≡ refused (save_told e)
  refuses_draft None e is k = let w : e ≡ save.Shut = cc in ap (λ (x : State). with_draft x t next) k ∙ ap (λ f. refused (save_told f)) (sym w)
  refuses_draft (Some a) e is k = not_owned a e k is

-- an owner is an opened file
pub owner : (o : Option code.Access) (t : token.Draft) (a : code.Access) → Ok a ≡ owned o t → (o ≡ Some a) × (owns a t ≡ true)
owner None t a is = absurd cc
owner (Some x) t a is = elim (cases_Bool (owns x t)) [
  | inl e ↦ let w : a ≡ x = (let w = rw e at is in cc) in (ap Some (sym w), rw w e)
  | inr e ↦ absurd (let w = rw e at is in cc)
]

pub owned_knows : {b : List ℕ} {most : ℕ} {room : Room} {d : DraftLayout} (o : Option code.Access) (t : token.Draft) (a : code.Access) → Ok a ≡ owned o t → (st : State) → StandsFor b most room d o st → Knows b most room d a st
owned_knows {b} {most} {room} {d} o t a is st k = subst (λ x. StandsFor b most room d x st) (owner o t a is).0 k
