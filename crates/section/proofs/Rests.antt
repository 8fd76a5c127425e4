-- Begin and abandon, by what is known of the file: nothing is written.
use Rattle.std.proofs.Common.{◌≡◌, ℕ, ◌+◌, ◌^◌, Bool, true, false, leb, ltb, List, [], length, Some, None, Ok, Err, Option, Result, sym, refl, ap, ◌∙◌, subst, inl, inr, arith}
use Rattle.std.proofs.lemmas.Bool.{cases_Bool, cases_lt}
use Rattle.std.proofs.lemmas.Bool.Decides.{nat_tests}
use Rattle.model.specs.declared.types.Header.{Header}
use Rattle.model.specs.Bytes.{applied}
use Rattle.model.specs.Faults.{Outcome, done, refused}
use Rattle.model.specs.Section.{Section}
use Rattle.model.specs.Layouts.{Add, blank}
use Rattle.model.specs.Calls.{Access, State, Call, begin, abandon, begun, abandoned, refusal, Effect, access_of, beginning, effect, answer, after}
use Rattle.model.specs.Laws.{adds_of}
use Rattle.lasting.proofs.Effects.{open_state}
use Rattle.lasting.proofs.InDraft.{drafted_bytes, Drafting, rested}
use Rattle.refusals.specs.declared.calls.SaveFault.{SaveFault}
use Rattle.refusals.specs.CallRefusals.{save_told}
use Rattle.tables.specs.declared.room.Room.{Room}
use Rattle.tables.specs.declared.room.Row.{Row}
use Rattle.drafts.specs.declared.layout.DraftLayout.{DraftLayout}
use Rattle.drafts.specs.Lays.{Lays}
use Rattle.drafts.specs.Rowed.{Rowed}
use Rattle.section.specs.declared.access.Access as code
use Rattle.section.specs.declared.drafting.Draft as token
use Rattle.section.specs.Keeping.{Keeps}
use Rattle.section.specs.States.{InDraft, Knows, StandsFor}
use Rattle.section.specs.SavingAnswers.{as_draft, drafting_in, with_draft, begun_in, without_draft, last_draft, owned}
use Rattle.section.proofs.Calls.{refused_answer, refused_stands, done_answer, done_after, knows_at, is_state, drafting, bytes_are, owned_goes, refuses_draft, owner, owned_knows}

-- a state of an opened file after a call that writes nothing
quiet_after : {b : List ℕ} {most : ℕ} {room : Room} {d : DraftLayout} {a : code.Access} {st : State} (k : Knows b most room d a st) (c : Call) (x : Effect) (y : Access) → effect st c ≡ done x → x.writes ≡ [] → x.access ≡ Some y
    → after st c ≡ open_state most b y
unfolding applied
quiet_after {b} k c x y e none is = done_after _ c x e ∙ rw (none, is, k.bytes, k.ceiling) refl

keeps_on : {b : List ℕ} {s : Section} {room : Room} (a : code.Access) (n : ℕ) (open_here : Bool) → Keeps b s room a → Keeps b s room (drafting_in a n open_here)
keeps_on a n open_here h = record { header = h.header; log = h.log; fragments = h.fragments; used = h.used; highest = h.highest; kept = h.kept }

-- ---- begin

-- what begin does, by what is known of the file with one more draft begun
abbrev begun_effect : code.Access → Effect
begun_effect a = record { answer = begun (as_draft (last_draft a)); writes = []; access = access_of a.mark a.begins (Some []) }

abbrev begun_by : Result code.Access SaveFault → Outcome Effect
begun_by (Ok a) = done (begun_effect a)
begun_by (Err e) = refused (save_told e)

begins_by : (y : Access) (a : code.Access) (s : Section) (rows : List Row) (d : DraftLayout) (drafting : Bool) (draft : Option (List Add)) → InDraft s rows d drafting draft → drafting ≡ a.drafting → y.mark ≡ a.mark → y.begins ≡ a.begins
    → beginning y draft ≡ begun_by (with_draft a)
begins_by y a s rows d true None i e m n = absurd i
begins_by y a s rows d true (Some adds) i e m n = rw (← e) refl
begins_by y a s rows d false draft i e m n = elim (cases_lt (a.begins + 1) (2 ^ 64)) [
  | inl few ↦
      let t : ltb (a.begins + 1) (2 ^ 64) ≡ true = grind (arith, nat_tests) in
      let u : leb (2 ^ 64) (a.begins + 1) ≡ false = grind (arith, nat_tests) in
      rw (i, ← e, m, n, t, u) refl
  | inr last ↦
      let t : ltb (a.begins + 1) (2 ^ 64) ≡ false = grind (arith, nat_tests) in
      let u : leb (2 ^ 64) (a.begins + 1) ≡ true = grind (arith, nat_tests) in
      rw (i, ← e, m, n, t, u) refl
]

module _ (b : List ℕ) (most : ℕ) (room : Room) (d : DraftLayout) (st : State) where
  begin_effect : (o : Option code.Access) → StandsFor b most room d o st → effect st begin ≡ begun_by (begun_in o)
  begin_effect None k = ap (λ (x : State). effect x begin) k
  begin_effect (Some a) k = ap (λ (x : State). effect x begin) (is_state k) ∙ begins_by k.sound.access a k.sound.section room.lists d a.drafting k.sound.access.draft k.draft refl k.mark k.begins

  -- the file was open, without a draft
  pub record Began (o : Option code.Access) (a : code.Access) : Type 0 where
    pub was : code.Access
    pub knows : Knows b most room d was st
    pub shut : was.drafting ≡ false
    pub is : a ≡ drafting_in was (was.begins + 1) true

  began_from : (was : code.Access) (a : code.Access) → Ok a ≡ with_draft was → (was.drafting ≡ false) × (a ≡ drafting_in was (was.begins + 1) true)
  began_from was a e = elim (cases_Bool was.drafting) [
    | inl t ↦ absurd (let w = rw t at e in cc)
    | inr t ↦ elim (cases_Bool (ltb (was.begins + 1) (2 ^ 64))) [
      | inl u ↦ (t, let w = rw (t, u) at e in cc)
      | inr u ↦ absurd (let w = rw (t, u) at e in cc)
    ]
  ]

  began : (o : Option code.Access) (a : code.Access) → Ok a ≡ begun_in o → StandsFor b most room d o st → Began o a
  began None a e k = absurd cc
  began (Some was) a e k = let (shut, is) = began_from was a e in record { was = was; knows = k; shut = shut; is = is }

module _ (b : List ℕ) (most : ℕ) (room : Room) (d : DraftLayout) (o : Option code.Access) (e : SaveFault) (refuses : Err e ≡ begun_in o) (st : State) (k : StandsFor b most room d o st) where
  not_begun : effect st begin ≡ refused (save_told e)
  not_begun = begin_effect b most room d st o k ∙ ap begun_by (sym refuses)

  pub begin_refused : refusal (save_told e) ≡ answer st begin
  begin_refused = refused_answer st begin (save_told e) not_begun

  pub begin_stays : StandsFor b most room d o (after st begin)
  begin_stays = refused_stands b most room d o st k begin e not_begun

module _ (b : List ℕ) (most : ℕ) (room : Room) (d : DraftLayout) (o : Option code.Access) (a : code.Access) (goes : Ok a ≡ begun_in o) (st : State) (k : StandsFor b most room d o st) where
  begins : effect st begin ≡ done (begun_effect a)
  begins = begin_effect b most room d st o k ∙ ap begun_by (sym goes)

  pub begun_answer : (t : token.Draft) → t ≡ last_draft a → begun (as_draft t) ≡ answer st begin
  begun_answer t e = ap (λ (x : token.Draft). begun (as_draft x)) e ∙ sym (done_answer st begin (begun_effect a) begins)

  it : Began b most room d st o a
  it = began b most room d st o a goes k

  abbrev s : Section
  s = it.knows.sound.section

  no_adds : adds_of it.knows.sound.access.draft ≡ []
  no_adds = ap adds_of (subst (λ o. InDraft s room.lists d o it.knows.sound.access.draft) it.shut it.knows.draft)

  -- what is kept is what was, by the draft's numbers
  keeps : Keeps b s room a
  keeps = subst (Keeps b s room) (sym it.is) (keeps_on it.was (it.was.begins + 1) true it.knows.keeps)

  pub begun_stands : (new : DraftLayout) (rows : ℕ) → rows ≡ length room.lists
      → ((s : Section) → a.header.end ≡ (blank s).end → a.fragments ≡ (blank s).fragments → rows ≡ (blank s).lists → a.highest ≡ (blank s).highest → Lays s [] new)
      → ((rs : List Row) → rows ≡ length rs → Rowed rs new) → Knows b most room new a (after st begin)
  begun_stands new rows all lays rowed =
      let y : Access = record { mark = a.mark; begins = a.begins; draft = Some [] } in
      let x = subst (Drafting most it.knows.sound.start s) no_adds (drafting it.knows) in
      let same = bytes_are it.knows ∙ ap (drafted_bytes it.knows.sound.start s) no_adds in
      let laid = lays s (ap (λ (x : Header). x.end) keeps.header) keeps.fragments (all ∙ keeps.kept.lists.number) keeps.highest in
      let open_here : a.drafting ≡ true = ap (λ (x : code.Access). x.drafting) it.is in
      let drafted : InDraft s room.lists new a.drafting (Some []) = subst (λ o. InDraft s room.lists new o (Some [])) (sym open_here) (laid, rowed room.lists all) in
      subst (Knows b most room new a) (sym (quiet_after it.knows begin (begun_effect a) y begins refl refl)) (knows_at b room new a y x same refl refl drafted keeps)

-- ---- abandon

abbrev abandoned_effect : Access → Effect
abandoned_effect y = record { answer = abandoned; writes = []; access = access_of y.mark y.begins None }

-- the draft is not the one open here
module _ (b : List ℕ) (most : ℕ) (room : Room) (d : DraftLayout) (o : Option code.Access) (t : token.Draft) (e : SaveFault) (not_own : Err e ≡ owned o t) (st : State) (k : StandsFor b most room d o st) where
  not_abandoned : effect st (abandon (as_draft t)) ≡ refused (save_told e)
  not_abandoned = refuses_draft b most room d t st (λ y adds. done (abandoned_effect y)) o e not_own k

  pub abandon_refused : refusal (save_told e) ≡ answer st (abandon (as_draft t))
  abandon_refused = refused_answer st (abandon (as_draft t)) (save_told e) not_abandoned

  pub abandon_stays : StandsFor b most room d o (after st (abandon (as_draft t)))
  abandon_stays = refused_stands b most room d o st k (abandon (as_draft t)) e not_abandoned

-- the draft is the one open here
module _ (b : List ℕ) (most : ℕ) (room : Room) (d : DraftLayout) (o : Option code.Access) (t : token.Draft) (a : code.Access) (own : Ok a ≡ owned o t) (st : State) (k : StandsFor b most room d o st) where
  abbrev held : Knows b most room d a st
  held = owned_knows o t a own st k

  abbrev y : Access
  y = held.sound.access

  abandons : effect st (abandon (as_draft t)) ≡ done (abandoned_effect y)
  abandons = (owned_goes held t (owner o t a own).1).on (λ y adds. done (abandoned_effect y))

  pub abandoned_answer : abandoned ≡ answer st (abandon (as_draft t))
  abandoned_answer = sym (done_answer st (abandon (as_draft t)) (abandoned_effect y) abandons)

  rests : Knows b most room d (without_draft a) (after st (abandon (as_draft t)))
  unfolding applied
  rests =
      let z : Access = record { mark = y.mark; begins = y.begins; draft = None } in
      subst (Knows b most room d (without_draft a)) (sym (quiet_after held (abandon (as_draft t)) (abandoned_effect y) z abandons refl refl))
      (knows_at b room d (without_draft a) z (rested (drafting held)) (bytes_are held) held.mark held.begins refl (keeps_on a a.begins false held.keeps))

  pub abandoned_stands : (x : code.Access) → x ≡ without_draft a → Knows b most room d x (after st (abandon (as_draft t)))
  abandoned_stands x e = subst (λ (z : code.Access). Knows b most room d z (after st (abandon (as_draft t)))) (sym e) rests
