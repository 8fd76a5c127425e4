-- A transaction, from its calls.
use Rattle.std.proofs.Common.{◌≡◌, ℕ, List, ◌++◌, Some, None, Ok, Err, Option, Result, refl, sym, ap, ◌∙◌, subst}
use Rattle.model.specs.declared.types.Fault.{Fault}
use Rattle.model.specs.Bytes.{Write}
use Rattle.model.specs.Faults.{Outcome, done, refused, then}
use Rattle.model.specs.Section.{Section}
use Rattle.model.specs.Opened.{opened}
use Rattle.model.specs.Layouts.{Add}
use Rattle.model.specs.Calls.{Draft, State, open_file, begin, add, commit, begun, committed, refusal, answer, writes, after}
use Rattle.model.specs.Journal.{shut}
use Rattle.refusals.specs.declared.calls.SaveFault.{SaveFault}
use Rattle.refusals.specs.CallRefusals.{save_told}
use Rattle.tables.specs.declared.room.Room.{Room}
use Rattle.drafts.specs.declared.layout.DraftLayout.{DraftLayout}
use Rattle.section.specs.declared.access.Access.{Access}
use Rattle.section.specs.declared.access.Figures.{Figures}
use Rattle.section.specs.declared.drafting.Draft as token
use Rattle.section.specs.declared.drafting.NotCommitted.{NotCommitted}
use Rattle.section.specs.Figures.{figures_of}
use Rattle.section.specs.OpenAnswers.{opened_in, open_answer}
use Rattle.section.specs.SavingAnswers.{as_draft, begin_answer, add_answer, commit_answer}
use Rattle.section.specs.States.{StandsFor}
use Rattle.section.proofs.RoomLaws.{room_accepts}
use Rattle.sheet_c.specs.Extends.{Ran, ran, unless_told, made_by, id_or_0, transacted, drafting, first_draft, if_opened, extended_in, Ends, Runs}

-- a file stands for a state of its store's bytes
stands_bytes : (b : List ℕ) (most : ℕ) (room : Room) (d : DraftLayout) (a : Option Access) (st : State) → StandsFor b most room d a st → st.bytes ≡ b
stands_bytes b most room d None st e = ap (λ (s : State). s.bytes) e
stands_bytes b most room d (Some a) st k = k.bytes

pub stands_shut : (b : List ℕ) (most : ℕ) (room : Room) (d : DraftLayout) (a : Option Access) → a ≡ None → StandsFor b most room d a (shut b most)
stands_shut b most room d None e = refl
stands_shut b most room d (Some a) e = absurd cc

-- what a transaction wants, from the answers of its calls
module _ (st : State) (d : Draft) (a : Add) (guid : List ℕ) where
  want_refused : (f : Fault) → answer st (add d a) ≡ refusal f → transacted st d a guid ≡ ran (refused f) (after st (add d a)).bytes
  unfolding transacted
  want_refused f e = rw e refl

  want_not_committed : (r : Option ℕ) (f : Fault) → answer st (add d a) ≡ add_answer (Ok r) → answer (after st (add d a)) (commit d guid) ≡ refusal f
      → transacted st d a guid ≡ ran (refused f) (after (after st (add d a)) (commit d guid)).bytes
  unfolding transacted
  want_not_committed None f e g = rw (e, g) refl
  want_not_committed (Some id) f e g = rw (e, g) refl

  want_done : (r : Option ℕ) → answer st (add d a) ≡ add_answer (Ok r) → answer (after st (add d a)) (commit d guid) ≡ committed
      → transacted st d a guid ≡ ran (done (id_or_0 r)) (after (after st (add d a)) (commit d guid)).bytes
  unfolding transacted
  want_done None e g = rw (e, g) refl
  want_done (Some id) e g = rw (e, g) refl

module _ {S : Type 0} (bytes : S → List ℕ) (wrote : S → List Write → S → Type 0) where
  ends_as : (s t : S) (r : Result ℕ Fault) (o : Outcome ℕ) (b : List ℕ) (w : Ran) (ws : List Write) → w ≡ ran o b → Rattle.sheet_c.specs.Extends.as_outcome r ≡ o → bytes t ≡ b → wrote s ws t
      → Ends bytes wrote s t r w
  ends_as s t r o b w ws e answer' same made' = rw e (record { answer' = answer'; bytes' = same; trail = (ws, made') })

  -- the add is refused
  pub add_refused : (most : ℕ) (room : Room) (dl : DraftLayout) (access : Option Access) (st : State) (d : token.Draft) (a : Add) (guid : List ℕ) (s t u : S) (r : Result (Option ℕ) SaveFault) (x : SaveFault) (f : Fault)
      → add_answer r ≡ answer st (add (as_draft d) a) → StandsFor (bytes t) most room dl access (after st (add (as_draft d) a)) → wrote s (writes st (add (as_draft d) a)) t
      → r ≡ Err x → f ≡ save_told x → u ≡ t → Ends bytes wrote s u (Err f) (transacted st (as_draft d) a guid)
  add_refused most room dl access st d a guid s t u r x f e k w is told same =
      let c = add (as_draft d) a in
      let says : answer st c ≡ refusal f = sym e ∙ ap add_answer is ∙ ap refusal (sym told) in
      ends_as s u (Err f) (refused f) (after st c).bytes (transacted st (as_draft d) a guid) (writes st c) (want_refused st (as_draft d) a guid f says) refl
      (ap bytes same ∙ sym (stands_bytes (bytes t) most room dl access (after st c) k)) (subst (λ (y : S). wrote s (writes st c) y) (sym same) w)

  module _ (more : (s t u : S) (a b : List Write) → wrote s a t → wrote t b u → wrote s (a ++ b) u) where
    -- the commit is refused
    pub commit_refused : (most : ℕ) (room : Room) (dl : DraftLayout) (access : Option Access) (st : State) (d e : token.Draft) (a : Add) (guid : List ℕ) (s t u v : S) (r : Result (Option ℕ) SaveFault) (one : Option ℕ) {T : Type 0} (q : Result T NotCommitted) (n : NotCommitted) (f : Fault)
        → e ≡ d → add_answer r ≡ answer st (add (as_draft d) a) → wrote s (writes st (add (as_draft d) a)) t → r ≡ Ok one
        → commit_answer q ≡ answer (after st (add (as_draft d) a)) (commit (as_draft e) guid) → StandsFor (bytes u) most room dl access (after (after st (add (as_draft d) a)) (commit (as_draft e) guid))
        → wrote t (writes (after st (add (as_draft d) a)) (commit (as_draft e) guid)) u → q ≡ Err n → f ≡ save_told n.fault → v ≡ u
        → Ends bytes wrote s v (Err f) (transacted st (as_draft d) a guid)
    commit_refused most room dl access st d e a guid s t u v r one q n f same x w is y k w' isn't told last =
        let c = add (as_draft d) a in
        let then' = after st c in
        let says : answer st c ≡ add_answer (Ok one) = sym x ∙ ap add_answer is in
        let ends : answer then' (commit (as_draft d) guid) ≡ refusal f = ap (λ (z : token.Draft). answer then' (commit (as_draft z) guid)) (sym same) ∙ sym y ∙ ap commit_answer isn't ∙ ap refusal (sym told) in
        let row = stands_bytes (bytes u) most room dl access (after then' (commit (as_draft e) guid)) k in
        ends_as s v (Err f) (refused f) (after then' (commit (as_draft d) guid)).bytes (transacted st (as_draft d) a guid) (writes st c ++ writes then' (commit (as_draft e) guid)) (want_not_committed st (as_draft d) a guid one f says ends) refl
        (ap bytes last ∙ sym row ∙ ap (λ (z : token.Draft). (after then' (commit (as_draft z) guid)).bytes) same)
        (subst (λ (z : S). wrote s (writes st c ++ writes then' (commit (as_draft e) guid)) z) (sym last) (more s t u _ _ w w'))

    -- both are done
    pub both_done : (most : ℕ) (room : Room) (dl : DraftLayout) (access : Option Access) (st : State) (d e : token.Draft) (a : Add) (guid : List ℕ) (s t u : S) (r : Result (Option ℕ) SaveFault) (one : Option ℕ) {T : Type 0} (q : Result T NotCommitted) (n : T) (id : ℕ)
        → e ≡ d → add_answer r ≡ answer st (add (as_draft d) a) → wrote s (writes st (add (as_draft d) a)) t → r ≡ Ok one
        → commit_answer q ≡ answer (after st (add (as_draft d) a)) (commit (as_draft e) guid) → StandsFor (bytes u) most room dl access (after (after st (add (as_draft d) a)) (commit (as_draft e) guid))
        → wrote t (writes (after st (add (as_draft d) a)) (commit (as_draft e) guid)) u → q ≡ Ok n → id ≡ id_or_0 one
        → Ends bytes wrote s u (Ok id) (transacted st (as_draft d) a guid)
    both_done most room dl access st d e a guid s t u r one q n id same x w is y k w' is' told =
        let c = add (as_draft d) a in
        let then' = after st c in
        let says : answer st c ≡ add_answer (Ok one) = sym x ∙ ap add_answer is in
        let ends : answer then' (commit (as_draft d) guid) ≡ committed = ap (λ (z : token.Draft). answer then' (commit (as_draft z) guid)) (sym same) ∙ sym y ∙ ap commit_answer is' in
        let row = stands_bytes (bytes u) most room dl access (after then' (commit (as_draft e) guid)) k in
        ends_as s u (Ok id) (done (id_or_0 one)) (after then' (commit (as_draft d) guid)).bytes (transacted st (as_draft d) a guid) (writes st c ++ writes then' (commit (as_draft e) guid)) (want_done st (as_draft d) a guid one says ends) (ap done told)
        (sym row ∙ ap (λ (z : token.Draft). (after then' (commit (as_draft z) guid)).bytes) same)
        (more s t u _ _ w w')

-- ---- the opening, and the begin

-- an accepted file is a section
accepted_in : (o : Outcome Section) (f : Figures) → done f ≡ then o (λ s. done (figures_of s)) → (s : Section) × (o ≡ done s)
accepted_in (done s) f e = (s, refl)
accepted_in (refused x) f e = absurd cc

pub opened_as : (access : Option Access) (room : ℕ) (b : List ℕ) (f : Figures) → access ≡ None → done f ≡ open_answer access room b → (s : Section) × (opened_in room b ≡ done s)
opened_as None room b f e g = accepted_in (opened_in room b) f g
opened_as (Some a) room b f e g = absurd cc

-- the first begin is done
first_begin : (b : List ℕ) (most : ℕ) (s : Section) → opened b ≡ done s → answer (after (shut b most) (open_file 1)) begin ≡ begun first_draft
unfolding answer after
first_begin b most s e = rw e refl

module _ (access : Option Access) (room : ℕ) (b : List ℕ) (most : ℕ) (f : Figures) (shut' : access ≡ None) (accepts : done f ≡ open_answer access room b) where
  is_begun : answer (after (shut b most) (open_file 1)) begin ≡ begun first_draft
  is_begun = let x = opened_as access room b f shut' accepts in first_begin b most x.0 (room_accepts room b x.0 x.1)

  pub not_refused : (x : SaveFault) → begin_answer (Err x) ≡ answer (after (shut b most) (open_file 1)) begin → ⊥
  not_refused x e = absurd (cc (e, is_begun))

  drafted : (d : token.Draft) → begin_answer (Ok d) ≡ answer (after (shut b most) (open_file 1)) begin → as_draft d ≡ first_draft
  drafted d e = cc (e, is_begun)

  pub extends : {S : Type 0} (bytes : S → List ℕ) (wrote : S → List Write → S → Type 0) (s t u v : S) (d : token.Draft) (a : Add) (guid : List ℕ) (r : Result ℕ Fault)
      → begin_answer (Ok d) ≡ answer (after (shut b most) (open_file 1)) begin → t ≡ s → u ≡ t
      → Ends bytes wrote u v r (transacted (drafting (shut b most)) (as_draft d) a guid) → Ends bytes wrote s v r (extended_in room b most a guid)
  extends {S = S} bytes wrote s t u v d a guid r e p q x =
      let o = opened_as access room b f shut' accepts in
      let want : transacted (drafting (shut b most)) (as_draft d) a guid ≡ extended_in room b most a guid =
      ap (λ (y : Draft). transacted (drafting (shut b most)) y a guid) (drafted d e)
      ∙ sym (ap (λ (y : Outcome Section). if_opened y b (transacted (drafting (shut b most)) first_draft a guid)) o.1) in
      subst (λ (y : S). Ends bytes wrote y v r (extended_in room b most a guid)) (q ∙ p) (subst (λ (y : Ran). Ends bytes wrote u v r y) want x)

-- the same in a lent buffer
pub lent_runs : {S : Type 0} (bytes : S → List ℕ) (wrote : S → List Write → S → Type 0) (s t : S) (r : Result ℕ Fault) (room room' most most' : ℕ) (b b' is : List ℕ) (a : Add) (guid : List ℕ)
    → room' ≡ room → b' ≡ b → most' ≡ most → is ≡ bytes t → Ends bytes wrote s t r (extended_in room' b' most' a guid) → Runs (Some r) b is (extended_in room b most a guid)
lent_runs bytes wrote s t r room room' most most' b b' is a guid e f g h x =
    let want : extended_in room' b' most' a guid ≡ extended_in room b most a guid = rw (e, f, g) refl in
    (x.answer' ∙ ap (λ (w : Ran). w.answer) want, h ∙ x.bytes' ∙ ap (λ (w : Ran). w.bytes) want)
