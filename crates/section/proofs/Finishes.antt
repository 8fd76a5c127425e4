-- A commit, over the states that a file stands for: refused, nothing changes; done, its writes are made, and no draft is open.
use Rattle.std.proofs.Common.{◌≡◌, ℕ, ◌<◌, List, [], ◌∷◌, length, Some, None, Ok, Err, Option, slice_index, sym, refl, ap, ◌∙◌, subst, zero, suc}
use Rattle.model.specs.Bytes.{Bytes, Write, applied}
use Rattle.model.specs.Faults.{Outcome, done, refused, unless, then}
use Rattle.model.specs.Section.{Section}
use Rattle.model.specs.Opened.{opened}
use Rattle.model.specs.Layouts.{Add}
use Rattle.model.specs.Committing.{committing}
use Rattle.model.specs.Calls.{Access, State, commit, committed, Effect, access_of, commit_checks, effect, answer, writes, after}
use Rattle.model.specs.Laws.{Taken, adds_of}
use Rattle.meaning.proofs.Base.{Clean, unless_clean}
use Rattle.lasting.proofs.Effects.{open_state}
use Rattle.lasting.proofs.InDraft.{drafted_bytes, Drafting, committed_bytes, commit_taken, committed_drafting}
use Rattle.lasting.proofs.Sounds.{state_is}
use Rattle.refusals.specs.declared.calls.SaveFault.{SaveFault}
use Rattle.refusals.specs.CallRefusals.{save_told}
use Rattle.committing.specs.CommitWrites.{Sizes}
use Rattle.tables.specs.declared.room.Room.{Room}
use Rattle.drafts.specs.declared.layout.DraftLayout.{DraftLayout}
use Rattle.section.specs.declared.access.Access as code
use Rattle.section.specs.declared.drafting.Draft as token
use Rattle.section.specs.States.{Knows, StandsFor}
use Rattle.section.specs.SavingAnswers.{as_draft, owned}
use Rattle.section.specs.Commits.{Sized, checks_of, writes_by, KeepsUp, access_then}
use Rattle.section.proofs.Calls.{done_answer, done_writes, done_after, knows_at, drafting, bytes_are, opens, Goes, owned_goes, refuses_draft, owner, owned_knows}
use Rattle.section.proofs.Commits.{sized, checks_same, writes_same, sizes, reads, leaves, keeps_after}

-- the bytes of an array
pub array_bytes : (xs : List ℕ) → ((i : ℕ) → slice_index xs i < 256) → Bytes xs
array_bytes [] h = tt
array_bytes (x ∷ xs) h = (h zero, array_bytes xs (λ i. h (suc i)))

abbrev commit_effect : List ℕ → Section → List Add → List ℕ → Access → Effect
commit_effect b s adds guid y = record { answer = committed; writes = committing b s adds guid; access = access_of y.mark y.begins None }

effect_at : (b c : List ℕ) (most n : ℕ) (s : Section) (adds : List Add) (guid : List ℕ) (y : Access) → c ≡ b → n ≡ most → opened b ≡ done s
    → then (opened c) (λ s. unless (commit_checks n s adds guid) (done (commit_effect c s adds guid y))) ≡ unless (commit_checks most s adds guid) (done (commit_effect b s adds guid y))
effect_at b c most n s adds guid y e m o = rw (e, m, o) refl

-- the draft is not the one open here
pub foreign_commit : (b : List ℕ) (most : ℕ) (room : Room) (d : DraftLayout) (o : Option code.Access) (t : token.Draft) (guid : List ℕ) (e : SaveFault) → Err e ≡ owned o t → (st : State) → StandsFor b most room d o st
    → effect st (commit (as_draft t) guid) ≡ refused (save_told e)
foreign_commit b most room d o t guid e is st k =
    refuses_draft b most room d t st (λ y adds. then (opened st.bytes) (λ s. unless (commit_checks st.ceiling s adds guid) (done (commit_effect st.bytes s adds guid y)))) o e is k

-- ---- the draft is the one open here

module _ (b : List ℕ) (most : ℕ) (room : Room) (d : DraftLayout) (o : Option code.Access) (t : token.Draft) (guid : List ℕ) (a : code.Access) (own : Ok a ≡ owned o t) (st : State) (k : StandsFor b most room d o st) where
  abbrev held : Knows b most room d a st
  held = owned_knows o t a own st k

  abbrev y : Access
  y = held.sound.access

  abbrev s : Section
  s = held.sound.section

  abbrev start : List ℕ
  start = held.sound.start

  abbrev goes : Goes held t
  goes = owned_goes held t (owner o t a own).1

  abbrev adds : List Add
  adds = goes.adds

  x : Drafting most start s adds
  x = subst (λ z. Drafting most start s (adds_of z)) goes.draft (drafting held)

  b_is : b ≡ drafted_bytes start s adds
  b_is = bytes_are held ∙ ap (λ z. drafted_bytes start s (adds_of z)) goes.draft

  its_effect : effect st (commit (as_draft t) guid) ≡ unless (commit_checks most s adds guid) (done (commit_effect b s adds guid y))
  its_effect =
      goes.on (λ y adds. then (opened st.bytes) (λ s. unless (commit_checks st.ceiling s adds guid) (done (commit_effect st.bytes s adds guid y))))
      ∙ effect_at b st.bytes most st.ceiling s adds guid y held.bytes held.ceiling (opens held)

  size : Sized d a
  size = sized x d a goes.lays held.keeps

  same : checks_of most d a guid ≡ commit_checks most s adds guid
  same = checks_same x d a goes.lays held.keeps guid

  -- a check fails
  pub failed_commit : (e : SaveFault) → (Sized d a → (rest : Outcome Effect) → unless (checks_of most d a guid) rest ≡ refused (save_told e))
      → effect st (commit (as_draft t) guid) ≡ refused (save_told e)
  failed_commit e f = its_effect ∙ ap (λ cs. unless cs (done (commit_effect b s adds guid y))) (sym same) ∙ f size (done (commit_effect b s adds guid y))

  -- all pass
  module _ (pass : Sized d a → Clean (checks_of most d a guid)) where
    clean : Clean (commit_checks most s adds guid)
    clean = subst Clean same (pass size)

    commits : effect st (commit (as_draft t) guid) ≡ done (commit_effect b s adds guid y)
    commits = its_effect ∙ unless_clean (commit_checks most s adds guid) (done (commit_effect b s adds guid y)) clean

    pub done_commit : committed ≡ answer st (commit (as_draft t) guid)
    done_commit = sym (done_answer st (commit (as_draft t) guid) (commit_effect b s adds guid y) commits)

    are_writes : writes st (commit (as_draft t) guid) ≡ committing b s adds guid
    are_writes = done_writes st (commit (as_draft t) guid) (commit_effect b s adds guid y) commits

    module _ (guid_bytes : Bytes guid) (guid_length : length guid ≡ 16) where
      abbrev after_it : Section
      after_it = (reads x d a goes.lays held.keeps guid guid_bytes guid_length clean).section

      taken : Taken (length b) most (committing b s adds guid)
      taken = subst (λ c. Taken (length c) most (committing c s adds guid)) (sym b_is) (commit_taken x guid guid_bytes guid_length clean)

      -- the writes
      pub wrote_commit : (W : List Write → Type 0) → (Sizes b a.header a.log d.end d.touched guid → Taken (length b) most (writes_by b d a guid) → W (writes_by b d a guid)) → W (writes st (commit (as_draft t) guid))
      wrote_commit W w =
          let i = writes_same x d a goes.lays held.keeps b guid in
          subst W (sym are_writes) (subst (λ ws. Taken (length b) most ws → W ws) i (w (sizes x d a goes.lays held.keeps b guid b_is guid_length clean)) taken)

      -- what the file stands for then
      module _ (c : List ℕ) (c_is : c ≡ applied b (writes st (commit (as_draft t) guid))) where
        c_after : c ≡ committed_bytes start s adds guid
        c_after = c_is ∙ ap (applied b) are_writes ∙ ap (λ z. applied z (committing z s adds guid)) b_is

        abbrev then_y : Access
        then_y = record { mark = y.mark; begins = y.begins; draft = None }

        after_is : after st (commit (as_draft t) guid) ≡ open_state most c then_y
        after_is = done_after st (commit (as_draft t) guid) (commit_effect b s adds guid y) commits
            ∙ state_is (applied st.bytes (committing b s adds guid)) c st.ceiling most (access_of y.mark y.begins None) (Some then_y)
            (ap (λ z. applied z (committing b s adds guid)) held.bytes ∙ sym (c_is ∙ ap (applied b) are_writes)) held.ceiling refl

        pub stands_then : (last : ℕ) → last ≡ most → (room' : Room) (d' : DraftLayout) (z : code.Access) → (Sized d a → z ≡ access_then d a guid)
            → KeepsUp room d a.header.count room' → Knows c last room' d' z (after st (commit (as_draft t) guid))
        unfolding applied
        stands_then last same_most room' d' z is keep =
            let h = held.keeps in
            let r = reads x d a goes.lays h guid guid_bytes guid_length clean in
            let w = subst (λ p. opened p ≡ done r.section) (sym c_after) r.opens in
            let kept = keep b c s adds r.section (opens held) w (ap (λ (i : Rattle.model.specs.declared.types.Header.Header). i.count) h.header) h.kept goes.lays goes.rowed
            (leaves x d a goes.lays h guid guid_bytes guid_length clean) in
            let keeps = keeps_after x d a goes.lays h guid guid_bytes guid_length clean room' c kept in
            let own_state = knows_at c room' d' (access_then d a guid) then_y (committed_drafting x guid guid_bytes guid_length clean r) c_after held.mark held.begins refl keeps in
            subst (λ (u : code.Access). Knows c last room' d' u (after st (commit (as_draft t) guid))) (sym (is size))
            (subst (λ m. Knows c m room' d' (access_then d a guid) (after st (commit (as_draft t) guid))) (sym same_most)
            (subst (Knows c most room' d' (access_then d a guid)) (sym after_is) own_state))
