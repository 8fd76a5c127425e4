-- Every call keeps a sound state, and each look to a count up to its own; the store takes each of its writes.
use Rattle.std.proofs.Common.{◌≡◌, ℕ, ◌+◌, ◌≤◌, List, [], ◌∷◌, ◌++◌, length, Some, None, Option, sym, refl, ap, ◌∙◌, subst, arith}
use Rattle.model.specs.Bytes.{applied}
use Rattle.model.specs.Faults.{Outcome}
use Rattle.model.specs.Section.{Section}
use Rattle.model.specs.Looks.{Look}
use Rattle.model.specs.Layouts.{Add}
use Rattle.model.specs.Calls.{Access, State, Call, looking, saw, Effect, effect, answer_of, writes_of, access_after, answer, writes, after}
use Rattle.model.specs.Journal.{Fit, commits, LookAlike}
use Rattle.model.specs.Laws.{Taken, CommitReads, LooksGrow, adds_of, Sound, StepsSound}
use Rattle.lasting.specs.Uncommitted.{DraftsUnseen}
use Rattle.lasting.proofs.Effects.{open_state, Does, stays, rests, grows, ends, does}
use Rattle.lasting.proofs.Opening.{sees}
use Rattle.lasting.proofs.InDraft.{drafted_bytes, Drafting, committed_bytes, mid_same, rested, next_taken, next_same, next_is, next_drafting, commit_taken, committed_drafting}

-- the call c keeps the state st, whose count is n, sound, and each look to a k up to n
abbrev StepsFrom : Call → ℕ → State → ℕ → Type 0
StepsFrom c ceiling st n = Sound (after st c) (n + commits (answer st c)) ceiling × ((k : ℕ) → 1 ≤ k → k ≤ n → LookAlike k (after st c) st)

-- and every look, if it commits nothing
abbrev QuietFrom : Call → ℕ → State → ℕ → Type 0
QuietFrom c ceiling st n = commits (answer st c) ≡ 0 → Sound (after st c) n ceiling × ((l : Look) → answer (after st c) (looking l) ≡ answer st (looking l))

-- a state of an opened file over which such a draft stands is sound
sound_at : {ceiling : ℕ} {b : List ℕ} {s : Section} (st : State) (d : Access) → Drafting ceiling b s (adds_of d.draft)
    → st.ceiling ≡ ceiling → st.access ≡ Some d → st.bytes ≡ drafted_bytes b s (adds_of d.draft) → Sound st s.header.count ceiling
sound_at {ceiling} {b} {s} st d x y z e = record {
  access = d;
  open' = z;
  start = b;
  section = s;
  are_bytes = x.are_bytes;
  finished = x.opens;
  count = refl;
  same_ceiling = y;
  below_ceiling = subst (λ r. length r ≤ ceiling) (sym e) x.below;
  adds = x.dones;
  bytes = e;
}

module _ {ceiling : ℕ} {b : List ℕ} {s : Section} (d : Access) (x : Drafting ceiling b s (adds_of d.draft)) where
  abbrev adds : List Add
  adds = adds_of d.draft

  abbrev mid : List ℕ
  mid = drafted_bytes b s adds

  abbrev here : State
  here = open_state ceiling mid d

  pub does_here : (c : Call) → Fit c → Does ceiling mid s d c (effect here c)
  does_here c fit = does ceiling mid s (mid_same x).opens d.mark d.begins d.draft c fit

  -- the store takes the writes of each call
  takes : (c : Call) (o : Outcome Effect) → Does ceiling mid s d c o → Taken (length mid) ceiling (writes_of o)
  takes c o (stays i j k) = subst (Taken (length mid) ceiling) (sym j) tt
  takes c o (rests a n draft i j) = tt
  takes c o (grows token a y i fit p) = next_taken x a fit p
  takes c o (ends token guid i j p) = commit_taken x guid i j p

  takes_here : (c : Call) → Fit c → Taken (length mid) ceiling (writes here c)
  unfolding writes
  takes_here c fit = takes c (effect here c) (does_here c fit)

  -- the state after an effect
  abbrev then_state : Outcome Effect → State
  then_state o = record { bytes = applied mid (writes_of o); ceiling = ceiling; access = access_after (Some d) o }

  unchanged : (o : Outcome Effect) → writes_of o ≡ [] → access_after (Some d) o ≡ Some d → then_state o ≡ here
  unfolding applied
  unchanged o i j = rw (i, j)

  -- an effect that commits nothing keeps the count, and every look
  abbrev Quiet : Outcome Effect → Type 0
  Quiet o = Sound (then_state o) s.header.count ceiling × ((l : Look) → answer (then_state o) (looking l) ≡ answer here (looking l))

  quiet : (c : Call) (o : Outcome Effect) → Does ceiling mid s d c o → commits (answer_of o) ≡ 0 → Quiet o
  unfolding applied
  quiet c o (stays i j k) q =
      let e = unchanged o j k in (
        subst (λ (st : State). Sound st s.header.count ceiling) (sym e) (sound_at here d x refl refl refl),
        λ l. ap (λ (st : State). answer st (looking l)) e,
      )
  quiet c o (rests a n draft i j) q =
      let then_d : Access = record { mark = d.mark; begins = n; draft = draft } in
      let at_rest = subst (Drafting ceiling mid s) (sym j) (rested x) in (
        sound_at (open_state ceiling mid then_d) then_d at_rest refl refl (ap (drafted_bytes mid s) (sym j)),
        λ l. sees ceiling mid then_d l ∙ sym (sees ceiling mid d l),
      )
  quiet c o (grows token a y i fit p) q =
      let then_d : Access = record { mark = d.mark; begins = d.begins; draft = Some (adds ++ (a ∷ [])) } in (
        sound_at (open_state ceiling _ then_d) then_d (next_drafting x a fit p) refl refl (next_is x a fit p),
        λ l. sees ceiling _ then_d l ∙ ap saw ((next_same x a fit p).looks l) ∙ sym (sees ceiling mid d l),
      )
  quiet c o (ends token guid i j p) q = absurd (omega arith)

  quiet_here : (c : Call) → Fit c → QuietFrom c ceiling here s.header.count
  unfolding answer after writes
  quiet_here c fit q = quiet c (effect here c) (does_here c fit) q

  module _ (reads : CommitReads) (grow : LooksGrow) where
    abbrev Stepped : Outcome Effect → Type 0
    Stepped o = Sound (then_state o) (s.header.count + commits (answer_of o)) ceiling × ((k : ℕ) → 1 ≤ k → k ≤ s.header.count → LookAlike k (then_state o) here)

    from_quiet : (o : Outcome Effect) → commits (answer_of o) ≡ 0 → Quiet o → Stepped o
    from_quiet o e q =
        let n : s.header.count ≡ s.header.count + commits (answer_of o) = omega arith in
        (subst (λ n. Sound (then_state o) n ceiling) n q.0, λ k one h l r. q.1 l)

    stepped : (c : Call) (o : Outcome Effect) → Does ceiling mid s d c o → Stepped o
    unfolding applied
    stepped c o (stays i j k) = from_quiet o i (quiet c o (stays i j k) i)
    stepped c o (rests a n draft i j) = from_quiet o i (quiet c o (rests a n draft i j) i)
    stepped c o (grows token a y i fit p) = from_quiet o i (quiet c o (grows token a y i fit p) i)
    stepped c o (ends token guid i j p) =
        let then_d : Access = record { mark = d.mark; begins = d.begins; draft = None } in
        let new = committed_bytes b s adds guid in
        let r = reads b ceiling s adds guid x.are_bytes i j x.opens x.dones p in (
          subst (λ n. Sound (open_state ceiling new then_d) n ceiling) r.count (sound_at (open_state ceiling new then_d) then_d (committed_drafting x guid i j p r) refl refl refl),
          λ k one h l q.
              sees ceiling new then_d l
              ∙ ap saw (grow b ceiling s adds guid x.are_bytes i j x.opens x.dones p l (omega arith) (omega arith) ∙ sym ((mid_same x).looks l))
              ∙ sym (sees ceiling mid d l),
        )

    steps_here : (c : Call) → Fit c → StepsFrom c ceiling here s.header.count
    unfolding answer after writes
    steps_here c fit = stepped c (effect here c) (does_here c fit)

-- ---- any sound state is such a one

pub sound_drafting : {st : State} {n ceiling : ℕ} (k : Sound st n ceiling) → Drafting ceiling k.start k.section (adds_of k.access.draft)
sound_drafting {ceiling = ceiling} k = record {
  are_bytes = k.are_bytes;
  opens = k.finished;
  dones = k.adds;
  below = subst (λ b. length b ≤ ceiling) k.bytes k.below_ceiling;
}

pub state_is : (b b' : List ℕ) (ceiling ceiling' : ℕ) (a a' : Option Access) → b ≡ b' → ceiling ≡ ceiling' → a ≡ a'
    → ◌≡◌ {A = State} (record { bytes = b; ceiling = ceiling; access = a }) (record { bytes = b'; ceiling = ceiling'; access = a' })
state_is b b' ceiling ceiling' a a' x y z = cc

-- what holds of the one holds of the other, at its own count
pub of_sound : {st : State} {n ceiling : ℕ} (P : State → ℕ → Type 0) (k : Sound st n ceiling)
    → P (open_state ceiling (drafted_bytes k.start k.section (adds_of k.access.draft)) k.access) k.section.header.count → P st n
of_sound {st} {n} {ceiling} P k p =
    let d = k.access in
    let e = state_is st.bytes (drafted_bytes k.start k.section (adds_of d.draft)) st.ceiling ceiling st.access (Some d) k.bytes k.same_ceiling k.open' in
    subst (P st) k.count (subst (λ (x : State). P x k.section.header.count) (sym e) p)

pub steps_sound : CommitReads → LooksGrow → StepsSound
steps_sound reads grow st n ceiling c k fit = of_sound (StepsFrom c ceiling) k (steps_here k.access (sound_drafting k) reads grow c fit)

-- the store takes each write of the next call
pub sound_takes : {st : State} {n ceiling : ℕ} (c : Call) → Sound st n ceiling → Fit c → Taken (length st.bytes) ceiling (writes st c)
sound_takes {ceiling = ceiling} c k fit = of_sound (λ x m. Taken (length x.bytes) ceiling (writes x c)) k (takes_here k.access (sound_drafting k) c fit)

-- a call that commits nothing is not seen
unseen : {st : State} {n ceiling : ℕ} (c : Call) → Sound st n ceiling → Fit c → QuietFrom c ceiling st n
unseen {ceiling = ceiling} c k fit = of_sound (QuietFrom c ceiling) k (quiet_here k.access (sound_drafting k) c fit)

pub drafts_unseen : DraftsUnseen
drafts_unseen s n ceiling k [] u l = refl
drafts_unseen s n ceiling k (c ∷ cs) (fit, q, u) l =
    let (v, w) = unseen c k fit q in
    drafts_unseen (after s c) n ceiling v cs u l ∙ w l
