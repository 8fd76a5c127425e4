-- An add, by what is planned for it: refused, nothing is changed; done, its writes are made and the draft has one add more.
use Rattle.std.proofs.Common.{◌≡◌, ℕ, suc, ◌+◌, ◌-◌, ◌^◌, ◌<◌, ◌≤◌, min, true, false, List, [], ◌∷◌, ◌++◌, length, get_or, is_some, Some, None, Ok, Err, Option, Result, sym, refl, ap, ap₂, ◌∙◌, subst, arith}
use Rattle.std.specs.List.{AllByRecursion}
use Rattle.std.proofs.lemmas.Bool.Decides.{nat_tests}
use Rattle.std.proofs.ByRecursion.{All-weaker}
use Rattle.model.specs.Bytes.{Write, applied, Bytes}
use Rattle.model.specs.Faults.{Outcome, done, refused, unless, then}
use Rattle.model.specs.Section.{Section}
use Rattle.model.specs.Opened.{opened}
use Rattle.model.specs.Means.{Inside}
use Rattle.model.specs.Layouts.{Add, plain, with_data, branch, Tail, Layout, find_tail}
use Rattle.model.specs.Saving.{planned, layout}
use Rattle.model.specs.Calls.{Access, State, Call, add, made, Effect, access_of, refusal, too_large, list_of, add_checks, effect, answer, writes, after}
use Rattle.model.specs.Journal.{FitAdd}
use Rattle.model.specs.Laws.{Taken, adds_of}
use Rattle.meaning.proofs.Base.{Clean, unless_clean}
use Rattle.meaning.proofs.OpensMeans.{opens_means}
use Rattle.commits.proofs.Adds.{Fine}
use Rattle.commits.proofs.Drafts.{TailFine, draft_bounds}
use Rattle.lasting.proofs.Effects.{open_state}
use Rattle.lasting.proofs.InDraft.{drafted_bytes, Drafting, next_taken, next_same, next_is, next_drafting}
use Rattle.lasting.proofs.Sounds.{state_is}
use Rattle.refusals.specs.declared.calls.SaveFault.{SaveFault}
use Rattle.refusals.specs.CallRefusals.{save_told}
use Rattle.tables.specs.declared.room.Room.{Room}
use Rattle.tables.specs.declared.room.Row.{Row}
use Rattle.tables.specs.Kept.{Kept}
use Rattle.writing.specs.declared.tails.Tail as writing
use Rattle.writing.specs.Tails.{as_tail, InReach}
use Rattle.adding.specs.Writes.{add_writes}
use Rattle.adding.proofs.Planned.{writes_planned}
use Rattle.drafts.specs.declared.layout.DraftLayout.{DraftLayout}
use Rattle.drafts.specs.declared.step.Step.{Step}
use Rattle.drafts.specs.Lays.{Lays, Bounds}
use Rattle.drafts.specs.Steps.{capped}
use Rattle.drafts.specs.Plans.{branches, Makes, Plans, Tells}
use Rattle.drafts.specs.Rowed.{Rowed, RowFor}
use Rattle.section.specs.declared.access.Access as code
use Rattle.section.specs.declared.drafting.Draft as token
use Rattle.section.specs.Keeping.{Keeps}
use Rattle.section.specs.States.{InDraft, Knows, StandsFor}
use Rattle.section.specs.SavingAnswers.{as_draft, add_answer, owned, made_list}
use Rattle.section.proofs.KeptAgain.{kept_again}
use Rattle.section.proofs.Calls.{refused_answer, refused_stands, done_answer, done_writes, done_after, knows_at, drafting, bytes_are, opens, Goes, owned_goes, refuses_draft, owner, owned_knows}

-- bytes, by what each is
pub bytes_each : (xs : List ℕ) → ((i : ℕ) → get_or xs i 0 < 256) → Bytes xs
bytes_each [] h = tt
bytes_each (x ∷ xs) h = (h 0, bytes_each xs (λ i. h (suc i)))

-- only a branch makes a list
same_made : (end : ℕ) (t : Tail) (m n : ℕ) (a : Add) → (branches a ≡ true → m ≡ n) → add_writes end t m a ≡ add_writes end t n a
unfolding add_writes
same_made end t m n (plain list id payload) e = refl
same_made end t m n (with_data list id payload content) e = refl
same_made end t m n (branch list id payload first_id first) e = rw (e refl) refl

made_highest : (highest lists : ℕ) (p : Step) (m : Option writing.Tail) → Makes highest lists p m → is_some m ≡ true → p.highest ≡ highest + 1
made_highest highest lists p None m e = absurd cc
made_highest highest lists p (Some t) m e = m.2

-- a branch answers the ID of its list
made_answer : (highest lists : ℕ) (p : Step) (a : Add) (after : Layout) (m : Option writing.Tail) → is_some m ≡ branches a → Makes highest lists p m → (branches a ≡ true → after.highest ≡ highest + 1)
    → add_answer (Ok (made_list m)) ≡ Rattle.model.specs.Calls.add_answer after a
made_answer highest lists p (plain list id payload) after None i m e = refl
made_answer highest lists p (with_data list id payload content) after None i m e = refl
made_answer highest lists p (branch list id payload first_id first) after (Some t) i m e = ap made (m.0 ∙ sym (e refl))
made_answer highest lists p (plain list id payload) after (Some t) i m e = absurd cc
made_answer highest lists p (with_data list id payload content) after (Some t) i m e = absurd cc
made_answer highest lists p (branch list id payload first_id first) after None i m e = absurd cc

-- the numbers of a draft's layout
bounds : (y : Layout) → Fine y → AllByRecursion TailFine y.tails → Bounds y
bounds y f a = record {
  end' = f.end;
  highest = f.highest;
  fragments = f.fragments;
  lists = f.lists;
  touched = f.touched;
  tails = All-weaker TailFine (λ (t : Tail). Inside 36 (2 ^ 40) t.fragment × (t.free ≤ 2 ^ 40) × (t.number < 2048) × (t.count < 2 ^ 32)) (λ t x. ((x.size, x.end), x.free, x.number, x.count)) y.tails a;
}

-- what a call does in its draft
added_effect : Access → List Add → Layout → Add → Effect
added_effect y adds before a =
    record { answer = Rattle.model.specs.Calls.add_answer (planned before a).layout a; writes = (planned before a).writes; access = access_of y.mark y.begins (Some (adds ++ (a ∷ []))) }

add_in : List ℕ → ℕ → Add → Access → List Add → Outcome Effect
add_in bytes ceiling a y adds = then (opened bytes) (λ s. unless (add_checks ceiling (layout s adds) a) (done (added_effect y adds (layout s adds) a)))

-- the draft is not the one open here
module _ (b : List ℕ) (most : ℕ) (room : Room) (d : DraftLayout) (o : Option code.Access) (t : token.Draft) (e : SaveFault) (not_own : Err e ≡ owned o t) (a : Add) (st : State) (k : StandsFor b most room d o st) where
  pub foreign_add : effect st (add (as_draft t) a) ≡ refused (save_told e)
  unfolding add_in added_effect
  foreign_add = refuses_draft b most room d t st (add_in st.bytes st.ceiling a) o e not_own k

  pub foreign_refused : refusal (save_told e) ≡ answer st (add (as_draft t) a)
  foreign_refused = refused_answer st (add (as_draft t) a) (save_told e) foreign_add

  pub foreign_stands : StandsFor b most room d o (after st (add (as_draft t) a))
  foreign_stands = refused_stands b most room d o st k (add (as_draft t) a) e foreign_add

-- the draft is the one open here
module _ (b : List ℕ) (most : ℕ) (room : Room) (d : DraftLayout) (o : Option code.Access) (t : token.Draft) (a : code.Access) (own : Ok a ≡ owned o t) (ceiling : ℕ) (same : ceiling ≡ most) (new : Add) (fit : FitAdd new)
    (st : State) (stands : StandsFor b most room d o st) where
  pub k : Knows b most room d a st
  k = owned_knows o t a own st stands

  pub g : Goes k t
  g = owned_goes k t (owner o t a own).1

  abbrev s : Section
  s = k.sound.section

  abbrev y : Access
  y = k.sound.access

  abbrev here : Layout
  here = layout s g.adds

  abbrev call : Call
  call = add (as_draft t) new

  x : Drafting most k.sound.start s g.adds
  x = subst (Drafting most k.sound.start s) (ap adds_of g.draft) (drafting k)

  mid : b ≡ drafted_bytes k.sound.start s g.adds
  mid = bytes_are k ∙ ap (λ o. drafted_bytes k.sound.start s (adds_of o)) g.draft

  within : Bounds here
  within = let (f, ts) = draft_bounds k.sound.start most s g.adds x.are_bytes x.opens x.dones in bounds here f ts

  goes : effect st call ≡ unless (add_checks most here new) (done (added_effect y g.adds here new))
  unfolding add_in added_effect
  goes =
      let checked : ℕ → Section → Outcome Effect = λ c z. unless (add_checks c (layout z g.adds) new) (done (added_effect y g.adds (layout z g.adds) new)) in
      g.on (add_in st.bytes st.ceiling new) ∙ ap (λ z. then z (checked st.ceiling)) (ap opened k.bytes ∙ opens k) ∙ ap (λ c. checked c s) k.ceiling

  -- what is told of an add's plan
  abbrev pub Told : Result Step SaveFault → Type 0
  Told r = (b : List ℕ) (s : Section) (adds : List Add) → Kept b s room → opened b ≡ done s → Lays s adds d → Bounds (layout s adds) → Tells ceiling (layout s adds) new r

  told : (r : Result Step SaveFault) → Told r → Tells most here new r
  told r f = subst (λ c. Tells c here new r) same (f b s g.adds k.keeps.kept (opens k) g.lays within)

  pub checked_add : (e : SaveFault) → Told (Err e) → effect st call ≡ refused (save_told e)
  checked_add e f = goes ∙ (told (Err e) f).0 (done (added_effect y g.adds here new))

  -- the add is planned
  module _ (p : Step) (f : Told (Ok p)) where
    clean : Clean (add_checks most here new)
    clean = (told (Ok p) f).0

    plans : Plans here new p
    plans = (told (Ok p) f).1

    done_add : effect st call ≡ done (added_effect y g.adds here new)
    done_add = goes ∙ unless_clean (add_checks most here new) (done (added_effect y g.adds here new)) clean

    -- ---- its writes

    abbrev its : List Write
    its = (planned here new).writes

    highest_is : branches new ≡ true → (planned here new).layout.highest ≡ here.highest + 1
    highest_is is = ap (λ (l : Layout). l.highest) plans.layout ∙ made_highest here.highest here.lists p p.made plans.makes (plans.branch' ∙ is)

    made_is : (id : ℕ) → id ≡ min (d.highest + 1) (2 ^ 32 - 1) → branches new ≡ true → id ≡ here.highest + 1
    made_is id e is =
        let top = highest_is is in
        let highest = g.lays.highest in
        let c23 = clean.1.1.1.1.1.0 in
        let few : (planned here new).layout.highest < 2 ^ 32 = grind (arith, nat_tests) in
        omega arith

    planned_writes : (id : ℕ) → id ≡ min (d.highest + 1) (2 ^ 32 - 1) → add_writes d.end (as_tail p.before) id new ≡ its
    planned_writes id e =
        ap₂ (λ n u. add_writes n u id new) g.lays.end' plans.before
        ∙ same_made here.end (find_tail here.tails (list_of new)) id (here.highest + 1) new (made_is id e)
        ∙ sym (writes_planned here new plans.known)

    taken : Taken (length b) most its
    taken = subst (λ c. Taken (length c) most its) (sym mid) (next_taken x new fit clean)

    abbrev asked : List Write
    asked = add_writes d.end (as_tail p.before) (capped (d.highest + 1)) new

    pub wrote_add : (Wrote : List Write → Type 0) → (InReach d.end p.before → too_large new ≡ false → Taken (length b) most asked → Wrote asked) → Wrote (writes st call)
    unfolding added_effect
    wrote_add Wrote w =
        let r = planned_writes (capped (d.highest + 1)) refl in
        let reach = subst (λ n. InReach n p.before) (sym g.lays.end') plans.reach in
        subst Wrote (r ∙ sym (done_writes st call (added_effect y g.adds here new) done_add)) (w reach clean.1.0 (subst (Taken (length b) most) (sym r) taken))

    -- ---- its answer

    pub answer_add : (r : Option ℕ) → r ≡ made_list p.made → add_answer (Ok r) ≡ answer st call
    unfolding added_effect
    answer_add r e =
        ap (λ (z : Option ℕ). add_answer (Ok z)) e ∙ made_answer here.highest here.lists p new (planned here new).layout p.made plans.branch' plans.makes highest_is
        ∙ sym (done_answer st call (added_effect y g.adds here new) done_add)

    -- ---- the state after it

    module _ (b' : List ℕ) (most' : ℕ) (d' : DraftLayout) (is_after : b' ≡ applied b (writes st call)) (same_most : most' ≡ most)
        (row : (b : List ℕ) (s : Section) → Kept b s room → RowFor room.lists d.touched p.before)
        (lays : (s : Section) (adds : List Add) (a : Add) → Lays s adds d → Plans (layout s adds) a p → Lays s (adds ++ (a ∷ [])) d')
        (rowed : (s : Section) (adds : List Add) (a : Add) (rows : List Row) → Lays s adds d → Plans (layout s adds) a p → Rowed rows d → RowFor rows d.touched p.before → Rowed rows d') where
      z : Access
      z = record { mark = y.mark; begins = y.begins; draft = Some (g.adds ++ (new ∷ [])) }

      done_bytes : b' ≡ applied b its
      unfolding added_effect
      done_bytes = is_after ∙ ap (applied b) (done_writes st call (added_effect y g.adds here new) done_add)

      next_mid : b' ≡ drafted_bytes k.sound.start s (g.adds ++ (new ∷ []))
      next_mid = done_bytes ∙ ap (λ c. applied c its) mid ∙ next_is x new fit clean

      next_opens : opened b' ≡ done s
      next_opens = subst (λ c. opened c ≡ done s) (sym (done_bytes ∙ ap (λ c. applied c its) mid)) (next_same x new fit clean).opens

      next_keeps : Keeps b' s room a
      next_keeps =
          let h = k.keeps in
          record { header = h.header; log = h.log; fragments = h.fragments; used = h.used; highest = h.highest; kept = kept_again b b' s (opens_means b' s next_opens).0 room h.kept }

      in_draft : InDraft s room.lists d' a.drafting (Some (g.adds ++ (new ∷ [])))
      in_draft =
          let laid = lays s g.adds new g.lays plans in
          let rows = rowed s g.adds new room.lists g.lays plans g.rowed (row b s k.keeps.kept) in
          subst (λ o. InDraft s room.lists d' o (Some (g.adds ++ (new ∷ [])))) (sym g.open_here) (laid, rows)

      next_state : after st call ≡ open_state most b' z
      unfolding added_effect z
      next_state =
          done_after st call (added_effect y g.adds here new) done_add
          ∙ state_is (applied st.bytes its) b' st.ceiling most (access_of y.mark y.begins (Some (g.adds ++ (new ∷ [])))) (Some z) (ap (λ c. applied c its) k.bytes ∙ sym done_bytes) k.ceiling refl

      next_knows : Knows b' most room d' a (open_state most b' z)
      unfolding z
      next_knows = knows_at b' room d' a z (next_drafting x new fit clean) next_mid k.mark k.begins in_draft next_keeps

      pub next_stands : StandsFor b' most' room d' o (after st call)
      next_stands =
          let at = subst (λ (w : State). Knows b' most room d' a w) (sym next_state) next_knows in
          subst (λ m. StandsFor b' m room d' o (after st call)) (sym same_most) (subst (λ q. StandsFor b' most room d' q (after st call)) (sym (owner o t a own).0) at)
