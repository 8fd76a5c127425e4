-- Finished states last: journals, line by line, from what a call keeps of a sound state and what a cut in it leaves.
use Rattle.std.proofs.Common.{ℕ, zero, suc, ◌+◌, ◌<◌, ◌≤◌, List, [], ◌∷◌, map, length, take, sym, refl, ◌∙◌, subst, add-zero, add_assoc, arith}
use Rattle.model.specs.Section.{last_of}
use Rattle.model.specs.Calls.{State, open_file, answer, after}
use Rattle.model.specs.Journal.{Line, Follows, shut, Journal, commits, commits_in, count_after, end_state, end_count, Became, LookAlike, LooksStand}
use Rattle.model.specs.Theorem.{CutsReopen, FinishedStatesLast}
use Rattle.model.specs.Laws.{WritesTaken, CommitReads, LooksGrow, Sound}
use Rattle.lasting.proofs.Opening.{opens_sound}
use Rattle.lasting.proofs.Sounds.{steps_sound, sound_takes}
use Rattle.lasting.proofs.CutCalls.{cuts_survive}

abbrev state_after : State → List Line → State
state_after s ls = last_of s (map (λ l. l.state) ls)

abbrev start : Journal → State
start j = after (shut j.bytes j.ceiling) (open_file j.mark)

start_sound : (j : Journal) → Sound (start j) j.section.header.count j.ceiling
start_sound j = opens_sound j.bytes j.ceiling j.mark j.section j.are_bytes j.below_ceiling j.opens

-- k became the count no later than where it is no more than the count
not_later : (j : Journal) (i k m : ℕ) → k ≤ count_after j i → Became j k m → m ≤ i
not_later j i k m h b =
    let no_later : i < m → ⊥ = λ x. (let y = b.1 i x in omega arith) in
    omega arith

module _ (reads : CommitReads) (grow : LooksGrow) where
  line_sound : (s : State) (n ceiling : ℕ) (l : Line) (ls : List Line) → Sound s n ceiling → Follows s (l ∷ ls) → Sound l.state (n + commits l.answer) ceiling
  line_sound s n ceiling l ls d f =
      let x = (steps_sound reads grow s n ceiling l.call d f.0).0 in
      subst (λ a. Sound l.state (n + commits a) ceiling) (sym f.1) (subst (λ t. Sound t (n + commits (answer s l.call)) ceiling) (sym f.2) x)

  line_looks : (s : State) (n ceiling : ℕ) (l : Line) (ls : List Line) → Sound s n ceiling → Follows s (l ∷ ls) → (k : ℕ) → 1 ≤ k → k ≤ n → LookAlike k l.state s
  line_looks s n ceiling l ls d f k one h =
      subst (λ t. LookAlike k t s) (sym f.2) ((steps_sound reads grow s n ceiling l.call d f.0).1 k one h)

  all_sound : (s : State) (n ceiling : ℕ) (ls : List Line) → Sound s n ceiling → Follows s ls → (i : ℕ) → Sound (state_after s (take i ls)) (n + commits_in (take i ls)) ceiling
  all_sound s n ceiling ls d f zero = rw add-zero d
  all_sound s n ceiling [] d f (suc i) = rw add-zero d
  all_sound s n ceiling (l ∷ ls) d f (suc i) =
      let x = all_sound l.state (n + commits l.answer) ceiling ls (line_sound s n ceiling l ls d f) f.3 i in
      rw (← add_assoc n (commits l.answer) (commits_in (take i ls))) x

  end_sound : (j : Journal) → Sound (end_state j) (end_count j) j.ceiling
  end_sound j = all_sound (start j) j.section.header.count j.ceiling j.lines (start_sound j) j.follows (length j.lines)

  -- from a line on, looks stand
  stand : (s : State) (n ceiling : ℕ) (ls : List Line) → Sound s n ceiling → Follows s ls → (m i k : ℕ) → m ≤ i → 1 ≤ k → k ≤ n + commits_in (take m ls)
      → LookAlike k (state_after s (take i ls)) (state_after s (take m ls))
  stand s n ceiling [] d f zero zero k le one h l e = refl
  stand s n ceiling [] d f zero (suc i) k le one h l e = refl
  stand s n ceiling [] d f (suc m) zero k le one h l e = refl
  stand s n ceiling [] d f (suc m) (suc i) k le one h l e = refl
  stand s n ceiling (x ∷ ls) d f zero zero k le one h l e = refl
  stand s n ceiling (x ∷ ls) d f zero (suc i) k le one h l e =
      stand x.state (n + commits x.answer) ceiling ls (line_sound s n ceiling x ls d f) f.3 zero i k (omega arith) one (omega arith) l e
      ∙ line_looks s n ceiling x ls d f k one (omega arith) l e
  stand s n ceiling (x ∷ ls) d f (suc m) zero k le one h l e = absurd (omega arith)
  stand s n ceiling (x ∷ ls) d f (suc m) (suc i) k le one h l e =
      stand x.state (n + commits x.answer) ceiling ls (line_sound s n ceiling x ls d f) f.3 m i k (omega arith) one (omega arith) l e

  looks_stand : (j : Journal) → LooksStand j
  looks_stand j i k m inside one h b =
      stand (start j) j.section.header.count j.ceiling j.lines (start_sound j) j.follows m i k (not_later j i k m h b) one b.0

  cuts_reopen : (j : Journal) → CutsReopen j
  cuts_reopen j c fit before later w e t cut mark =
      let v = cuts_survive reads grow (end_state j) (end_count j) j.ceiling c (end_sound j) fit before later w e t cut mark in
      record {
        section = v.section;
        opens = v.opens;
        count = v.count;
        looks = λ k m one h b l q. v.looks k one h l q ∙ looks_stand j (length j.lines) k m (omega arith) one h b l q;
        grown = v.grown;
      }

  pub finished_states_last : FinishedStatesLast
  finished_states_last j = (looks_stand j, cuts_reopen j)

  pub writes_taken : WritesTaken
  writes_taken j c fit = sound_takes c (end_sound j) fit
