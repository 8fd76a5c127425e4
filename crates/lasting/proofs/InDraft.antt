-- The bytes of an accepted file with a draft in it hold the same finished file; and what stands after the next add, and after a commit.
use Rattle.std.proofs.Common.{◌≡◌, ℕ, ◌≤◌, false, List, [], ◌∷◌, ◌++◌, length, sym, refl, ap, ◌∙◌, subst, arith}
use Rattle.std.proofs.lemmas.Bool.Decides.{nat_tests}
use Rattle.model.specs.Bytes.{Write, written, applied, Bytes}
use Rattle.model.specs.Faults.{done}
use Rattle.model.specs.Section.{Section}
use Rattle.model.specs.Opened.{opened}
use Rattle.model.specs.Layouts.{Add, blank}
use Rattle.model.specs.Saving.{planned, layout}
use Rattle.model.specs.Committing.{logged, header_write, committing}
use Rattle.model.specs.Calls.{past_ceiling, add_checks, commit_checks}
use Rattle.model.specs.Journal.{FitAdd}
use Rattle.model.specs.Cuts.{WritesHeader}
use Rattle.model.specs.Laws.{DoneAdds, add_writes, Taken, CommitsTo}
use Rattle.meaning.proofs.Base.{Clean}
use Rattle.lasting.proofs.Places.{meant}
use Rattle.lasting.proofs.Rows.{written_bytes, length_after, length_after_append, length_applied, taken_append, applied_bytes}
use Rattle.commits.proofs.Store.{applied_row}
use Rattle.lasting.proofs.Steps.{Steps}
use Rattle.lasting.proofs.Drafts.{writes_push, adds_push, adds_step, add_step, log_step}
use Rattle.lasting.proofs.Untouched.{SameFile, long, steps_kept, steps_length}
use Rattle.lasting.proofs.HeaderWrite.{header_bytes, writes_header}

-- the bytes b with the writes of the adds
abbrev pub drafted_bytes : List ℕ → Section → List Add → List ℕ
drafted_bytes b s adds = applied b (add_writes (blank s) adds)

-- over the bytes b, which hold the finished file s, stands a draft with these adds
pub record Drafting (ceiling : ℕ) (b : List ℕ) (s : Section) (adds : List Add) : Type 0 where
  pub are_bytes : Bytes b
  pub opens : opened b ≡ done s
  pub dones : DoneAdds ceiling (blank s) adds
  pub below : length (drafted_bytes b s adds) ≤ ceiling

-- commit's writes before the header's, the header's, and the bytes after all of them
abbrev pub log_writes : Section → List Add → List Write
log_writes s adds = (logged s (layout s adds)).writes

abbrev pub last_write : List ℕ → Section → List Add → List ℕ → Write
last_write b s adds guid = header_write (drafted_bytes b s adds) s.header (logged s (layout s adds)).end guid

abbrev pub committed_bytes : List ℕ → Section → List Add → List ℕ → List ℕ
committed_bytes b s adds guid = applied (drafted_bytes b s adds) (committing (drafted_bytes b s adds) s adds guid)

-- a new end that passes its check is below the ceiling, if the old one is
below_ceiling : (old ceiling end : ℕ) → past_ceiling old ceiling end ≡ false → old ≤ ceiling → end ≤ ceiling
below_ceiling old ceiling end e h = grind (arith, nat_tests)

module _ {ceiling : ℕ} {b : List ℕ} {s : Section} {adds : List Add} (x : Drafting ceiling b s adds) where
  abbrev mid : List ℕ
  mid = drafted_bytes b s adds

  abbrev mid_end : ℕ
  mid_end = (layout s adds).end

  abbrev its_steps : Steps s s.header.end mid_end (add_writes (blank s) adds)
  its_steps = adds_step b s x.opens ceiling adds x.dones

  pub mid_same : SameFile b mid s
  mid_same = steps_kept b s x.opens s.header.end mid_end (long b s x.opens) (add_writes (blank s) adds) its_steps

  -- the row reaches the draft's end
  pub mid_long : mid_end ≤ length mid
  mid_long = let e = steps_length b s x.opens s.header.end mid_end (long b s x.opens) (add_writes (blank s) adds) its_steps in omega arith

  mid_bytes : Bytes mid
  mid_bytes = applied_bytes b (add_writes (blank s) adds) x.are_bytes its_steps.are_bytes

  -- without its adds
  pub rested : Drafting ceiling mid s []
  unfolding applied
  rested = record { are_bytes = mid_bytes; opens = mid_same.opens; dones = tt; below = x.below }

  -- a new end below the ceiling
  end_below : (end : ℕ) → past_ceiling mid_end ceiling end ≡ false → end ≤ ceiling
  end_below end e =
      let l = mid_long in
      let k = x.below in
      below_ceiling mid_end ceiling end e (omega arith)

  -- ---- the next add

  module _ (a : Add) (fit : FitAdd a) (c : Clean (add_checks ceiling (layout s adds) a)) where
    abbrev its_writes : List Write
    its_writes = (planned (layout s adds) a).writes

    abbrev its_end : ℕ
    its_end = (planned (layout s adds) a).layout.end

    pub next_step : Steps s mid_end its_end its_writes
    next_step = add_step b s x.opens ceiling adds x.dones a fit c

    next_below : its_end ≤ ceiling
    next_below = end_below its_end c.1.1.1.1.1.1.0

    pub next_taken : Taken (length mid) ceiling its_writes
    next_taken = next_step.taken (length mid) ceiling mid_long x.below next_below

    pub next_same : SameFile mid (applied mid its_writes) s
    next_same = steps_kept mid s mid_same.opens mid_end its_end mid_long its_writes next_step

    pub next_is : applied mid its_writes ≡ drafted_bytes b s (adds ++ (a ∷ []))
    next_is = sym (applied_row b (add_writes (blank s) adds) its_writes) ∙ ap (applied b) (sym (writes_push (blank s) adds a))

    pub next_drafting : Drafting ceiling b s (adds ++ (a ∷ []))
    next_drafting =
        let e = steps_length mid s mid_same.opens mid_end its_end mid_long its_writes next_step in
        let l = next_below in
        let k = x.below in
        let under : length (applied mid its_writes) ≤ ceiling = omega arith in
        record {
          are_bytes = x.are_bytes;
          opens = x.opens;
          dones = adds_push ceiling (blank s) adds a x.dones fit c;
          below = subst (λ y. length y ≤ ceiling) next_is under;
        }

  -- ---- the commit

  abbrev log_end : ℕ
  log_end = (logged s (layout s adds)).end

  pub logs_step : Steps s mid_end log_end (log_writes s adds)
  logs_step = log_step b s x.opens ceiling adds x.dones

  pub logs_same : SameFile mid (applied mid (log_writes s adds)) s
  logs_same = steps_kept mid s mid_same.opens mid_end log_end mid_long (log_writes s adds) logs_step

  pub committing_is : (guid : List ℕ) → committing mid s adds guid ≡ log_writes s adds ++ (last_write b s adds guid ∷ [])
  unfolding committing
  committing_is guid = refl

  pub committed_is : (guid : List ℕ) → committed_bytes b s adds guid ≡ written (applied mid (log_writes s adds)) 0 (last_write b s adds guid).new
  unfolding applied
  committed_is guid = ap (applied mid) (committing_is guid) ∙ applied_row mid (log_writes s adds) (last_write b s adds guid ∷ [])

  module _ (guid : List ℕ) (guid_bytes : Bytes guid) (guid_length : length guid ≡ 16) where
    pub last_is_header : WritesHeader (last_write b s adds guid)
    last_is_header = writes_header mid s.header log_end guid (meant mid s mid_same.opens).header.whole guid_length

    module _ (c : Clean (commit_checks ceiling s adds guid)) where
      log_below : log_end ≤ ceiling
      log_below = end_below log_end c.1.1.1.1.0

      pub commit_taken : Taken (length mid) ceiling (committing mid s adds guid)
      commit_taken =
          let h = (meant mid s mid_same.opens).header.whole in
          let k = x.below in
          let (p, n) = last_is_header in
          let logs = logs_step.taken (length mid) ceiling mid_long k log_below in
          let all = taken_append (length mid) ceiling (log_writes s adds) (last_write b s adds guid ∷ []) logs (omega arith, omega arith, tt) in
          subst (Taken (length mid) ceiling) (sym (committing_is guid)) all

      commit_below : length (committed_bytes b s adds guid) ≤ ceiling
      commit_below =
          let h = (meant mid s mid_same.opens).header.whole in
          let k = x.below in
          let e = log_below in
          let (p, n) = last_is_header in
          let r = logs_step.reaches (length mid) mid_long in
          let u = length_applied mid ceiling (committing mid s adds guid) commit_taken in
          let v = ap (length_after (length mid)) (committing_is guid) in
          let w = length_after_append (length mid) (log_writes s adds) (last_write b s adds guid ∷ []) in
          omega arith

      commit_bytes : Bytes (committed_bytes b s adds guid)
      commit_bytes =
          let logs = applied_bytes mid (log_writes s adds) mid_bytes logs_step.are_bytes in
          let header = header_bytes mid s.header log_end guid mid_bytes guid_bytes in
          subst Bytes (sym (committed_is guid)) (written_bytes (applied mid (log_writes s adds)) 0 (last_write b s adds guid).new logs header)

      -- what a commit leaves, if it opens
      pub committed_drafting : (r : CommitsTo b s adds (committed_bytes b s adds guid) guid) → Drafting ceiling (committed_bytes b s adds guid) r.section []
      unfolding applied
      committed_drafting r = record { are_bytes = commit_bytes; opens = r.opens; dones = tt; below = commit_below }
