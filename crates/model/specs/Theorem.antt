-- Finished states last: the statement.
use Rattle.std.specs.Prelude.{◌≡◌, ℕ, ◌+◌, ◌≤◌, List, ◌∷◌, ◌++◌}
use Rattle.model.specs.Bytes.{Write, applied}
use Rattle.model.specs.Section.{Section}
use Rattle.model.specs.Calls.{Call, open_file, accepted, answer, writes, after}
use Rattle.model.specs.Journal.{Fit, shut, Journal, state_at, end_state, end_count, Became, LookAlike, LooksStand}
use Rattle.model.specs.Cuts.{Cut, raised}
use Rattle.model.specs.Contents.{held, drafted}

-- what open finds on a store that means t after a cut in the call c, which followed the journal's lines
pub record Reopened (j : Journal) (c : Call) {b : List ℕ} {w : Write} {t : List ℕ} (cut : Cut b w t) (mark : ℕ) : Type 0 where
  pub section : Section
  -- it is accepted
  pub opens : answer (shut t j.ceiling) (open_file mark) ≡ accepted section
  -- its count is the old one, or one higher exactly when a commit's header write was cut and the new header stands
  pub count : section.header.count ≡ end_count j + raised c cut
  -- looks to each k up to the old count answer as they did where k became the count
  pub looks : (k m : ℕ) → 1 ≤ k → k ≤ end_count j → Became j k m
      → LookAlike k (after (shut t j.ceiling) (open_file mark)) (state_at j m)
  -- at the higher count each list holds what it held, then the draft's nodes for it
  pub grown : raised c cut ≡ 1 → (id : ℕ)
      → held t id ≡ held (end_state j).bytes id ++ drafted (end_state j) id

-- the next call may be any, and any of its writes may be cut: those before it stand, later ones have not begun
abbrev pub CutsReopen : Journal → Type 0
CutsReopen j = (c : Call) → Fit c → (before later : List Write) (w : Write)
    → writes (end_state j) c ≡ before ++ (w ∷ later)
    → (t : List ℕ) (cut : Cut (applied (end_state j).bytes before) w t) (mark : ℕ)
    → Reopened j c cut mark

abbrev pub FinishedStatesLast : Type 0
FinishedStatesLast = (j : Journal) → LooksStand j × CutsReopen j
