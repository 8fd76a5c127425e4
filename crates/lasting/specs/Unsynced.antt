-- A disc that takes writes in whatever order it likes, until it is synced: of the writes since the last sync, what stands after a loss of power nobody knows.
use Rattle.std.specs.Prelude.{◌≡◌, ℕ, ◌<◌, ◌≤◌, ◌⊎◌, List, [], ◌∷◌, ◌++◌, length, slice_index}
use Rattle.std.specs.List.{AllByRecursion}
use Rattle.model.specs.Bytes.{Write, behind}
use Rattle.model.specs.Section.{Section}
use Rattle.model.specs.Looks.{Look}
use Rattle.model.specs.Calls.{State, Call, open_file, looking, accepted, answer, writes, after}
use Rattle.model.specs.Journal.{Fit, shut}
use Rattle.model.specs.Cuts.{WritesHeader}
use Rattle.model.specs.Laws.{Sound}
use Rattle.lasting.specs.Uncommitted.{after_all, Uncommitted}

-- t may stand where b is stored for good and the writes ws came since: each of them whole, in part or not at all, in any order.
-- What none of them covers is as it was.
pub record Unsure (b : List ℕ) (ws : List Write) (t : List ℕ) : Type 0 where
  pub long : length b ≤ length t
  pub outside : (i : ℕ) → AllByRecursion (λ w. (i < w.place) ⊎ (behind w ≤ i)) ws → slice_index t i ≡ slice_index b i

-- the writes of calls, in order
abbrev pub writes_of_all : State → List Call → List Write
writes_of_all s [] = []
writes_of_all s (c ∷ cs) = writes s c ++ writes_of_all (after s c) cs

-- the bytes t open as the file that was finished in s, and each look answers as there
pub record Unharmed (s : State) (n ceiling : ℕ) (t : List ℕ) (mark : ℕ) : Type 0 where
  pub section : Section
  pub opens : answer (shut t ceiling) (open_file mark) ≡ accepted section
  pub count : section.header.count ≡ n
  pub looks : (l : Look) → answer (after (shut t ceiling) (open_file mark)) (looking l) ≡ answer s (looking l)

-- From a sound state that is stored for good, calls of which none commits, and then writes of one more before a header's, as those of a commit:
-- a disc that is synced before each write of a header may keep of them what it likes, and the file is as it was
abbrev pub UnsyncedHarmless : Type 0
UnsyncedHarmless = (s : State) (n ceiling : ℕ) → Sound s n ceiling → (cs : List Call) → Uncommitted s cs
    → (c : Call) → Fit c → (before later : List Write) → writes (after_all s cs) c ≡ before ++ later → AllByRecursion (λ w. WritesHeader w → ⊥) before
    → (t : List ℕ) → Unsure s.bytes (writes_of_all s cs ++ before) t → (mark : ℕ) → Unharmed s n ceiling t mark
