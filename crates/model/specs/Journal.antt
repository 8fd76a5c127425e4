-- Journals: an accepted opening and then any calls, line by line; when a k became the count; that looks answer as they did then.
use Rattle.std.specs.Prelude.{◌≡◌, ℕ, ◌+◌, ◌<◌, ◌≤◌, List, [], ◌∷◌, map, length, take, None}
use Rattle.model.specs.Bytes.{Bytes}
use Rattle.model.specs.Section.{Section, last_of}
use Rattle.model.specs.Looks.{Look, looks_to}
use Rattle.model.specs.Layouts.{Add, plain, with_data, branch}
use Rattle.model.specs.Calls.{State, Call, open_file, begin, add, commit, abandon, looking, Answer, accepted, begun, added, made, committed, abandoned, saw, refusal, answer, after}

-- the arguments of a call are what their types hold: payloads and data are bytes, a GUID has 16
abbrev pub FitAdd : Add → Type 0
FitAdd (plain list id payload) = Bytes payload
FitAdd (with_data list id payload content) = Bytes payload × Bytes content
FitAdd (branch list id payload first_id first_payload) = Bytes payload × Bytes first_payload

abbrev pub Fit : Call → Type 0
Fit (open_file mark) = Unit {0}
Fit begin = Unit {0}
Fit (add draft a) = FitAdd a
Fit (commit draft guid) = Bytes guid × (length guid ≡ 16)
Fit (abandon draft) = Unit {0}
Fit (looking l) = Unit {0}

-- a call with its arguments, its answer, and the state after it
pub record Line : Type 0 where
  pub call : Call
  pub answer : Answer
  pub state : State

-- each line is as its call's promise says, from the state before it
abbrev pub Follows : State → List Line → Type 0
Follows s [] = Unit {0}
Follows s (l ∷ ls) = Fit l.call × (l.answer ≡ answer s l.call) × (l.state ≡ after s l.call) × Follows l.state ls

-- a file that is not opened
abbrev pub shut : List ℕ → ℕ → State
shut b ceiling = record { bytes = b; ceiling = ceiling; access = None }

-- an accepted opening, and then any lines; nothing else changes the store
pub record Journal : Type 0 where
  pub bytes : List ℕ
  pub ceiling : ℕ
  pub mark : ℕ
  pub section : Section
  pub lines : List Line
  pub are_bytes : Bytes bytes
  pub below_ceiling : length bytes ≤ ceiling
  pub opens : answer (shut bytes ceiling) (open_file mark) ≡ accepted section
  pub follows : Follows (after (shut bytes ceiling) (open_file mark)) lines

-- the state after the opening and i lines
abbrev pub state_at : Journal → ℕ → State
state_at j i = last_of (after (shut j.bytes j.ceiling) (open_file j.mark)) (map (λ l. l.state) (take i j.lines))

-- 1 for a commit that was done
abbrev pub commits : Answer → ℕ
commits (accepted s) = 0
commits (begun d) = 0
commits added = 0
commits (made id) = 0
commits committed = 1
commits abandoned = 0
commits (saw l) = 0
commits (refusal f) = 0

abbrev pub commits_in : List Line → ℕ
commits_in [] = 0
commits_in (l ∷ ls) = commits l.answer + commits_in ls

-- the count after i lines: the opening's, and one more for each commit done by then
abbrev pub count_after : Journal → ℕ → ℕ
count_after j i = j.section.header.count + commits_in (take i j.lines)

-- the state and the count after all lines
abbrev pub end_state : Journal → State
end_state j = state_at j (length j.lines)

abbrev pub end_count : Journal → ℕ
end_count j = count_after j (length j.lines)

-- k became the count after m lines: there for the first time the count is k or more.
-- (So a k up to the opening's count became it at the opening, any other at the commit that raised the count to it.)
abbrev pub Became : Journal → ℕ → ℕ → Type 0
Became j k m = (k ≤ count_after j m) × ((i : ℕ) → i < m → count_after j i < k)

-- in the state s each look to k answers, and leaves its buffer, as in the state t
abbrev pub LookAlike : ℕ → State → State → Type 0
LookAlike k s t = (l : Look) → looks_to l ≡ k → answer s (looking l) ≡ answer t (looking l)

-- after each line, each look to a k from 1 to the count there answers as it did where k became the count
abbrev pub LooksStand : Journal → Type 0
LooksStand j = (i k m : ℕ) → i ≤ length j.lines → 1 ≤ k → k ≤ count_after j i → Became j k m → LookAlike k (state_at j i) (state_at j m)
