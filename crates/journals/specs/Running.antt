-- Calls made on a file, one after the other: lines of the rules, and a journal from the first accepted opening on.
use Rattle.std.specs.Prelude.{◌≡◌, ℕ, ◌≤◌, List, [], ◌∷◌, ◌++◌, map, length, Some, None, Option}
use Rattle.std.specs.List.{AllByRecursion}
use Rattle.model.specs.Bytes.{Write, Bytes}
use Rattle.model.specs.Section.{Section, last_of}
use Rattle.model.specs.Calls.{Draft, State, Call, open_file, accepted, answer, writes, after}
use Rattle.model.specs.Journal.{Line, Follows, shut, Journal, end_state}
use Rattle.section.specs.declared.drafting.Draft as token
use Rattle.section.specs.declared.files.File.{File}
use Rattle.journals.specs.declared.calls.Call as code
use Rattle.journals.specs.declared.calls.Line as told
use Rattle.journals.specs.Telling.{in_hand, call_as, TellsAnswer, IsNoCall, hand_after}
use Rattle.journals.specs.Making.{StandsAt}

-- the first call and its line, and then the rest: a call of the rules has a line of the rules, with this call and this answer
abbrev pub TellsNext : (State → Option Draft → List Line → Type 0) → State → Option Draft → code.Call → Option Call → told.Line → List Line → Type 0
TellsNext Rest st hand call None a ls = IsNoCall st call a × Rest st hand ls
TellsNext Rest st hand call (Some c) a [] = ⊥
TellsNext Rest st hand call (Some c) a (l ∷ ls) =
    let next = hand_after hand c l.answer in
    (l.call ≡ c) × TellsAnswer next a l.answer × Rest l.state next ls

-- the calls made and the answers to them, in order, are those of the lines of the rules; and which draft is in hand in the end
abbrev pub Tells : State → Option Draft → List code.Call → List told.Line → List Line → Option Draft → Type 0
Tells st hand [] [] ls left = (ls ≡ []) × (left ≡ hand)
Tells st hand [] (a ∷ as') ls left = ⊥
Tells st hand (c ∷ cs) [] ls left = ⊥
Tells st hand (c ∷ cs) (a ∷ as') ls left = TellsNext (λ now next ms. Tells now next cs as' ms left) st hand c (call_as hand c a) a ls

-- the writes of lines of the rules, in order
abbrev pub writes_in : State → List Line → List Write
writes_in st [] = []
writes_in st (l ∷ ls) = writes st l.call ++ writes_in l.state ls

-- from one state to another by lines of the rules, which are what was called and answered, and by their writes
pub record Ran (st : State) (hand : Option Draft) (cs : List code.Call) (as' : List told.Line) (left : Option Draft) (end' : State) (ws : List Write) : Type 0 where
  pub lines : List Line
  pub follows : Follows st lines
  pub tells : Tells st hand cs as' lines left
  pub last : last_of st (map (λ l. l.state) lines) ≡ end'
  pub writes' : writes_in st lines ≡ ws

-- the lines answered are behind those that were there; the store took the writes of the rules, and the file stands for the last state
pub record Runs {S : Type 0} (bytes : S → List ℕ) (most : S → ℕ) (wrote : S → List Write → S → Type 0) (old : File S) (hand : Option token.Draft) (cs : List code.Call) (before : List told.Line)
    (new : File S) (behind : List told.Line) (left : Option token.Draft) : Type 0 where
  pub lines : List told.Line
  pub behind' : behind ≡ before ++ lines
  pub ran : (st : State) → StandsAt bytes most old st
      → (end' : State) × (ws : List Write) × Ran st (in_hand hand) cs lines (in_hand left) end' ws × wrote old.store ws new.store × StandsAt bytes most new end'

-- on a file that was opened from bytes b, they are a journal
abbrev pub JournalOf : Type 0
JournalOf = (b : List ℕ) (ceiling mark : ℕ) (s : Section) → Bytes b → length b ≤ ceiling → answer (shut b ceiling) (open_file mark) ≡ accepted s
    → (hand : Option Draft) (cs : List code.Call) (as' : List told.Line) (left : Option Draft) (end' : State) (ws : List Write)
    → (ran : Ran (after (shut b ceiling) (open_file mark)) hand cs as' left end' ws)
    → (j : Journal) × (j.bytes ≡ b) × (j.ceiling ≡ ceiling) × (j.mark ≡ mark) × (j.section ≡ s) × (j.lines ≡ ran.lines) × (end_state j ≡ end')

-- what lines of the rules are from a shut file on: they leave it shut and write nothing; or one of them opens it, and those behind that are a journal, with all the writes
pub data Begins (b : List ℕ) (ceiling : ℕ) (lines : List Line) (end' : State) (ws : List Write) : Type 0 where
  stays_shut : end' ≡ shut b ceiling → ws ≡ [] → Begins b ceiling lines end' ws
  begins : (before : List Line) (l : Line) (j : Journal) → lines ≡ before ++ (l ∷ j.lines) → AllByRecursion (λ m. m.state ≡ shut b ceiling) before
      → l.call ≡ open_file j.mark → l.answer ≡ accepted j.section → j.bytes ≡ b → j.ceiling ≡ ceiling → end_state j ≡ end'
      → ws ≡ writes_in (after (shut b ceiling) (open_file j.mark)) j.lines → Begins b ceiling lines end' ws

-- each run on a file that was made over bytes b is so
abbrev pub RunsBegin : Type 0
RunsBegin = (b : List ℕ) (ceiling : ℕ) → Bytes b → length b ≤ ceiling
    → (hand : Option Draft) (cs : List code.Call) (as' : List told.Line) (left : Option Draft) (end' : State) (ws : List Write)
    → (ran : Ran (shut b ceiling) hand cs as' left end' ws) → Begins b ceiling ran.lines end' ws

-- a file that was made over a store, and on which calls were made in order, stands for a state of the rules: lines of the rules lead to it from the shut file,
-- they are what was called and answered, and the store took their writes
pub record RunsNew {S : Type 0} (bytes : S → List ℕ) (most : S → ℕ) (wrote : S → List Write → S → Type 0) (store : S) (cs : List code.Call) (before : List told.Line)
    (new : File S) (behind : List told.Line) (left : Option token.Draft) : Type 0 where
  pub lines : List told.Line
  pub behind' : behind ≡ before ++ lines
  pub end' : State
  pub writes' : List Write
  pub ran : Ran (shut (bytes store) (most store)) None cs lines (in_hand left) end' writes'
  pub wrote' : wrote store writes' new.store
  pub stands : StandsAt bytes most new end'
  pub begins' : Begins (bytes store) (most store) ran.lines end' writes'
