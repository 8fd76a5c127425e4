-- One call made on a file.
use Rattle.std.specs.Prelude.{◌≡◌, ℕ, List, [], Some, None, Option}
use Rattle.model.specs.Bytes.{Write}
use Rattle.model.specs.Calls.{Draft, State, Call, looking, saw, answer, writes, after}
use Rattle.model.specs.Journal.{Fit}
use Rattle.section.specs.declared.drafting.Draft as token
use Rattle.section.specs.declared.files.File.{File}
use Rattle.section.specs.States.{StandsFor}
use Rattle.journals.specs.declared.calls.Call as code
use Rattle.journals.specs.declared.calls.Line.{Line}
use Rattle.journals.specs.declared.calls.Look.{Look}
use Rattle.journals.specs.declared.calls.Seen.{Seen}
use Rattle.journals.specs.Telling.{in_hand, look_as, seen_as, call_as, TellsAnswer, IsNoCall, hand_after}

-- a file, shut or open, stands for a state of the rules
abbrev pub StandsAt : {S : Type 0} → (S → List ℕ) → (S → ℕ) → File S → State → Type 0
StandsAt bytes most f st = StandsFor (bytes f.store) (most f.store) f.room f.draft f.access st

-- what a call leaves, from a state and with a draft in hand: no call of the rules leaves all as it was; of another the line tells the answer of the rules,
-- and the store took the writes of the rules, no others
abbrev pub Leaves : (State → Type 0) → (List Write → Type 0) → State → Option Draft → code.Call → Option Call → Line → Option Draft → Type 0
Leaves At Wrote st hand call None a hand' = IsNoCall st call a × (hand' ≡ hand) × At st × Wrote []
Leaves At Wrote st hand call (Some c) a hand' = Fit c × TellsAnswer hand' a (answer st c) × (hand' ≡ hand_after hand c (answer st c)) × At (after st c) × Wrote (writes st c)

abbrev pub Makes : {S : Type 0} → (S → List ℕ) → (S → ℕ) → (S → List Write → S → Type 0) → File S → Option token.Draft → code.Call → File S → Line → Option token.Draft → Type 0
Makes bytes most wrote old hand c new a hand' = (st : State) → StandsAt bytes most old st
    → Leaves (StandsAt bytes most new) (λ ws. wrote old.store ws new.store) st (in_hand hand) c (call_as (in_hand hand) c a) a (in_hand hand')

-- a look answers what the rules say, and shows it in its buffer
abbrev pub Shows : {S : Type 0} → (S → List ℕ) → (S → ℕ) → File S → Look → Seen → Type 0
Shows bytes most f l seen = (st : State) → StandsAt bytes most f st → saw (seen_as seen) ≡ answer st (looking (look_as l))
