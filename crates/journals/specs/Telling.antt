-- Calls of the code and the lines that answer them, in the rules' words.
use Rattle.std.specs.Prelude.{◌≡◌, Bool, true, false, cond, Some, None, Ok, Err, Option, ◌==◌}
use Rattle.model.specs.Section.{Section}
use Rattle.model.specs.Calls.{Draft, State, Call, open_file, begin, add, commit, abandon, looking, Answer, accepted, begun, added, made, committed, abandoned, saw, refusal}
use Rattle.model.specs.Looks.{Look, node_look, data_look, alike, Looked}
use Rattle.refusals.specs.CallRefusals.{save_told}
use Rattle.refusals.specs.Refusals.{told}
use Rattle.looks.specs.Answers.{node_answer, data_answer, alike_answer}
use Rattle.adding.specs.Adds.{add_of}
use Rattle.section.specs.declared.drafting.Draft as token
use Rattle.section.specs.Figures.{figures_of}
use Rattle.section.specs.SavingAnswers.{as_draft, add_answer, abandon_answer}
use Rattle.journals.specs.declared.calls.Call as code
use Rattle.journals.specs.declared.calls.Call.TheVariants as calls
use Rattle.journals.specs.declared.calls.Line.{Line}
use Rattle.journals.specs.declared.calls.Line.TheVariants as lines
use Rattle.journals.specs.declared.calls.Look as asked
use Rattle.journals.specs.declared.calls.Look.TheVariants as asks
use Rattle.journals.specs.declared.calls.Seen.{Seen}
use Rattle.journals.specs.declared.calls.Seen.TheVariants as sees

abbrev pub look_as : asked.Look → Look
look_as (asks.Node k list index buffer) = node_look k list index buffer.now
look_as (asks.Data k list index place size buffer) = data_look k list index place size buffer.now
look_as (asks.Alike k list index other_list other_index) = alike k list index other_list other_index

-- what a look answered, and what its buffer then holds
abbrev pub seen_as : Seen → Looked
seen_as (sees.Node node buffer) = node_answer node buffer.now
seen_as (sees.Data size done buffer) = data_answer size done buffer.now
seen_as (sees.Alike same) = alike_answer same

-- the draft in hand
abbrev pub in_hand : Option token.Draft → Option Draft
in_hand None = None
in_hand (Some d) = Some (as_draft d)

-- a call that takes the draft in hand; none without one
abbrev pub taking : Option Draft → (Draft → Call) → Option Call
taking None c = None
taking (Some d) c = Some (c d)

-- a begin; none with a draft in hand
abbrev pub beginning : Option Draft → Option Call
beginning None = Some begin
beginning (Some d) = None

-- an opening was refused for want of room. The rules know no room, so they say nothing of such an opening, and the file stays shut.
abbrev pub lacks_room : Line → Bool
lacks_room (lines.Opened (Ok f)) = false
lacks_room (lines.Opened (Err e)) = (told e).number == 100
lacks_room (lines.Begun r) = false
lacks_room (lines.Added r) = false
lacks_room (lines.Committed r) = false
lacks_room (lines.Abandoned r) = false
lacks_room (lines.Saw seen) = false
lacks_room lines.HasDraft = false
lacks_room lines.NoDraft = false

-- the call of the rules that is made with this draft in hand and answered by this line, if one is
abbrev pub call_as : Option Draft → code.Call → Line → Option Call
call_as hand (calls.Open mark) a = cond (lacks_room a) None (Some (open_file mark))
call_as hand calls.Begin a = beginning hand
call_as hand (calls.Add new) a = taking hand (λ d. add d (add_of new))
call_as hand (calls.Commit guid) a = taking hand (λ d. commit d guid)
call_as hand calls.Abandon a = taking hand (λ d. abandon d)
call_as hand (calls.Look l) a = Some (looking (look_as l))

-- the draft that is in hand is the one begun
abbrev pub begun_in : Option Draft → Option Answer
begun_in None = None
begun_in (Some d) = Some (begun d)

-- a call that takes no draft and begins none
abbrev pub NeedsNoDraft : code.Call → Type 0
NeedsNoDraft (calls.Open mark) = Unit {0}
NeedsNoDraft calls.Begin = ⊥
NeedsNoDraft (calls.Add new) = ⊥
NeedsNoDraft (calls.Commit guid) = ⊥
NeedsNoDraft calls.Abandon = ⊥
NeedsNoDraft (calls.Look l) = Unit {0}

-- a line tells an answer of the rules, with the draft that is in hand then: of an accepted section it tells the figures
abbrev pub TellsAnswer : Option Draft → Line → Answer → Type 0
TellsAnswer hand (lines.Opened (Ok f)) x = (s : Section) × (f ≡ figures_of s) × (x ≡ accepted s)
TellsAnswer hand (lines.Opened (Err e)) x = x ≡ refusal (told e)
TellsAnswer hand (lines.Begun (Ok u)) x = begun_in hand ≡ Some x
TellsAnswer hand (lines.Begun (Err e)) x = x ≡ refusal (save_told e)
TellsAnswer hand (lines.Added r) x = x ≡ add_answer r
TellsAnswer hand (lines.Committed (Ok u)) x = x ≡ committed
TellsAnswer hand (lines.Committed (Err e)) x = x ≡ refusal (save_told e)
TellsAnswer hand (lines.Abandoned r) x = x ≡ abandon_answer r
TellsAnswer hand (lines.Saw seen) x = x ≡ saw (seen_as seen)
TellsAnswer hand lines.HasDraft x = ⊥
TellsAnswer hand lines.NoDraft x = ⊥

-- no call of the rules was made: the opening of a shut file lacked room, there was a draft in hand, or none
abbrev pub IsNoCall : State → code.Call → Line → Type 0
IsNoCall st (calls.Open mark) a = (lacks_room a ≡ true) × (st.access ≡ None)
IsNoCall st calls.Begin a = a ≡ lines.HasDraft
IsNoCall st (calls.Add new) a = a ≡ lines.NoDraft
IsNoCall st (calls.Commit guid) a = a ≡ lines.NoDraft
IsNoCall st calls.Abandon a = a ≡ lines.NoDraft
IsNoCall st (calls.Look l) a = ⊥

-- the draft in hand after an answer: one begun comes into hand, one committed or abandoned leaves it
abbrev pub answered : Option Draft → Answer → Option Draft
answered hand (accepted s) = hand
answered hand (begun d) = Some d
answered hand added = hand
answered hand (made id) = hand
answered hand committed = None
answered hand abandoned = None
answered hand (saw l) = hand
answered hand (refusal f) = hand

-- abandon lets a draft go even if it is refused
abbrev pub hand_after : Option Draft → Call → Answer → Option Draft
hand_after hand (open_file mark) a = answered hand a
hand_after hand begin a = answered hand a
hand_after hand (add d new) a = answered hand a
hand_after hand (commit d guid) a = answered hand a
hand_after hand (abandon d) a = None
hand_after hand (looking l) a = answered hand a
