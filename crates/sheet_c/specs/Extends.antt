-- One transaction of one add, on a file that is not open.
use Rattle.std.specs.Prelude.{◌≡◌, ℕ, ◌<◌, ◌≤◌, List, length, take, Some, None, Ok, Err, Option, Result}
use Rattle.model.specs.declared.types.Fault.{Fault}
use Rattle.model.specs.Bytes.{Write}
use Rattle.model.specs.Faults.{fault, Outcome, done, refused}
use Rattle.model.specs.Layouts.{Add}
use Rattle.model.specs.Calls.{Draft, State, open_file, begin, add, commit, Answer, accepted, begun, added, made, committed, abandoned, saw, refusal, answer, after}
use Rattle.model.specs.Journal.{shut}
use Rattle.section.specs.OpenAnswers.{opened_in}
use Rattle.sheet_c.specs.declared.shapes.SheetFault.{SheetFault}
use Rattle.sheet_c.specs.Shapes.{fault_as, no_fault, no_memory}

-- what is answered, the ID of the list that the add made or 0, and the bytes afterwards
pub record Ran : Type 0 where
  pub answer : Outcome ℕ
  pub bytes : List ℕ

abbrev pub ran : Outcome ℕ → List ℕ → Ran
ran o b = record { answer = o; bytes = b }

-- a refused call is the last, and leaves these bytes
abbrev pub unless_told : Answer → List ℕ → Ran → Ran
unless_told (accepted s) b next = next
unless_told (begun d) b next = next
unless_told added b next = next
unless_told (made id) b next = next
unless_told committed b next = next
unless_told abandoned b next = next
unless_told (saw l) b next = next
unless_told (refusal f) b next = ran (refused f) b

-- the ID of the list that an add made, or 0
abbrev pub made_by : Answer → ℕ
made_by (accepted s) = 0
made_by (begun d) = 0
made_by added = 0
made_by (made id) = id
made_by committed = 0
made_by abandoned = 0
made_by (saw l) = 0
made_by (refusal f) = 0

-- the ID of a list, or 0 for none
abbrev pub id_or_0 : Option ℕ → ℕ
id_or_0 None = 0
id_or_0 (Some id) = id

-- an add and its commit, in a draft that was begun
unfoldable pub transacted : State → Draft → Add → List ℕ → Ran
transacted st d a guid =
    let one = answer st (add d a) in
    let then' = after st (add d a) in
    let end' = after then' (commit d guid) in
    unless_told one then'.bytes (unless_told (answer then' (commit d guid)) end'.bytes (ran (done (made_by one)) end'.bytes))

-- the state of a file that was opened with the mark 1, with its first draft begun; and that draft
abbrev pub drafting : State → State
drafting st = after (after st (open_file 1)) begin

abbrev pub first_draft : Draft
first_draft = record { mark = 1; number = 1 }

-- a file that is not accepted keeps its bytes
abbrev pub if_opened : {A : Type 0} → Outcome A → List ℕ → Ran → Ran
if_opened (done s) b next = next
if_opened (refused f) b next = ran (refused f) b

-- the file in the bytes b is opened, with room for so many counts; then one add is made, and committed
abbrev pub extended_in : ℕ → List ℕ → ℕ → Add → List ℕ → Ran
extended_in room b ceiling a guid = if_opened (opened_in room b) b (transacted (drafting (shut b ceiling)) first_draft a guid)

abbrev pub as_outcome : Result ℕ Fault → Outcome ℕ
as_outcome (Ok id) = done id
as_outcome (Err f) = refused f

-- a store is the same one after some writes
abbrev pub Trail : {S : Type 0} → (S → List Write → S → Type 0) → S → S → Type 0
Trail wrote s t = (ws : List Write) × wrote s ws t

-- what a transaction answers, the bytes afterwards, and that they come by writes to the store
pub record Ends {S : Type 0} (bytes : S → List ℕ) (wrote : S → List Write → S → Type 0) (old new : S) (r : Result ℕ Fault) (want : Ran) : Type 0 where
  pub answer' : as_outcome r ≡ want.answer
  pub bytes' : bytes new ≡ want.bytes
  pub trail : Trail wrote old new

-- ---- for C

-- for want of memory nothing is changed; else it is as the rules say
abbrev pub Runs : Option (Result ℕ Fault) → List ℕ → List ℕ → Ran → Type 0
Runs None was is want = is ≡ was
Runs (Some r) was is want = (as_outcome r ≡ want.answer) × (is ≡ want.bytes)

-- the fault of an answer is told; the ID of a list that was made too, else what was there stays
abbrev pub Tells : Outcome ℕ → SheetFault → ℕ → ℕ → Type 0
Tells (done id) f was is = (f ≡ no_fault) × (is ≡ id)
Tells (refused x) f was is = (f ≡ fault_as x) × (is ≡ was)

-- a buffer's first bytes are a file, which is extended: the bytes afterwards, the fault that is told, and the ID of a list that was made, or 0
pub data Extends (was is : List ℕ) (f : SheetFault) (made made' : ℕ) (want : Ran) : Type 0 where
  lacks : f ≡ no_memory → is ≡ was → made' ≡ made → Extends was is f made made' want
  runs : Tells want.answer f made made' → is ≡ want.bytes → Extends was is f made made' want

-- 28: the buffer has fewer bytes than its length says
pub record Extended (room : ℕ) (was : List ℕ) (len : ℕ) (a : Add) (guid : List ℕ) (is : List ℕ) (len' : ℕ) (f : SheetFault) (made made' : ℕ) : Type 0 where
  pub refused' : length was < len → (f ≡ fault_as (fault 28 6 0 0)) × (is ≡ was) × (len' ≡ len) × (made' ≡ made)
  pub extends : len ≤ length was → Extends (take len was) (take len' is) f made made' (extended_in room (take len was) (length was) a guid)
  pub fits : len ≤ length was → len' ≤ length is
