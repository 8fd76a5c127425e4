-- What the calls of the code answer, in the model's words.
use Rattle.std.specs.Prelude.{◌≡◌, ℕ, ◌+◌, ◌^◌, Bool, true, false, cond, ◌&&◌, Some, None, Ok, Err, Option, Result, ◌==◌, nat_lt}
use Rattle.model.specs.Calls.{Answer, begun, added, made, committed, abandoned, saw, refusal}
use Rattle.refusals.specs.declared.calls.SaveFault.{SaveFault}
use Rattle.refusals.specs.declared.calls.SaveFault.TheVariants as save
use Rattle.refusals.specs.CallRefusals.{save_told}
use Rattle.writing.specs.declared.tails.Tail.{Tail}
use Rattle.section.specs.declared.access.Access.{Access}
use Rattle.section.specs.declared.drafting.Draft.{Draft}
use Rattle.section.specs.declared.drafting.NotCommitted.{NotCommitted}

abbrev pub as_draft : Draft → Rattle.model.specs.Calls.Draft
as_draft d = record { mark = d.mark; number = d.number }

abbrev pub begin_answer : Result Draft SaveFault → Answer
begin_answer (Ok d) = begun (as_draft d)
begin_answer (Err e) = refusal (save_told e)

abbrev pub add_answer : Result (Option ℕ) SaveFault → Answer
add_answer (Ok None) = added
add_answer (Ok (Some id)) = made id
add_answer (Err e) = refusal (save_told e)

abbrev pub commit_answer : {T : Type 0} → Result T NotCommitted → Answer
commit_answer (Ok x) = committed
commit_answer (Err r) = refusal (save_told r.fault)

abbrev pub abandon_answer : {T : Type 0} → Result T SaveFault → Answer
abandon_answer (Ok x) = abandoned
abandon_answer (Err e) = refusal (save_told e)

-- a commit that is refused gives its draft back
abbrev pub GivesBack : {T : Type 0} → Draft → Result T NotCommitted → Type 0
GivesBack d (Ok x) = Unit {0}
GivesBack d (Err r) = r.draft ≡ d

-- ---- what is known of an opened file, and its draft

-- but for its draft
abbrev pub drafting_in : Access → ℕ → Bool → Access
drafting_in a begins drafting = record { mark = a.mark; begins = begins; drafting = drafting; header = a.header; log = a.log; fragments = a.fragments; used = a.used; highest = a.highest }

-- what is known of the file if it is open; else 15 shut
abbrev pub known : Option Access → Result Access SaveFault
known None = Err save.Shut
known (Some a) = Ok a

-- with one more draft begun, and open; else 14 busy, 23 last
abbrev pub with_draft : Access → Result Access SaveFault
with_draft a = cond a.drafting (Err save.Busy) (cond (nat_lt (a.begins + 1) (2 ^ 64)) (Ok (drafting_in a (a.begins + 1) true)) (Err save.Last))

abbrev pub begun_in : Option Access → Result Access SaveFault
begun_in None = Err save.Shut
begun_in (Some a) = with_draft a

-- with no draft open
abbrev pub without_draft : Access → Access
without_draft a = drafting_in a a.begins false

-- the draft begun last
abbrev pub last_draft : Access → Draft
last_draft a = record { mark = a.mark; number = a.begins }

-- the draft is the one open in the file
abbrev pub owns : Access → Draft → Bool
owns a d = a.drafting && d.mark == a.mark && d.number == a.begins

-- what is known of the file in which the draft is open; else 15 shut, 16 foreign
abbrev pub owned : Option Access → Draft → Result Access SaveFault
owned None d = Err save.Shut
owned (Some a) d = cond (owns a d) (Ok a) (Err save.Foreign)

-- the ID of the list that an add made, if it made one
abbrev pub made_list : Option Tail → Option ℕ
made_list None = None
made_list (Some t) = Some t.list
