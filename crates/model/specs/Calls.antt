-- The calls on a file: for each state and all arguments the answer, the writes in order, and the state after them.
use Rattle.std.specs.Prelude.{ℕ, ◌+◌, ◌^◌, Bool, true, false, not, ◌&&◌, ◌||◌, List, [], ◌∷◌, ◌++◌, map, length, Some, None, Option, ◌==◌, nat_le, nat_lt}
use Rattle.model.specs.declared.types.Fault.{Fault}
use Rattle.model.specs.Bytes.{same_row, Write, applied}
use Rattle.model.specs.Faults.{fault, Outcome, done, refused, Check, unless, then}
use Rattle.model.specs.Headers.{most}
use Rattle.model.specs.Section.{Section}
use Rattle.model.specs.Opened.{opened}
use Rattle.model.specs.Looks.{Look, Looked, answered, look}
use Rattle.model.specs.Layouts.{Add, plain, with_data, branch, Layout, member, find_tail}
use Rattle.model.specs.Saving.{planned, layout}
use Rattle.model.specs.Committing.{logged, committing}

-- a draft is the one open here if both its numbers are the file's: the mark given to open, and the number of begins done since
pub record Draft : Type 0 where
  pub mark : ℕ
  pub number : ℕ

-- an opened file: its mark, the begins done since it was opened, and the adds done in the open draft, if one is open.
-- The open draft is always the last begun, so its number is that of the begins.
pub record Access : Type 0 where
  pub mark : ℕ
  pub begins : ℕ
  pub draft : Option (List Add)

-- a file: the bytes and the ceiling that its store means, and what is known of it once it is opened
pub record State : Type 0 where
  pub bytes : List ℕ
  pub ceiling : ℕ
  pub access : Option Access

pub data Call : Type 0 where
  open_file : (mark : ℕ) → Call
  begin : Call
  add : Draft → Add → Call
  commit : Draft → (guid : List ℕ) → Call
  abandon : Draft → Call
  looking : Look → Call

pub data Answer : Type 0 where
  accepted : Section → Answer
  begun : Draft → Answer
  added : Answer
  -- a branch answers the ID of the list that it made
  made : ℕ → Answer
  committed : Answer
  abandoned : Answer
  saw : Looked → Answer
  refusal : Fault → Answer

-- what a call that is not refused does
pub record Effect : Type 0 where
  pub answer : Answer
  pub writes : List Write
  pub access : Option Access

abbrev pub access_of : ℕ → ℕ → Option (List Add) → Option Access
access_of m n d = Some (record { mark = m; begins = n; draft = d })

-- the refusals of saving, which tell no place and no list
abbrev pub saving : ℕ → Fault
saving number = fault number 4 0 0

-- 15 shut, in the layer of the call: 4 for saving, 5 for looks
abbrev pub when_open : {A : Type 0} → ℕ → Option Access → (Access → Outcome A) → Outcome A
when_open layer None k = refused (fault 15 layer 0 0)
when_open layer (Some d) k = k d

-- 16 foreign: the draft is not the one open here
abbrev pub in_draft : {A : Type 0} → Access → Draft → Option (List Add) → (List Add → Outcome A) → Outcome A
in_draft d draft None k = refused (saving 16)
in_draft d draft (Some adds) k =
    let rest = k adds in
    unless ((not (draft.mark == d.mark) || not (draft.number == d.begins), saving 16) ∷ []) rest

-- ---- adds

abbrev pub list_of : Add → ℕ
list_of (plain list id payload) = list
list_of (with_data list id payload content) = list
list_of (branch list id payload first_id first_payload) = list

-- 18 size: a node over 988 bytes (with 4 for its head and 12 for a reference), data empty or over 65,536
abbrev pub too_large : Add → Bool
too_large (plain list id payload) = nat_lt 988 (4 + length payload)
too_large (with_data list id payload content) = nat_lt 988 (16 + length payload) || length content == 0 || nat_lt 65536 (length content)
too_large (branch list id payload first_id first_payload) = nat_lt 988 (16 + length payload) || nat_lt 988 (4 + length first_payload)

-- 19 kind: a node ID of 0, 0x0FF or over 0x3FF
abbrev pub bad_id : ℕ → Bool
bad_id id = id == 0 || id == 0xFF || nat_lt 0x3FF id

abbrev pub bad_ids : Add → Bool
bad_ids (plain list id payload) = bad_id id
bad_ids (with_data list id payload content) = bad_id id
bad_ids (branch list id payload first_id first_payload) = bad_id id || bad_id first_id

-- 24 ceiling: a new end past the ceiling or 2^40
abbrev pub past_ceiling : ℕ → ℕ → ℕ → Bool
past_ceiling old ceiling end = nat_lt old end && (nat_lt ceiling end || nat_lt most end)

-- 17 no list: neither reached nor made in the draft; 20 wide: a 17th list in the draft; 13 full: list 1,025 or fragment 2,049;
-- 23 last: the list's count or the new list's ID would outgrow 4 bytes
abbrev pub add_checks : ℕ → Layout → Add → List Check
add_checks ceiling before a =
    let after = (planned before a).layout in
    (not (member (list_of a) (map (λ t. t.id) before.tails)), saving 17)
    ∷ (too_large a, saving 18)
    ∷ (bad_ids a, saving 19)
    ∷ (nat_lt 16 (length after.touched), saving 20)
    ∷ (nat_lt 1024 after.lists || nat_lt 2048 after.fragments, saving 13)
    ∷ (nat_le (2 ^ 32) (find_tail after.tails (list_of a)).count || nat_le (2 ^ 32) after.highest, saving 23)
    ∷ (past_ceiling before.end ceiling after.end, saving 24)
    ∷ []

abbrev pub add_answer : Layout → Add → Answer
add_answer after (plain list id payload) = added
add_answer after (with_data list id payload content) = added
add_answer after (branch list id payload first_id first_payload) = made after.highest

-- ---- commit

abbrev pub none_yet : List Add → Bool
none_yet [] = true
none_yet (a ∷ as') = false

-- 21 empty: a commit of nothing; 22 same: guidFileVersion unchanged; 13 full; 23 last: cTransactionsInLog would outgrow 4 bytes, or nFileVersionGeneration 8
abbrev pub commit_checks : ℕ → Section → List Add → List ℕ → List Check
commit_checks ceiling s adds guid =
    let y = layout s adds in
    (none_yet adds, saving 21)
    ∷ (same_row guid s.header.version, saving 22)
    ∷ (nat_lt 2048 (logged s y).fragments, saving 13)
    ∷ (nat_le (2 ^ 32) (s.header.count + 1) || nat_le (2 ^ 64) (s.header.generation + 1), saving 23)
    ∷ (past_ceiling y.end ceiling (logged s y).end, saving 24)
    ∷ []

-- ---- calls

-- 14 busy: open when open, begin with a draft open
abbrev pub opening : State → Option Access → ℕ → Outcome Effect
opening s (Some d) mark = refused (saving 14)
opening s None mark = then (opened s.bytes) (λ section. done (record { answer = accepted section; writes = []; access = access_of mark 0 None }))

abbrev pub beginning : Access → Option (List Add) → Outcome Effect
beginning d (Some adds) = refused (saving 14)
beginning d None =
    let n = d.begins + 1 in
    unless ((nat_le (2 ^ 64) n, saving 23) ∷ [])
    (done (record { answer = begun (record { mark = d.mark; number = n }); writes = []; access = access_of d.mark n (Some []) }))

-- a refused look leaves its buffer, so its refusal is told with the buffer
abbrev pub looked_at : Option Access → List ℕ → Look → Looked
looked_at None b l = answered l (refused (fault 15 5 0 0))
looked_at (Some d) b l = look b l

-- what a call does, or the first reason to refuse it; all checks are made before the first write
abbrev pub effect : State → Call → Outcome Effect
effect s (open_file mark) = opening s s.access mark
effect s begin = when_open 4 s.access (λ d. beginning d d.draft)
effect s (add draft a) =
    when_open 4 s.access (λ d.
    in_draft d draft d.draft (λ adds.
    then (opened s.bytes) (λ section.
    let before = layout section adds in
    let plan = planned before a in
    unless (add_checks s.ceiling before a)
    (done (record { answer = add_answer plan.layout a; writes = plan.writes; access = access_of d.mark d.begins (Some (adds ++ (a ∷ []))) })))))
effect s (commit draft guid) =
    when_open 4 s.access (λ d.
    in_draft d draft d.draft (λ adds.
    then (opened s.bytes) (λ section.
    unless (commit_checks s.ceiling section adds guid)
    (done (record { answer = committed; writes = committing s.bytes section adds guid; access = access_of d.mark d.begins None })))))
effect s (abandon draft) =
    when_open 4 s.access (λ d.
    in_draft d draft d.draft (λ adds. done (record { answer = abandoned; writes = []; access = access_of d.mark d.begins None })))
effect s (looking l) = done (record { answer = saw (looked_at s.access s.bytes l); writes = []; access = s.access })

-- a refused call changes nothing
abbrev pub answer_of : Outcome Effect → Answer
answer_of (done e) = e.answer
answer_of (refused f) = refusal f

abbrev pub writes_of : Outcome Effect → List Write
writes_of (done e) = e.writes
writes_of (refused f) = []

abbrev pub access_after : Option Access → Outcome Effect → Option Access
access_after old (done e) = e.access
access_after old (refused f) = old

unfoldable pub answer : State → Call → Answer
answer s c = answer_of (effect s c)

unfoldable pub writes : State → Call → List Write
writes s c = writes_of (effect s c)

unfoldable pub after : State → Call → State
unfolding writes
after s c = record { bytes = applied s.bytes (writes s c); ceiling = s.ceiling; access = access_after s.access (effect s c) }
