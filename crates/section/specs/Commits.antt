-- A commit in the code: the checks by what the code knows, and what it then knows.
use Rattle.std.specs.Prelude.{◌≡◌, ℕ, ◌+◌, ◌-◌, ◌*◌, ◌^◌, ◌<◌, ◌≤◌, false, ◌||◌, List, [], ◌∷◌, length, Ok, Err, Result, ◌==◌, nat_le, nat_lt}
use Rattle.model.specs.declared.types.Header.{Header}
use Rattle.model.specs.Bytes.{same_row, Write}
use Rattle.model.specs.Faults.{Check, done}
use Rattle.model.specs.Section.{Section}
use Rattle.model.specs.Opened.{opened}
use Rattle.model.specs.Layouts.{Add}
use Rattle.model.specs.Calls.{Answer, committed, refusal, saving, past_ceiling}
use Rattle.commits.specs.Parts.{Leaves}
use Rattle.tables.specs.declared.room.Room.{Room}
use Rattle.tables.specs.Kept.{Kept}
use Rattle.committing.specs.CommitWrites.{entries_for, runs_out, log_then, end_then, commit_writes}
use Rattle.committing.specs.LogParts.{LogSizes}
use Rattle.drafts.specs.declared.layout.DraftLayout.{DraftLayout}
use Rattle.drafts.specs.Lays.{Lays}
use Rattle.drafts.specs.Rowed.{Rowed}
use Rattle.drafts.specs.Steps.{one}
use Rattle.refusals.specs.declared.calls.SaveFault.{SaveFault}
use Rattle.refusals.specs.CallRefusals.{save_told}
use Rattle.section.specs.declared.access.Access.{Access}

-- the numbers of a draft that its adds' checks let through, and how many bytes header and fragments have before it
pub record Sized (d : DraftLayout) (a : Access) : Type 0 where
  pub log : LogSizes a.log d.end (entries_for d.touched)
  pub fragments : d.fragments ≤ 2048
  pub used : a.used < 2 ^ 57

-- how many entries its commit has: one for each list that the draft touched, and the sentinel; and whether these take a fragment more
abbrev pub entries_of : DraftLayout → ℕ
entries_of d = length d.touched + 1

abbrev pub fragments_then : DraftLayout → Access → ℕ
fragments_then d a = d.fragments + one (runs_out a.log (entries_of d))

-- how many bytes header and fragments have, once there are so many fragments: those made since are of 1,024 bytes
abbrev pub used_with : Access → ℕ → ℕ
used_with a fragments = a.used + 1024 * (fragments - a.fragments)

-- the file's end then
unfoldable pub file_end : DraftLayout → Access → ℕ
file_end d a = end_then a.log d.end (entries_for d.touched)

-- the checks of a commit
unfoldable pub checks_of : ℕ → DraftLayout → Access → List ℕ → List Check
checks_of ceiling d a guid =
    (length d.touched == 0, saving 21)
    ∷ (same_row guid a.header.version, saving 22)
    ∷ (nat_lt 2048 (fragments_then d a), saving 13)
    ∷ (nat_le (2 ^ 32) (a.header.count + 1) || nat_le (2 ^ 64) (a.header.generation + 1), saving 23)
    ∷ (past_ceiling d.end ceiling (file_end d a), saving 24)
    ∷ []

-- its writes over the bytes b
abbrev pub writes_by : List ℕ → DraftLayout → Access → List ℕ → List Write
writes_by b d a guid = commit_writes b a.header a.log d.end (entries_for d.touched) guid

-- after the commit of a draft, with so many transactions before it, the tables keep what the file holds, if they did so before it
abbrev pub KeepsUp : Room → DraftLayout → ℕ → Room → Type 0
KeepsUp room d count new = (b c : List ℕ) (s : Section) (adds : List Add) (t : Section) → opened b ≡ done s → opened c ≡ done t → count ≡ s.header.count
    → Kept b s room → Lays s adds d → Rowed room.lists d → Leaves s adds t → Kept c t new

-- what is known after it
abbrev pub header_then : Header → ℕ → List ℕ → Header
header_then h end guid = record { count = h.count + 1; end = end; generation = h.generation + 1; version = guid; hashed = h.hashed; log = h.log; root = h.root }

abbrev pub access_then : DraftLayout → Access → List ℕ → Access
access_then d a guid = record {
  mark = a.mark;
  begins = a.begins;
  drafting = false;
  header = header_then a.header (file_end d a) guid;
  log = log_then a.log d.end (entries_of d);
  fragments = fragments_then d a;
  used = used_with a (fragments_then d a);
  highest = d.highest;
}

-- a commit's answer in the model's words
abbrev pub commit_done : {T : Type 0} → Result T SaveFault → Answer
commit_done (Ok x) = committed
commit_done (Err e) = refusal (save_told e)
