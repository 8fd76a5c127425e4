-- Laws above the definitions, each a statement to be proved and named by a contract.
use Rattle.std.specs.Prelude.{◌≡◌, ℕ, ◌+◌, ◌-◌, ◌*◌, ◌<◌, ◌≤◌, max, false, ◌↔◌, List, [], ◌∷◌, ◌++◌, length, Some, None, Option, slice_index}
use Rattle.std.specs.List.{ContainsAt, AllByRecursion}
use Rattle.model.specs.declared.types.Span.{Span}
use Rattle.model.specs.declared.types.Fault.{Fault}
use Rattle.model.specs.Bytes.{Write, applied, behind, Bytes}
use Rattle.model.specs.Faults.{done, refused}
use Rattle.model.specs.References.{span, end_of}
use Rattle.model.specs.Headers.{header_span}
use Rattle.model.specs.LogFragments.{entry_place, log_next}
use Rattle.model.specs.Section.{Log, NodeList, Section, last_of}
use Rattle.model.specs.Opened.{opened}
use Rattle.model.specs.Means.{Within, data_spans, Means, InOrder}
use Rattle.model.specs.Breaks.{Breaks}
use Rattle.model.specs.Looks.{Look, looks_to, look}
use Rattle.model.specs.Layouts.{Add, Layout, blank}
use Rattle.model.specs.Saving.{planned, layout}
use Rattle.model.specs.Committing.{logged, committing}
use Rattle.model.specs.Calls.{Access, State, Call, open_file, accepted, add_checks, commit_checks, answer, writes, after}
use Rattle.model.specs.Journal.{FitAdd, Fit, shut, Journal, commits, end_state, LookAlike}
use Rattle.model.specs.Cuts.{Cut, raised}
use Rattle.model.specs.Contents.{held, saved, drafted}

-- ---- opening

-- a file is accepted exactly when its bytes hold a section, and it is that one
abbrev pub OpenedMeans : Type 0
OpenedMeans = (b : List ℕ) (s : Section) → (opened b ≡ done s) ↔ (Means b s × InOrder s.header s.lists)

-- acceptance does not depend on the order of the lists: two sections with the same header, log and lists, in any order
pub record SameLists (s t : Section) : Type 0 where
  pub header : t.header ≡ s.header
  pub log : t.log ≡ s.log
  pub number : length t.lists ≡ length s.lists
  pub lists : AllByRecursion (λ l. ContainsAt t.lists l) s.lists

abbrev pub MeantOpens : Type 0
MeantOpens = (b : List ℕ) (s : Section) → Means b s → (t : Section) × (opened b ≡ done t) × SameLists s t

-- a refusal tells the first broken rule
abbrev pub RefusedBreaks : Type 0
RefusedBreaks = (b : List ℕ) (f : Fault) → (opened b ≡ refused f) ↔ Breaks b f

-- ---- which bytes count

-- whole: the header, each fragment but the last of its chain, and present data; of a last fragment what is used, and a list's last mark
abbrev pub but_last : List Span → List Span
but_last [] = []
but_last (f ∷ []) = []
but_last (f ∷ (g ∷ gs)) = f ∷ but_last (g ∷ gs)

abbrev pub last_fragment : List Span → Span
last_fragment fs = last_of (span 0 0) fs

abbrev pub list_footprint : NodeList → List Span
list_footprint l =
    let f = last_fragment l.fragments in
    span f.start (l.free - f.start) ∷ span (end_of f - 8) 8 ∷ but_last l.fragments

abbrev pub log_footprint : Log → List Span
log_footprint l =
    let f = last_fragment l.fragments in
    span f.start (8 * l.used) ∷ but_last l.fragments

pub data Footprint (s : Section) (i : ℕ) : Type 0 where
  in_header : Within header_span i → Footprint s i
  in_log : {r : Span} → ContainsAt (log_footprint s.log) r → Within r i → Footprint s i
  in_list : {l : NodeList} {r : Span} → ContainsAt s.lists l → ContainsAt (list_footprint l) r → Within r i → Footprint s i
  in_data : {r : Span} → ContainsAt (data_spans s.lists) r → Within r i → Footprint s i

-- where a draft writes: behind the file's end; in a list's last fragment from behind its last node through the next reference;
-- in the last log fragment from behind the last finished sentinel through the next reference
pub data Free (s : Section) (i : ℕ) : Type 0 where
  past_end : s.header.end ≤ i → Free s i
  in_log : entry_place (last_fragment s.log.fragments) s.log.used ≤ i → i < log_next (last_fragment s.log.fragments) + 12 → Free s i
  in_list : {l : NodeList} → ContainsAt s.lists l → l.free ≤ i → i < end_of (last_fragment l.fragments) - 8 → Free s i

-- bytes that agree on the footprint, and reach the end, are the same file: opened alike, and looked at alike
abbrev pub Local : Type 0
Local = (b c : List ℕ) (s : Section) → opened b ≡ done s → s.header.end ≤ length c → ((i : ℕ) → Footprint s i → slice_index c i ≡ slice_index b i)
    → (opened c ≡ done s) × ((l : Look) → look c l ≡ look b l)

-- no byte is in both
abbrev pub FreeApart : Type 0
FreeApart = (b : List ℕ) (s : Section) → opened b ≡ done s → (i : ℕ) → Footprint s i → Free s i → ⊥

-- a write lies in the free zone of s
abbrev pub WritesFree : Section → Write → Type 0
WritesFree s w = (i : ℕ) → w.place ≤ i → i < behind w → Free s i

-- ---- drafts

-- adds that were all done, one after the other, over the same finished file
abbrev pub DoneAdds : ℕ → Layout → List Add → Type 0
DoneAdds ceiling y [] = Unit {0}
DoneAdds ceiling y (a ∷ as') = FitAdd a × AllByRecursion (λ c. c.0 ≡ false) (add_checks ceiling y a) × DoneAdds ceiling (planned y a).layout as'

abbrev pub add_writes : Layout → List Add → List Write
add_writes y [] = []
add_writes y (a ∷ as') = (planned y a).writes ++ add_writes (planned y a).layout as'

-- a store of this length and ceiling takes the writes, one after the other
abbrev pub Taken : ℕ → ℕ → List Write → Type 0
Taken n ceiling [] = Unit {0}
Taken n ceiling (w ∷ ws) = (w.place ≤ n) × (behind w ≤ ceiling) × Taken (max n (behind w)) ceiling ws

-- so no write of a call is ever refused by the store
abbrev pub WritesTaken : Type 0
WritesTaken = (j : Journal) (c : Call) → Fit c → Taken (length (end_state j).bytes) j.ceiling (writes (end_state j) c)

-- every write of a draft, and every write of its commit but the header's, lies in the free zone of the file at begin
abbrev pub DraftsWriteFree : Type 0
DraftsWriteFree = (b : List ℕ) (ceiling : ℕ) (s : Section) (adds : List Add) → Bytes b → opened b ≡ done s → DoneAdds ceiling (blank s) adds
    → AllByRecursion (WritesFree s) (add_writes (blank s) adds ++ (logged s (layout s adds)).writes)

-- a commit's writes, over the bytes that a draft has left, make a file that is accepted, with the count one higher, the new end, and in each list
-- what it held, then the draft's nodes
pub record CommitsTo (b : List ℕ) (s : Section) (adds : List Add) (c : List ℕ) (guid : List ℕ) : Type 0 where
  pub section : Section
  pub opens : opened c ≡ done section
  pub count : section.header.count ≡ s.header.count + 1
  pub generation : section.header.generation ≡ s.header.generation + 1
  pub version : section.header.version ≡ guid
  pub end : section.header.end ≡ (logged s (layout s adds)).end
  pub grown : (id : ℕ) → held c id ≡ held b id ++ saved (blank s) adds id

abbrev pub CommitReads : Type 0
CommitReads = (b : List ℕ) (ceiling : ℕ) (s : Section) (adds : List Add) (guid : List ℕ) → Bytes b → Bytes guid → length guid ≡ 16
    → opened b ≡ done s → DoneAdds ceiling (blank s) adds → AllByRecursion (λ c. c.0 ≡ false) (commit_checks ceiling s adds guid)
    → CommitsTo b s adds (applied (applied b (add_writes (blank s) adds)) (committing (applied b (add_writes (blank s) adds)) s adds guid)) guid

-- growth: over a commit each look to a k up to the old count answers as before
abbrev pub LooksGrow : Type 0
LooksGrow = (b : List ℕ) (ceiling : ℕ) (s : Section) (adds : List Add) (guid : List ℕ) → Bytes b → Bytes guid → length guid ≡ 16
    → opened b ≡ done s → DoneAdds ceiling (blank s) adds → AllByRecursion (λ c. c.0 ≡ false) (commit_checks ceiling s adds guid)
    → (l : Look) → 1 ≤ looks_to l → looks_to l ≤ s.header.count
    → look (applied (applied b (add_writes (blank s) adds)) (committing (applied b (add_writes (blank s) adds)) s adds guid)) l ≡ look b l

-- ---- states of an opened file

-- the adds of the open draft; none if no draft is open
abbrev pub adds_of : Option (List Add) → List Add
adds_of None = []
adds_of (Some adds) = adds

-- an opened file with the count n: the bytes `start` hold a finished file, and the open draft's writes, all done, have made them what they are
pub record Sound (s : State) (n ceiling : ℕ) : Type 0 where
  pub access : Access
  pub open' : s.access ≡ Some access
  pub start : List ℕ
  pub section : Section
  pub are_bytes : Bytes start
  pub finished : opened start ≡ done section
  pub count : section.header.count ≡ n
  pub same_ceiling : s.ceiling ≡ ceiling
  pub below_ceiling : length s.bytes ≤ ceiling
  pub adds : DoneAdds ceiling (blank section) (adds_of access.draft)
  pub bytes : s.bytes ≡ applied start (add_writes (blank section) (adds_of access.draft))

-- an accepted opening gives one
abbrev pub OpensSound : Type 0
OpensSound = (b : List ℕ) (ceiling mark : ℕ) (section : Section) → Bytes b → length b ≤ ceiling → answer (shut b ceiling) (open_file mark) ≡ accepted section
    → Sound (after (shut b ceiling) (open_file mark)) section.header.count ceiling

-- every call keeps one, and each look to a k up to its count
abbrev pub StepsSound : Type 0
StepsSound = (s : State) (n ceiling : ℕ) (c : Call) → Sound s n ceiling → Fit c
    → Sound (after s c) (n + commits (answer s c)) ceiling × ((k : ℕ) → 1 ≤ k → k ≤ n → LookAlike k (after s c) s)

-- what a cut call leaves of a state with the count n
pub record Survives (s : State) (n ceiling : ℕ) (c : Call) {b : List ℕ} {w : Write} {t : List ℕ} (cut : Cut b w t) (mark : ℕ) : Type 0 where
  pub section : Section
  pub opens : answer (shut t ceiling) (open_file mark) ≡ accepted section
  pub count : section.header.count ≡ n + raised c cut
  pub looks : (k : ℕ) → 1 ≤ k → k ≤ n → LookAlike k (after (shut t ceiling) (open_file mark)) s
  pub grown : raised c cut ≡ 1 → (id : ℕ) → held t id ≡ held s.bytes id ++ drafted s id

abbrev pub CutsSurvive : Type 0
CutsSurvive = (s : State) (n ceiling : ℕ) (c : Call) → Sound s n ceiling → Fit c → (before later : List Write) (w : Write) → writes s c ≡ before ++ (w ∷ later)
    → (t : List ℕ) (cut : Cut (applied s.bytes before) w t) (mark : ℕ) → Survives s n ceiling c cut mark
