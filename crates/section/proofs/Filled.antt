-- What reading a file answers, from what its parts answer.
use Rattle.std.proofs.Common.{◌≡◌, ℕ, ◌+◌, ◌^◌, ◌<◌, List, [], length, IsErrAnd, Some, None, Ok, Err, vec_items, Option, Result, sym, refl, ap, ◌∙◌, subst, false, arith}
use Rattle.std.proofs.lemmas.List.{take_all}
use Rattle.model.specs.declared.types.Span.{Span}
use Rattle.model.specs.declared.types.Header.{Header}
use Rattle.model.specs.declared.types.Fault.{Fault}
use Rattle.model.specs.Faults.{done, refused}
use Rattle.model.specs.References.{span}
use Rattle.model.specs.Section.{Log, NodeList, Section, last_of, fragments_of}
use Rattle.model.specs.Layouts.{blank}
use Rattle.model.specs.OpenedLists.{named_first, lists_from}
use Rattle.model.specs.Opened.{all_data, opened}
use Rattle.model.specs.Breaks.{Walked}
use Rattle.counts.specs.declared.changes.Change.{Change}
use Rattle.counts.specs.Noted.{noted_most, numbered}
use Rattle.counts.proofs.Numbered.{entries_numbered}
use Rattle.meaning.proofs.OpensMeans.{opens_means}
use Rattle.commits.specs.Extends.{sizes}
use Rattle.refusals.specs.declared.faults.LogFault.{LogFault}
use Rattle.refusals.specs.declared.faults.LogFault.TheVariants as log
use Rattle.refusals.specs.declared.faults.ListFault.{ListFault}
use Rattle.refusals.specs.declared.faults.ListFault.TheVariants as list
use Rattle.refusals.specs.declared.faults.InList.{InList}
use Rattle.refusals.specs.declared.faults.OpenFault.{OpenFault}
use Rattle.refusals.specs.declared.faults.OpenFault.TheVariants as opening
use Rattle.refusals.specs.Refusals.{log_told, list_fault, list_told, told}
use Rattle.refusals.specs.Checked.{told_by}
use Rattle.tables.specs.declared.room.Room.{Room}
use Rattle.tables.specs.declared.room.Row.{Row}
use Rattle.tables.specs.Kept.{Kept}
use Rattle.tables.specs.declared.queue.Named.{Named}
use Rattle.log_pass.specs.Logs.{whole_log, all_counts, Refuses, LogRead}
use Rattle.lists_pass.specs.Opening.{Holds, AllRead}
use Rattle.data_pass.specs.Files.{Filed}
use Rattle.section.specs.declared.access.Access.{Access}
use Rattle.section.specs.OpenAnswers.{opened_in, ReadsAs, ReadsFile}
use Rattle.section.proofs.Used.{sizes_of}
use Rattle.section.proofs.Highest.{sources_most, highest_counted}
use Rattle.section.proofs.Joined.{Right, Logged, log_refused, holds_log, lists_refused, walked_of, data_refused, all_read, in_room}

pub reads_err : (mark : ℕ) (b : List ℕ) (capacity : ℕ) (room : Room) (r : Result Access OpenFault) (e : OpenFault) → IsErrAnd r (λ y. y ≡ e) → opened_in capacity b ≡ refused (told e)
    → ((told e).layer ≡ 1 → room.lists ≡ []) → ReadsFile mark b capacity room r
reads_err mark b capacity room (Ok a) e x t n = absurd x
reads_err mark b capacity room (Err y) e x t n = (t ∙ ap (λ z. refused (told z)) (sym x), λ l. n (ap (λ z. (told z).layer) (sym x) ∙ l))

-- faults of the log and of a list are in layers of their own
log_layer : (x : LogFault) → (log_told x).layer ≡ 2
log_layer (log.Outside p) = refl
log_layer (log.Sum p) = refl
log_layer (log.Backward p) = refl
log_layer (log.Overlap p) = refl
log_layer (log.Full p) = refl
log_layer (log.Room p) = refl

list_layer : (x : ListFault) (id : ℕ) → (list_fault x id).layer ≡ 3
list_layer (list.Outside p) id = refl
list_layer (list.Fragment p) id = refl
list_layer (list.Node p) id = refl
list_layer (list.Unlisted p) id = refl
list_layer (list.Overlap p) id = refl
list_layer (list.Twice p) id = refl
list_layer (list.Full p) id = refl

-- reading the log refuses the file
pub log_err : (mark : ℕ) (b : List ℕ) (h : Header) (capacity : ℕ) (room : Room) (r : Result Access OpenFault) (x : LogFault) → IsErrAnd r (λ y. y ≡ opening.Log x) → Right b h capacity
    → Refuses (whole_log b h) (all_counts b h) capacity x → ReadsFile mark b capacity room r
log_err mark b h capacity room r x i right t =
    reads_err mark b capacity room r (opening.Log x) i (log_refused b h capacity right x t) (λ l. absurd (omega (arith, log_layer x, l)))

-- the header is right, and the log was read into a room that holds no list and no name of one
module _ (b : List ℕ) (h : Header) (capacity : ℕ) (fs : List Span) (cs : List Change) (n used : ℕ) (right : Right b h capacity) (r : LogRead b h capacity fs cs n (Ok used))
    (old : List Row) (named : List Named) (none : old ≡ []) (empty : named ≡ []) where
  abbrev log_read : Log
  log_read = record { fragments = fs; transactions = r.0; used = used }

  logged_of : Logged b h capacity log_read
  logged_of = record { right = right; gives = r.1; room = r.4 }

  -- what is answered for each log that the room holds
  abbrev pub ForLogs : (Log → Type 0) → Type 0
  ForLogs P = (log : Log) → Holds log cs fs old → named ≡ [] → P log

  for_log : (P : Log → Type 0) → ForLogs P → P log_read
  for_log P a = a log_read (holds_log b h capacity fs r.0 used cs old r.2 none) empty

  module _ (mark : ℕ) (room : Room) where
    list_err : (y : Result Access OpenFault) (e : InList) → IsErrAnd y (λ z. z ≡ opening.List e) → opened_in capacity b ≡ refused (list_told e) → ReadsFile mark b capacity room y
    list_err y e i t = reads_err mark b capacity room y (opening.List e) i t (λ l. absurd (omega (arith, list_layer e.fault e.list, l)))

    -- reading the lists refuses the file
    pub lists_err : (y : Result Access OpenFault) (e : InList) → IsErrAnd y (λ z. z ≡ opening.List e)
        → ForLogs (λ log. lists_from 1024 b h log (named_first h) [] ≡ refused (list_told e)) → ReadsFile mark b capacity room y
    lists_err y e i t = list_err y e i (lists_refused b h capacity log_read (list_told e) logged_of (for_log (λ log. lists_from 1024 b h log (named_first h) [] ≡ refused (list_told e)) t))

    -- the lists were read too, and their data is checked
    module _ (read : ForLogs (λ log. AllRead b h log room.lists room.pieces.rows room.fragments)) where
      all : AllRead b h log_read room.lists room.pieces.rows room.fragments
      all = for_log (λ log. AllRead b h log room.lists room.pieces.rows room.fragments) read

      filed : Filed log_read all.lists room.lists room.fragments
      filed = record { rows_are = all.row; fragments_are = all.fragments }

      abbrev pub ForLists : Option Fault → Type 0
      ForLists t = (log : Log) (ls : List NodeList) → Walked b h log ls [] → Filed log ls room.lists room.fragments → told_by (all_data h log ls) ≡ t

      for_lists : (t : Option Fault) → ForLists t → told_by (all_data h log_read all.lists) ≡ t
      for_lists t d = d log_read all.lists (walked_of b h capacity log_read all.lists logged_of all.gives) filed

      -- a data reference refuses the file
      pub data_err : (y : Result Access OpenFault) (e : InList) → IsErrAnd y (λ z. z ≡ opening.List e) → ForLists (Some (list_told e)) → ReadsFile mark b capacity room y
      data_err y e i d = list_err y e i (data_refused b h capacity log_read all.lists (list_told e) logged_of all.gives (for_lists (Some (list_told e)) d))

      -- the room keeps all that was read
      all_noted : vec_items room.counts.changes ≡ numbered 1 log_read.transactions → room.counts.finished ≡ length log_read.transactions
          → Kept b (record { header = h; log = log_read; lists = all.lists }) room
      all_noted c f = record {
        changes = c ∙ ap (numbered 1) (sym (take_all room.counts.finished log_read.transactions (omega arith)));
        finished = omega arith;
        lists = all.indexed;
      }

      -- all is right
      abbrev found : Section
      found = record { header = h; log = log_read; lists = all.lists }

      most_counted : vec_items room.counts.changes ≡ cs → opened b ≡ done found → noted_most (vec_items room.counts.changes) ≡ (blank found).highest
      most_counted c fits = ap noted_most (c ∙ r.2) ∙ ap sources_most (entries_numbered r.0 1) ∙ highest_counted b found (opens_means b found fits).0

      pub reads_as : vec_items room.counts.changes ≡ cs → room.counts.finished ≡ n → ForLists None → (f : Span) (m u x : ℕ) → f ≡ last_of (span 0 0) fs → m ≡ length room.fragments
          → (ss : List Span) → ss ≡ room.fragments → (sizes ss < 2 ^ 56 → u ≡ 1024 + sizes ss) → x ≡ noted_most (vec_items room.counts.changes)
          → ReadsAs mark b capacity room (record { mark = mark; begins = 0; drafting = false; header = h; log = record { fragment = f; used = used }; fragments = m; used = u; highest = x })
      reads_as c f d e m u x ends number ss same bytes highest =
          let opens = all_read b h capacity log_read all.lists logged_of all.gives (for_lists None d) in
          let fits = in_room b h capacity log_read logged_of ∙ opens in
          let are : ss ≡ fragments_of found = same ∙ all.fragments in
          record {
            section = found;
            opens = opens;
            fits = fits;
            keeps = record {
              header = refl;
              log = record { fragment = ends; used = refl };
              fragments = number ∙ ap length all.fragments;
              used = bytes (subst (λ w. sizes w < 2 ^ 56) (sym are) (sizes_of b found (opens_means b found fits).0)) ∙ ap (λ w. 1024 + sizes w) are;
              highest = highest ∙ most_counted c fits;
              kept = all_noted (c ∙ r.2) (f ∙ r.3);
            };
            full = record { changes = c ∙ r.2; finished = f ∙ r.3; fragments = ap length all.fragments };
            marked = (refl, refl, refl);
            filed = filed;
          }
