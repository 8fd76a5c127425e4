-- The parts of opening, joined: what header, log, lists and data references answer is what opening answers.
use Rattle.std.proofs.Common.{◌≡◌, ℕ, ◌<◌, ◌≤◌, List, [], ◌∷◌, length, get_or, Some, None, sym, refl, ap, ◌∙◌, subst, arith}
use Rattle.std.proofs.lemmas.Bool.Decides.{nat_tests}
use Rattle.model.specs.declared.types.Span.{Span}
use Rattle.model.specs.declared.types.Entry.{Entry}
use Rattle.model.specs.declared.types.Header.{Header}
use Rattle.model.specs.declared.types.Fault.{Fault}
use Rattle.model.specs.Faults.{fault, Outcome, done, refused, Check, then}
use Rattle.model.specs.Headers.{header_at}
use Rattle.model.specs.Section.{Log, NodeList, latest}
use Rattle.model.specs.OpenedLists.{named_first, lists_from}
use Rattle.model.specs.Opened.{header_checks, all_data, last_part, part_lists, part_log, opened}
use Rattle.model.specs.Means.{Logs, Headed}
use Rattle.model.specs.Breaks.{Walked}
use Rattle.counts.specs.declared.changes.Change.{Change}
use Rattle.counts.specs.Noted.{noted, numbered}
use Rattle.counts.proofs.Numbered.{entries_numbered}
use Rattle.meaning.proofs.Base.{Clean}
use Rattle.meaning.proofs.OpensMeans.{passes_headed}
use Rattle.meaning.proofs.TellLog.{LogTells, log_told as log_tells}
use Rattle.meaning.proofs.TellQueue.{ListsTell, lists_told}
use Rattle.refusals.specs.declared.faults.LogFault.{LogFault}
use Rattle.refusals.specs.declared.faults.LogFault.TheVariants as log
use Rattle.refusals.specs.Refusals.{log_told}
use Rattle.refusals.specs.Checked.{told_by}
use Rattle.refusals.proofs.Told.{unless_told, unless_none}
use Rattle.tables.specs.declared.room.Row.{Row}
use Rattle.log_pass.specs.Logs.{whole_log, all_counts, Refuses}
use Rattle.lists_pass.specs.Opening.{Holds}
use Rattle.section.specs.OpenAnswers.{within_room, opened_in}

-- checks that tell nothing are all passed
clean_none : (cs : List Check) → told_by cs ≡ None → Clean cs
clean_none [] e = tt
clean_none (c ∷ cs) e = grind (arith, nat_tests, clean_none cs)

module _ (b : List ℕ) (h : Header) (capacity : ℕ) where
  -- the header breaks a rule
  pub header_refused : (f : Fault) → told_by (header_checks b) ≡ Some f → opened_in capacity b ≡ refused f
  unfolding opened_in
  header_refused f t = unless_told (header_checks b) _ f t

  -- the header is right
  abbrev pub Right : Type 0
  Right = (told_by (header_checks b) ≡ None) × (h ≡ header_at b)

  headed : Right → Headed b h
  headed (passes, is) = subst (λ (x : Header). Headed b x) (sym is) (passes_headed b (clean_none (header_checks b) passes))

  opened_on : Right → opened_in capacity b ≡ within_room capacity (all_counts b h) (part_log b h)
  unfolding opened_in
  opened_on (passes, is) = unless_none (header_checks b) _ passes ∙ ap (λ (x : Header). within_room capacity (all_counts b x) (part_log b x)) (sym is)

  pub roomy : {A : Type 0} (ps : List ℕ) (x : Outcome A) → length ps ≤ capacity → within_room capacity ps x ≡ x
  roomy ps x l = grind (arith, nat_tests)

  pub crowded : {A : Type 0} (ps : List ℕ) (p : ℕ) (x : Outcome A) → capacity < length ps → p ≡ get_or ps capacity 0 → within_room capacity ps x ≡ refused (fault 100 2 p 0)
  crowded ps p x l q = grind (arith, nat_tests)

  -- the log breaks a rule, or has more counts than there is room for
  log_breaks : Right → (f : Fault) → (whole_log b h ≡ refused f) × (length (all_counts b h) ≤ capacity) → opened_in capacity b ≡ refused f
  log_breaks r f (e, l) = opened_on r ∙ roomy (all_counts b h) (part_log b h) l ∙ ap (λ x. then x (part_lists b h)) e

  pub log_refused : Right → (x : LogFault) → Refuses (whole_log b h) (all_counts b h) capacity x → opened_in capacity b ≡ refused (log_told x)
  log_refused r (log.Outside p) t = log_breaks r (log_told (log.Outside p)) t
  log_refused r (log.Sum p) t = log_breaks r (log_told (log.Sum p)) t
  log_refused r (log.Backward p) t = log_breaks r (log_told (log.Backward p)) t
  log_refused r (log.Overlap p) t = log_breaks r (log_told (log.Overlap p)) t
  log_refused r (log.Full p) t = log_breaks r (log_told (log.Full p)) t
  log_refused r (log.Room p) (l, q) = opened_on r ∙ crowded (all_counts b h) p (part_log b h) l q

  -- the log was read
  pub record Logged (l : Log) : Type 0 where
    pub right : Right
    pub gives : whole_log b h ≡ done l
    pub room : length (all_counts b h) ≤ capacity

  pub logs_of : (l : Log) → Logged l → Logs b h l
  logs_of l d =
      let o = headed d.right in
      subst (LogTells b h) d.gives (log_tells b h (sym (ap (λ (x : Header). x.log) o.fields)) o.counts)

  pub holds_log : (fs : List Span) (ts : List (List Entry)) (used : ℕ) (cs : List Change) (rows : List Row) → cs ≡ numbered 1 ts → rows ≡ []
      → Holds (record { fragments = fs; transactions = ts; used = used }) cs fs rows
  holds_log fs ts used cs rows e n = record {
    counts = λ id. ap (λ xs. noted xs id) e ∙ ap (latest id 0) (entries_numbered ts 1);
    fragments = refl;
    none = n;
  }

  log_on : (l : Log) → Logged l → opened_in capacity b ≡ part_lists b h l
  log_on l d = opened_on d.right ∙ roomy (all_counts b h) (part_log b h) d.room ∙ ap (λ x. then x (part_lists b h)) d.gives

  pub lists_refused : (l : Log) (f : Fault) → Logged l → lists_from 1024 b h l (named_first h) [] ≡ refused f → opened_in capacity b ≡ refused f
  lists_refused l f d e = log_on l d ∙ ap (λ x. then x (last_part h l)) e

  -- the lists were read
  pub walked_of : (l : Log) (ls : List NodeList) → Logged l → lists_from 1024 b h l (named_first h) [] ≡ done ls → Walked b h l ls []
  walked_of l ls d e = subst (ListsTell b h l) e (lists_told b h l (logs_of l d))

  lists_on : (l : Log) (ls : List NodeList) → Logged l → lists_from 1024 b h l (named_first h) [] ≡ done ls → opened_in capacity b ≡ last_part h l ls
  lists_on l ls d e = log_on l d ∙ ap (λ x. then x (last_part h l)) e

  pub data_refused : (l : Log) (ls : List NodeList) (f : Fault) → Logged l → lists_from 1024 b h l (named_first h) [] ≡ done ls → told_by (all_data h l ls) ≡ Some f
      → opened_in capacity b ≡ refused f
  data_refused l ls f d e t = lists_on l ls d e ∙ unless_told (all_data h l ls) _ f t

  pub all_read : (l : Log) (ls : List NodeList) → Logged l → lists_from 1024 b h l (named_first h) [] ≡ done ls → told_by (all_data h l ls) ≡ None
      → opened_in capacity b ≡ done (record { header = h; log = l; lists = ls })
  all_read l ls d e t = lists_on l ls d e ∙ unless_none (all_data h l ls) _ t

  -- with enough room, that is what is opened
  pub in_room : (l : Log) → Logged l → opened b ≡ opened_in capacity b
  unfolding opened opened_in
  in_room l d =
      unless_none (header_checks b) _ d.right.0 ∙ ap (part_log b) (sym d.right.1) ∙ sym (opened_on d.right ∙ roomy (all_counts b h) (part_log b h) d.room)
