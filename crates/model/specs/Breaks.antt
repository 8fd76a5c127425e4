-- The first broken rule: what a refused file is. Each case says that all before it is right, and what is wrong then, and where.
use Rattle.std.specs.Prelude.{◌≡◌, ℕ, ◌+◌, ◌<◌, ◌≤◌, true, false, ◌≢◌, List, [], ◌∷◌, ◌++◌, map, length, drop}
use Rattle.std.specs.List.{ContainsAt, AllByRecursion}
use Rattle.model.specs.declared.types.Span.{Span}
use Rattle.model.specs.declared.types.Entry.{Entry}
use Rattle.model.specs.declared.types.Fault.{Fault}
use Rattle.model.specs.declared.types.Header.{Header}
use Rattle.model.specs.Bytes.{le}
use Rattle.model.specs.Faults.{fault, Check}
use Rattle.model.specs.References.{span, end_of, span_at}
use Rattle.model.specs.Headers.{header_span}
use Rattle.model.specs.Nodes.{Node, hands_over, bad_node, field_of, referring}
use Rattle.model.specs.ListFragments.{owner, nodes_to}
use Rattle.model.specs.LogFragments.{entry_at, sentinel, entries_in, entry_place, log_next}
use Rattle.model.specs.Section.{Log, NodeList, flat, last_of, latest, count_in, list_fragments, first_of}
use Rattle.model.specs.OpenedLists.{Named}
use Rattle.model.specs.Opened.{header_checks}
use Rattle.model.specs.Means.{Apart, Pairwise, Inside, Headed, PartOfLog, Logs, Marked, PartOfList, Stands, named_in, Reached}

-- ---- a fragment's place is not right

-- the reference f at `field`, with `before` fragments read: 5 outside, 13 full, 11 overlap; and the place is right
pub data Misplaced (least end layer list : ℕ) (field : ℕ) (before : List Span) (f : Span) : Fault → Type 0 where
  outside : (Inside least end f → ⊥) → Misplaced least end layer list field before f (fault 5 layer field list)
  full : Inside least end f → 2048 ≤ length before → Misplaced least end layer list field before f (fault 13 layer field list)
  overlap : Inside least end f → length before < 2048 → (AllByRecursion (Apart f) (header_span ∷ before) → ⊥) → Misplaced least end layer list field before f (fault 11 layer field list)

pub record Placed (least end : ℕ) (before : List Span) (f : Span) : Type 0 where
  pub inside : Inside least end f
  pub room : length before < 2048
  pub apart : AllByRecursion (Apart f) (header_span ∷ before)

-- ---- log

-- the field of the next log reference, behind the fragments fs
abbrev pub log_field : List Span → ℕ
log_field [] = 0xA0
log_field (f ∷ fs) = log_next (last_of f fs)

abbrev pub log_reference : List ℕ → List Span → Span
log_reference b fs = span_at b (log_field fs)

pub data LogBreaks (b : List ℕ) (h : Header) : Fault → Type 0 where
  -- all entries of fs are read, the log is not finished, and the next fragment's place is wrong
  fragment : (fs : List Span) (ts : List (List Entry)) (pending : List Entry) {f : Fault}
      → PartOfLog b h fs (entries_in (last_of (span 0 12) fs).size) ts pending → length ts < h.count
      → Misplaced 12 h.end 2 0 (log_field fs) fs (log_reference b fs) f → LogBreaks b h f
  -- i entries of the last fragment g are read, the log is not finished, and the next entry is wrong: 6 sum, 7 backward
  sum : (fs : List Span) (g : Span) (i : ℕ) (ts : List (List Entry)) (pending : List Entry)
      → PartOfLog b h (fs ++ (g ∷ [])) i ts pending → length ts < h.count → i < entries_in g.size
      → (entry_at b (entry_place g i)).source ≡ 1 → (entry_at b (entry_place g i)).number ≢ (sentinel pending).number
      → LogBreaks b h (fault 6 2 (entry_place g i) 0)
  backward : (fs : List Span) (g : Span) (i : ℕ) (ts : List (List Entry)) (pending : List Entry)
      → PartOfLog b h (fs ++ (g ∷ [])) i ts pending → length ts < h.count → i < entries_in g.size
      → (entry_at b (entry_place g i)).source ≢ 1 → (entry_at b (entry_place g i)).number ≤ latest (entry_at b (entry_place g i)).source 0 (flat ts ++ pending)
      → LogBreaks b h (fault 7 2 (entry_place g i) 0)

-- ---- lists

-- the lists ls are right, in the order in which they are named, and `queue` is named behind them
pub record Walked (b : List ℕ) (h : Header) (log : Log) (ls : List NodeList) (queue : List Named) : Type 0 where
  pub lists : AllByRecursion (Stands b h log) ls
  pub reached : AllByRecursion (λ l. Reached h ls (first_of l)) ls
  pub order : map (λ q. q.1) (named_in h ls) ≡ map first_of ls ++ map (λ q. q.1) queue
  pub fields : queue ≡ drop (length ls) (named_in h ls)
  pub ids_differ : Pairwise (λ l m. l.id ≢ m.id) ls
  pub apart : Pairwise Apart (header_span ∷ (log.fragments ++ list_fragments ls))
  pub few_lists : length ls ≤ 1024
  pub few : length (log.fragments ++ list_fragments ls) ≤ 2048

-- the list that is named next breaks a rule at its first fragment: 5, 13, 11, 8 with no list told, 12 and 10 with its ID
pub data FirstBreaks (b : List ℕ) (h : Header) (log : Log) (ls : List NodeList) (field : ℕ) (f : Span) : Fault → Type 0 where
  place : {e : Fault} → length ls < 1024 → Misplaced 36 h.end 3 0 field (log.fragments ++ list_fragments ls) f e → FirstBreaks b h log ls field f e
  outside : 1024 ≤ length ls → (Inside 36 h.end f → ⊥) → FirstBreaks b h log ls field f (fault 5 3 field 0)
  full : 1024 ≤ length ls → Inside 36 h.end f → FirstBreaks b h log ls field f (fault 13 3 field 0)
  unmarked : length ls < 1024 → Placed 36 h.end (log.fragments ++ list_fragments ls) f
      → (Marked b (owner b f) 0 f × (16 ≤ owner b f) → ⊥) → FirstBreaks b h log ls field f (fault 8 3 f.start 0)
  twice : length ls < 1024 → Placed 36 h.end (log.fragments ++ list_fragments ls) f → Marked b (owner b f) 0 f → 16 ≤ owner b f
      → ContainsAt (map (λ l. l.id) ls) (owner b f) → FirstBreaks b h log ls field f (fault 12 3 f.start (owner b f))
  unlisted : length ls < 1024 → Placed 36 h.end (log.fragments ++ list_fragments ls) f → Marked b (owner b f) 0 f → 16 ≤ owner b f
      → (ContainsAt (map (λ l. l.id) ls) (owner b f) → ⊥) → count_in log.transactions (owner b f) ≡ 0 → FirstBreaks b h log ls field f (fault 10 3 f.start (owner b f))

-- a list that is named next, right in its fragments g, gs up to q and not yet at its count: its next node or its next fragment breaks a rule
pub record HalfRead (b : List ℕ) (h : Header) (log : Log) (ls : List NodeList) (id : ℕ) (g : Span) (gs : List Span) (ns : List Node) (q : ℕ) : Type 0 where
  pub part : PartOfList b h id (g ∷ gs) ns q
  pub new : ContainsAt (map (λ l. l.id) ls) id → ⊥
  pub short : length ns < count_in log.transactions id
  pub apart : Pairwise Apart (header_span ∷ (log.fragments ++ list_fragments ls ++ (g ∷ gs)))
  pub few_lists : length ls < 1024
  pub few : length (log.fragments ++ list_fragments ls ++ (g ∷ gs)) ≤ 2048

pub data RestBreaks (b : List ℕ) (h : Header) (log : Log) (ls : List NodeList) (first : Span) : Fault → Type 0 where
  node : (id : ℕ) (gs : List Span) (ns : List Node) (q : ℕ) → HalfRead b h log ls id first gs ns q
      → hands_over (le 4 b q) (nodes_to (last_of first gs)) q ≡ false → bad_node (le 4 b q) (nodes_to (last_of first gs)) q ≡ true → RestBreaks b h log ls first (fault 9 3 q id)
  place : (id : ℕ) (gs : List Span) (ns : List Node) (q : ℕ) {e : Fault} → HalfRead b h log ls id first gs ns q
      → hands_over (le 4 b q) (nodes_to (last_of first gs)) q ≡ true
      → Misplaced 36 h.end 3 id (nodes_to (last_of first gs)) (log.fragments ++ list_fragments ls ++ (first ∷ gs)) (span_at b (nodes_to (last_of first gs))) e
      → RestBreaks b h log ls first e
  unmarked : (id : ℕ) (gs : List Span) (ns : List Node) (q : ℕ) → HalfRead b h log ls id first gs ns q
      → hands_over (le 4 b q) (nodes_to (last_of first gs)) q ≡ true
      → Placed 36 h.end (log.fragments ++ list_fragments ls ++ (first ∷ gs)) (span_at b (nodes_to (last_of first gs)))
      → (Marked b id (1 + length gs) (span_at b (nodes_to (last_of first gs))) → ⊥)
      → RestBreaks b h log ls first (fault 8 3 (span_at b (nodes_to (last_of first gs))).start id)

-- ---- data

-- the present data references, each with its list's ID
abbrev pub data_nodes : List NodeList → List (ℕ × Node)
data_nodes ls = flat (map (λ l. map (λ n. (l.id, n)) (referring 1 l.nodes)) ls)

pub record DataRight (end : ℕ) (fs : List Span) (n : ℕ × Node) : Type 0 where
  pub inside : end_of n.1.reference ≤ end
  pub apart : AllByRecursion (Apart n.1.reference) (header_span ∷ fs)

pub data DataBreaks (end : ℕ) (fs : List Span) (n : ℕ × Node) : Fault → Type 0 where
  outside : end < end_of n.1.reference → DataBreaks end fs n (fault 5 3 (field_of n.1) n.0)
  overlap : end_of n.1.reference ≤ end → (AllByRecursion (Apart n.1.reference) (header_span ∷ fs) → ⊥) → DataBreaks end fs n (fault 11 3 (field_of n.1) n.0)

-- ---- the whole

-- f is what the first broken rule tells
pub data Breaks (b : List ℕ) : Fault → Type 0 where
  in_header : {f : Fault} (before later : List Check) → AllByRecursion (λ c. c.0 ≡ false) before → header_checks b ≡ before ++ ((true, f) ∷ later) → Breaks b f
  in_log : {f : Fault} (h : Header) → Headed b h → LogBreaks b h f → Breaks b f
  in_first : {f : Fault} (h : Header) (log : Log) (ls : List NodeList) (q : Named) (qs : List Named) → Headed b h → Logs b h log
      → Walked b h log ls (q ∷ qs) → FirstBreaks b h log ls q.0 q.1 f → Breaks b f
  in_list : {f : Fault} (h : Header) (log : Log) (ls : List NodeList) (q : Named) (qs : List Named) → Headed b h → Logs b h log
      → Walked b h log ls (q ∷ qs) → RestBreaks b h log ls q.1 f → Breaks b f
  in_data : {f : Fault} (h : Header) (log : Log) (ls : List NodeList) (before later : List (ℕ × Node)) (n : ℕ × Node) → Headed b h → Logs b h log
      → Walked b h log ls [] → data_nodes ls ≡ before ++ (n ∷ later) → AllByRecursion (DataRight h.end (log.fragments ++ list_fragments ls)) before
      → DataBreaks h.end (log.fragments ++ list_fragments ls) n f → Breaks b f
