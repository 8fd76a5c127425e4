-- What bytes mean, they open as.
use Rattle.std.proofs.Common.{◌≡◌, ℕ, ◌-◌, ◌≤◌, true, false, not, ◌||◌, eqb, ltb, List, [], ◌∷◌, ◌++◌, map, length, sym, refl, ap, ◌∙◌, arith}
use Rattle.std.specs.List.{ContainsAt, AllByRecursion}
use Rattle.std.proofs.lemmas.List.{append-nil, drop_all}
use Rattle.std.proofs.lemmas.Bool.Decides.{nat_tests}
use Rattle.std.proofs.lemmas.Bool.{and_from}
use Rattle.std.proofs.ByRecursion.{All-append}
use Rattle.model.specs.declared.types.Span.{Span}
use Rattle.model.specs.declared.types.Header.{Header}
use Rattle.model.specs.Bytes.{le, piece, same_row}
use Rattle.model.specs.Faults.{done, Check, unless, then}
use Rattle.model.specs.References.{end_of}
use Rattle.model.specs.Headers.{header_span, most, file_type, file_format, header_at}
use Rattle.model.specs.Nodes.{Node, referring}
use Rattle.model.specs.Section.{Log, NodeList, Section, list_fragments, first_of}
use Rattle.model.specs.OpenedLists.{Named, named_first, lists_from}
use Rattle.model.specs.Opened.{header_checks, data_checks, opened, all_data, last_part, part_lists, part_log}
use Rattle.model.specs.Means.{Apart, Headed, Logs, named_in, data_spans, Means, InOrder}
use Rattle.model.specs.Breaks.{Walked}
use Rattle.model.specs.Laws.{MeantOpens}
use Rattle.meaning.proofs.Base.{Clean, unless_clean, all_front, apart_overlaps, DataFits, references}
use Rattle.meaning.proofs.Members.{In, has_from_in, in_map, in_flat, in_unflat, all_in, all_from_in, flat_all}
use Rattle.meaning.proofs.ReadLog.{logs_read}
use Rattle.meaning.proofs.ReadQueue.{Stock, Right, lists_read, lists_end, walked_read}

-- header -----------------------------------------------------------------------------------------------------------

pub same_row_self : (xs : List ℕ) → same_row xs xs ≡ true
unfolding same_row
same_row_self [] = refl
same_row_self (x ∷ xs) = and_from (eqb x x) (same_row xs xs) (grind (arith, nat_tests)) (same_row_self xs)

is_row : (xs ys : List ℕ) → xs ≡ ys → not (same_row xs ys) ≡ false
is_row xs ys e = ap (λ w. not (same_row w ys)) e ∙ ap not (same_row_self ys)

-- a header that is right passes
pub headed_passes : (b : List ℕ) (h : Header) → Headed b h → Clean (header_checks b)
headed_passes b h r =
    let e : h.end ≡ le 8 b 0xC4 = ap (λ (h : Header). h.end) r.fields in
    let c : h.count ≡ le 4 b 0x60 = ap (λ (h : Header). h.count) r.fields in
    let whole = r.whole in
    let stored = r.stored in
    let least = r.least in
    let high = r.most in
    let readable = r.readable in
    let counts = r.counts in
    let x : ltb (length b) 1024 ≡ false = grind (arith, nat_tests) in
    let y : (ltb (length b) (le 8 b 0xC4) || ltb (le 8 b 0xC4) 1024 || ltb most (le 8 b 0xC4)) ≡ false = grind (arith, nat_tests) in
    let z : ltb 0x2A (le 4 b 0x4C) ≡ false = grind (arith, nat_tests) in
    let w : eqb (le 4 b 0x60) 0 ≡ false = grind (arith, nat_tests) in
    (x, (y, (is_row (piece b 0x00 16) file_type r.type, (is_row (piece b 0x30 16) file_format r.format, (z, (w, tt))))))

-- data -------------------------------------------------------------------------------------------------------------

data_passes : (end : ℕ) (fs : List Span) (id : ℕ) (ns : List Node) → AllByRecursion (λ n. DataFits end fs n.reference) ns → Clean (data_checks end fs id ns)
data_passes end fs id [] a = tt
data_passes end fs id (n ∷ ns) ((x, (y, z)), a) =
    let e : ltb end (end_of n.reference) ≡ false = grind (arith, nat_tests) in
    (e, (apart_overlaps n.reference fs y z, data_passes end fs id ns a))

-- the fragments of the same lists in another order
same_fragments : (log : Log) (S T : List NodeList) (P : Span → Type 0) → ((l : NodeList) → In l T → In l S)
    → AllByRecursion P (log.fragments ++ list_fragments S) → AllByRecursion P (log.fragments ++ list_fragments T)
same_fragments log S T P k a =
    let (u, v) = all_front P log.fragments (list_fragments S) a in
    All-append P log.fragments (list_fragments T) u (all_from_in P (list_fragments T) (λ f i.
    let (l, j, w) = in_unflat (λ (l : NodeList). l.fragments) T f i in
    all_in P (list_fragments S) f v (in_flat (λ (l : NodeList). l.fragments) S l f (k l j) w)))

-- references to data that are right pass
pub data_clean : (h : Header) (log : Log) (S T : List NodeList) → ((l : NodeList) → In l T → In l S)
    → AllByRecursion (λ r. end_of r ≤ h.end) (data_spans S) → AllByRecursion (λ r. AllByRecursion (Apart r) (header_span ∷ (log.fragments ++ list_fragments S))) (data_spans S)
    → Clean (all_data h log T)
data_clean h log S T k inside apart =
    let checks : NodeList → List Check = λ l. data_checks h.end (log.fragments ++ list_fragments T) l.id (referring 1 l.nodes) in
    flat_all (λ (c : Check). c.0 ≡ false) checks T (all_from_in (λ (l : NodeList). Clean (checks l)) T (λ l i.
    data_passes h.end (log.fragments ++ list_fragments T) l.id (referring 1 l.nodes)
    (all_from_in (λ (n : Node). DataFits h.end (log.fragments ++ list_fragments T) n.reference) (referring 1 l.nodes) (λ n j.
    let r : In n.reference (data_spans S)
    = in_flat (λ (l : NodeList). references l.nodes) S l n.reference (k l i) (in_map (λ (n : Node). n.reference) (referring 1 l.nodes) n j) in
    let a : AllByRecursion (Apart n.reference) (header_span ∷ (log.fragments ++ list_fragments S))
    = all_in (λ r. AllByRecursion (Apart r) (header_span ∷ (log.fragments ++ list_fragments S))) (data_spans S) n.reference apart r in
    (all_in (λ r. end_of r ≤ h.end) (data_spans S) n.reference inside r, (a.0, same_fragments log S T (Apart n.reference) k a.1))))))

-- opening ----------------------------------------------------------------------------------------------------------

pub opened_step : (b : List ℕ) → opened b ≡ unless (header_checks b) (part_log b (header_at b))
unfolding opened
opened_step b = refl

module _ (b : List ℕ) (h : Header) where
  -- opening goes on behind a header that is right, a log and lists
  pub behind_header : Headed b h → opened b ≡ part_log b h
  behind_header k = opened_step b ∙ unless_clean (header_checks b) (part_log b (header_at b)) (headed_passes b h k) ∙ ap (λ h. part_log b h) (sym k.fields)

  pub behind_log : (log : Log) → Headed b h → Logs b h log → opened b ≡ part_lists b h log
  behind_log log k l = behind_header k ∙ ap (λ a. then a (part_lists b h)) (logs_read b h log l k.counts)

  pub behind_lists : (log : Log) (ls : List NodeList) (queue : List Named) → Headed b h → Logs b h log → Walked b h log ls queue
      → opened b ≡ then (lists_from (1024 - length ls) b h log queue ls) (last_part h log)
  behind_lists log ls queue k l w = behind_log log k l ∙ ap (λ a. then a (last_part h log)) (walked_read b h log ls queue w)

  -- and ends where the data is right
  behind_data : (log : Log) (S T : List NodeList) → ((l : NodeList) → In l T → In l S) → AllByRecursion (λ r. end_of r ≤ h.end) (data_spans S)
      → AllByRecursion (λ r. AllByRecursion (Apart r) (header_span ∷ (log.fragments ++ list_fragments S))) (data_spans S) → last_part h log T ≡ done (record { header = h; log = log; lists = T })
  behind_data log S T k inside apart = unless_clean (all_data h log T) _ (data_clean h log S T k inside apart)

-- the whole --------------------------------------------------------------------------------------------------------

pub means_stock : (b : List ℕ) (s : Section) → Means b s → Stock s.header s.log s.lists s.lists
means_stock b s m = record {
  ids = m.ids_differ;
  apart = m.fragments_apart;
  few = m.few_fragments;
  once = m.once;
  same = refl;
  from = λ l i. i;
  to = λ l i. i;
}

pub means_right : (b : List ℕ) (s : Section) → Means b s → Right b s.header s.log s.lists
means_right b s m = record { stands = m.lists; reached = m.reached; named = m.named }

abbrev reordered : Section → List NodeList → Section
reordered s T = record { header = s.header; log = s.log; lists = T }

-- bytes that mean s open as s with its lists in the order in which they are named
pub means_opens : (b : List ℕ) (s : Section) → Means b s
    → (T : List NodeList) × (opened b ≡ done (reordered s T)) × Stock s.header s.log s.lists T × InOrder s.header T
means_opens b s m =
    let (T, r, k, o) = lists_read 1024 b s.header s.log s.lists [] s.lists (named_first s.header) (means_right b s m) (means_stock b s m)
    (ap (λ w. map (λ q. q.1) w) (append-nil (named_first s.header))) m.few_lists in (
      T,
      behind_log b s.header s.log m.header m.log ∙ ap (λ a. then a (last_part s.header s.log)) r
          ∙ behind_data b s.header s.log s.lists T k.to m.data_inside m.data_apart,
      k,
      o,
    )

pub meant_opens : MeantOpens
meant_opens b s m =
    let (T, e, k, o) = means_opens b s m in (
      reordered s T,
      e,
      record {
        header = refl;
        log = refl;
        number = k.same;
        lists = all_from_in (λ l. ContainsAt T l) s.lists (λ l i. has_from_in T l (k.from l i));
      },
    )

pub means_walked : (b : List ℕ) (s : Section) → Means b s → InOrder s.header s.lists → Walked b s.header s.log s.lists []
means_walked b s m i =
    let once = m.once in
    record {
      lists = m.lists;
      reached = m.reached;
      order = sym i ∙ sym (append-nil (map first_of s.lists));
      fields = sym (drop_all (length s.lists) (named_in s.header s.lists) (omega arith));
      ids_differ = m.ids_differ;
      apart = m.fragments_apart;
      few_lists = m.few_lists;
      few = m.few_fragments;
    }

-- and as s itself, if its lists stand in that order
pub means_opens_in_order : (b : List ℕ) (s : Section) → Means b s → InOrder s.header s.lists → opened b ≡ done s
means_opens_in_order b s m i =
    behind_lists b s.header s.log s.lists [] m.header m.log (means_walked b s m i)
    ∙ ap (λ a. then a (last_part s.header s.log)) (lists_end (1024 - length s.lists) b s.header s.log s.lists)
    ∙ behind_data b s.header s.log s.lists s.lists (λ l i. i) m.data_inside m.data_apart
