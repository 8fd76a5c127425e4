-- What opening tells: the file is right, and is opened as what its bytes mean, or this is the first rule that it breaks.
use Rattle.std.proofs.Common.{◌≡◌, ℕ, ◌≤◌, false, not, List, [], ◌∷◌, ◌++◌, map, length, sym, refl, ap, ◌∙◌, subst, inl, inr, arith}
use Rattle.std.specs.List.{ContainsAt, AllByRecursion}
use Rattle.std.proofs.lemmas.List.{append-nil, length-map}
use Rattle.std.proofs.lemmas.Bool.Decides.{nat_tests}
use Rattle.model.specs.declared.types.Fault.{Fault}
use Rattle.model.specs.declared.types.Header.{Header}
use Rattle.model.specs.Bytes.{piece, same_row}
use Rattle.model.specs.Faults.{Outcome, done, refused, then}
use Rattle.model.specs.References.{end_of}
use Rattle.model.specs.Headers.{header_span, file_type, file_format, header_at}
use Rattle.model.specs.Section.{Log, NodeList, Section, list_fragments, first_of}
use Rattle.model.specs.OpenedLog.{log_from, reading}
use Rattle.model.specs.OpenedLists.{Named, named_first, lists_from}
use Rattle.model.specs.Opened.{header_checks, opened, last_part, part_lists, part_log}
use Rattle.model.specs.Means.{Apart, Headed, Logs, named_in, Means, InOrder}
use Rattle.model.specs.Breaks.{Walked, Breaks, in_header, in_log, in_first, in_list, in_data}
use Rattle.model.specs.Laws.{OpenedMeans, SameLists}
use Rattle.meaning.proofs.Base.{Clean, unless_tells}
use Rattle.meaning.proofs.Members.{has_from_in, in_from_has, in_map, all_in, all_from_in}
use Rattle.meaning.proofs.ReadQueue.{spans}
use Rattle.meaning.proofs.MeantOpens.{opened_step, means_opens, meant_opens, means_opens_in_order}
use Rattle.meaning.proofs.TellLog.{LogTells, log_told}
use Rattle.meaning.proofs.TellQueue.{BrokenNext, ListsTell, lists_told}
use Rattle.meaning.proofs.DataChecks.{data_tells, data_fits}

-- header -----------------------------------------------------------------------------------------------------------

same_row_is : (xs ys : List ℕ) → not (same_row xs ys) ≡ false → xs ≡ ys
unfolding same_row
same_row_is [] [] e = refl
same_row_is [] (y ∷ ys) e = absurd (grind arith)
same_row_is (x ∷ xs) [] e = absurd (grind arith)
same_row_is (x ∷ xs) (y ∷ ys) e =
    let a : x ≡ y = grind (arith, nat_tests) in
    let c : not (same_row xs ys) ≡ false = grind (arith, nat_tests) in
    let d = same_row_is xs ys c in
    cc

-- a header that passes is right
pub passes_headed : (b : List ℕ) → Clean (header_checks b) → Headed b (header_at b)
passes_headed b (x, (y, (z, (w, (u, (v, t)))))) = record {
  fields = refl;
  whole = grind (arith, nat_tests);
  stored = grind (arith, nat_tests);
  least = grind (arith, nat_tests);
  most = grind (arith, nat_tests);
  type = same_row_is (piece b 0x00 16) file_type z;
  format = same_row_is (piece b 0x30 16) file_format w;
  readable = grind (arith, nat_tests);
  counts = grind (arith, nat_tests);
}

-- the whole --------------------------------------------------------------------------------------------------------

-- lists that name each of them, in their order
named_from_order : (h : Header) (ls : List NodeList) → InOrder h ls → AllByRecursion (λ q. ContainsAt (map first_of ls) q.1) (named_in h ls)
named_from_order h ls o = all_from_in (λ (q : Named). ContainsAt (map first_of ls) q.1) (named_in h ls) (λ q i.
    subst (λ w. ContainsAt w q.1) (sym o) (has_from_in (spans (named_in h ls)) q.1 (in_map (λ (q : Named). q.1) (named_in h ls) q i)))

once_from_order : (h : Header) (ls : List NodeList) → InOrder h ls → length (named_in h ls) ≡ length ls
once_from_order h ls o = sym (length-map (named_in h ls) (λ (q : Named). q.1)) ∙ sym (ap length o) ∙ length-map ls first_of

-- what opening tells
abbrev pub Tells : List ℕ → Outcome Section → Type 0
Tells b (done s) = Means b s × InOrder s.header s.lists
Tells b (refused f) = Breaks b f

module _ (b : List ℕ) (h : Header) (headed : Headed b h) where
  last_tells : (log : Log) (ls : List NodeList) → Logs b h log → Walked b h log ls [] → Tells b (last_part h log ls)
  last_tells log ls logs w =
      let fs = log.fragments ++ list_fragments ls in
      let order : InOrder h ls = sym (w.order ∙ append-nil (map first_of ls)) in
      data_tells h log ls (Tells b) _ (λ e d. in_data h log ls d.before d.later d.n headed logs w d.is d.right d.breaks) (λ r. (
        record {
          header = headed;
          log = logs;
          lists = w.lists;
          reached = w.reached;
          named = named_from_order h ls order;
          once = once_from_order h ls order;
          ids_differ = w.ids_differ;
          fragments_apart = w.apart;
          data_inside = data_fits h.end fs ls (λ r. end_of r ≤ h.end) (λ n d. d.inside) r;
          data_apart = data_fits h.end fs ls (λ r. AllByRecursion (Apart r) (header_span ∷ fs)) (λ n d. d.apart) r;
          few_lists = w.few_lists;
          few_fragments = w.few;
        },
        order,
      ))

  broken_next : (log : Log) (e : Fault) → Logs b h log → BrokenNext b h log e → Breaks b e
  broken_next log e logs n = elim n.breaks [
    | inl x ↦ in_first h log n.ls n.q n.qs headed logs n.walked x
    | inr x ↦ in_list h log n.ls n.q n.qs headed logs n.walked x
  ]

  lists_tell : (log : Log) (a : Outcome (List NodeList)) → Logs b h log → ListsTell b h log a → Tells b (then a (last_part h log))
  lists_tell log (done ls) logs w = last_tells log ls logs w
  lists_tell log (refused e) logs n = broken_next log e logs n

  log_tells : (a : Outcome Log) → LogTells b h a → Tells b (then a (part_lists b h))
  log_tells (done log) logs = lists_tell log (lists_from 1024 b h log (named_first h) []) logs (lists_told b h log logs)
  log_tells (refused e) w = in_log h headed w

pub opened_tells : (b : List ℕ) → Tells b (opened b)
opened_tells b =
    let h = header_at b in
    subst (Tells b) (sym (opened_step b)) (unless_tells (Tells b) (header_checks b) (part_log b h)
    (λ f w. in_header w.before w.later w.clean w.is) (λ c.
    let headed = passes_headed b c in
    log_tells b h headed (log_from 2048 b h [] 0xA0 h.log (reading [] [])) (log_told b h refl headed.counts)))

pub opens_means : (b : List ℕ) (s : Section) → opened b ≡ done s → Means b s × InOrder s.header s.lists
opens_means b s e = subst (Tells b) e (opened_tells b)

pub refusal_told : (b : List ℕ) (f : Fault) → opened b ≡ refused f → Breaks b f
refusal_told b f e = subst (Tells b) e (opened_tells b)

pub opened_means : OpenedMeans
opened_means b s = (opens_means b s, λ m. means_opens_in_order b s m.0 m.1)

-- corollaries ------------------------------------------------------------------------------------------------------

-- what bytes mean, they mean in the order in which lists are named
pub means_ordered : (b : List ℕ) (s : Section) → Means b s → (t : Section) × (Means b t × InOrder t.header t.lists) × SameLists s t
means_ordered b s m = let (t, e, k) = meant_opens b s m in (t, opens_means b t e, k)

-- bytes mean one section, but for the order of its lists
pub means_one : (b : List ℕ) (s t : Section) → Means b s → Means b t → SameLists s t
means_one b s t m n =
    let (u, e, x) = meant_opens b s m in
    let (v, i, y, o) = means_opens b t n in
    let w : u ≡ record { header = t.header; log = t.log; lists = v } = cc in
    let z : SameLists s (record { header = t.header; log = t.log; lists = v }) = subst (λ (u : Section). SameLists s u) w x in
    record {
      header = z.header;
      log = z.log;
      number = sym y.same ∙ z.number;
      lists = all_from_in (λ (l : NodeList). ContainsAt t.lists l) s.lists (λ l j.
          has_from_in t.lists l (y.to l (in_from_has v l (all_in (λ (l : NodeList). ContainsAt v l) s.lists l z.lists j))));
    }

-- and one section in that order
pub means_one_in_order : (b : List ℕ) (s t : Section) → Means b s → InOrder s.header s.lists → Means b t → InOrder t.header t.lists → s ≡ t
means_one_in_order b s t m i n j =
    let x = means_opens_in_order b s m i in
    let y = means_opens_in_order b t n j in
    cc
