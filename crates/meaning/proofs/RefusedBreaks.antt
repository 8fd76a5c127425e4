-- A refusal tells the first broken rule, and each first broken rule is refused so.
use Rattle.std.proofs.Common.{◌≡◌, ℕ, zero, suc, ◌-◌, ◌<◌, ◌≤◌, List, [], ◌∷◌, ◌++◌, length, sym, refl, ap, ◌∙◌, arith}
use Rattle.std.proofs.lemmas.Bool.{cond-true, cond-false}
use Rattle.model.specs.declared.types.Span.{Span}
use Rattle.model.specs.declared.types.Fault.{Fault}
use Rattle.model.specs.declared.types.Header.{Header}
use Rattle.model.specs.Faults.{refused, unless, then}
use Rattle.model.specs.Headers.{header_at}
use Rattle.model.specs.ListFragments.{owner}
use Rattle.model.specs.Section.{Log, NodeList}
use Rattle.model.specs.OpenedLog.{outside}
use Rattle.model.specs.OpenedLists.{Named, named_by, named_list, lists_from}
use Rattle.model.specs.Opened.{opened, last_part, part_lists, part_log}
use Rattle.model.specs.Breaks.{FirstBreaks, RestBreaks, Breaks, in_header, in_log, in_first, in_list, in_data}
use Rattle.model.specs.Breaks.FirstBreaks.{place as first_place, outside as first_outside, full as first_full, unmarked as first_unmarked, twice, unlisted}
use Rattle.model.specs.Breaks.RestBreaks.{node, place, unmarked as rest_unmarked}
use Rattle.model.specs.Laws.{RefusedBreaks}
use Rattle.meaning.proofs.Base.{unless_broken, inside_passes}
use Rattle.meaning.proofs.Places.{is_not_inside}
use Rattle.meaning.proofs.ReadQueue.{lists_step, lists_end}
use Rattle.meaning.proofs.MeantOpens.{opened_step, behind_header, behind_lists}
use Rattle.meaning.proofs.OpensMeans.{refusal_told}
use Rattle.meaning.proofs.DataChecks.{data_refused}
use Rattle.meaning.proofs.BreakLog.{log_breaks}
use Rattle.meaning.proofs.BreakList.{first_breaks, rest_breaks}

-- no list may still come
lists_full : (b : List ℕ) (h : Header) (log : Log) (ls : List NodeList) (q : Named) (qs : List Named) (e : Fault) → 1024 ≤ length ls → FirstBreaks b h log ls q.0 q.1 e
    → lists_from zero b h log (q ∷ qs) ls ≡ refused e
unfolding lists_from
lists_full b h log ls q qs e l (first_place few m) = absurd (omega arith)
lists_full b h log ls q qs e l (first_outside k n) = cond-true (outside 36 h.end q.1) _ _ (is_not_inside 36 h.end q.1 n)
lists_full b h log ls q qs e l (first_full k i) = cond-false (outside 36 h.end q.1) _ _ (inside_passes 36 h.end q.1 (omega arith) i)
lists_full b h log ls q qs e l (first_unmarked few p n) = absurd (omega arith)
lists_full b h log ls q qs e l (twice few p m r t) = absurd (omega arith)
lists_full b h log ls q qs e l (unlisted few p m r n c) = absurd (omega arith)

module _ (b : List ℕ) (h : Header) where
  -- the list that is named next is refused
  next_refused : (n : ℕ) (log : Log) (ls : List NodeList) (q : Named) (qs : List Named) (e : Fault) → named_list b h log ls q (owner b q.1) ≡ refused e
      → lists_from (suc n) b h log (q ∷ qs) ls ≡ refused e
  next_refused n log ls q qs e k = lists_step n b h log q qs ls ∙ ap (λ a. then a (λ l. lists_from n b h log (qs ++ named_by l) (ls ++ (l ∷ [])))) k

  first_refused : (n : ℕ) (log : Log) (ls : List NodeList) (q : Named) (qs : List Named) (e : Fault) → n ≡ 1024 - length ls → FirstBreaks b h log ls q.0 q.1 e
      → lists_from n b h log (q ∷ qs) ls ≡ refused e
  first_refused zero log ls q qs e l w = lists_full b h log ls q qs e (omega arith) w
  first_refused (suc n) log ls q qs e l w = next_refused n log ls q qs e (first_breaks b h log ls q.1 q.0 e (omega arith) w)

  rest_few : (log : Log) (ls : List NodeList) (r : Span) (e : Fault) → RestBreaks b h log ls r e → length ls < 1024
  rest_few log ls r e (node id gs ns q half o g) = half.few_lists
  rest_few log ls r e (place id gs ns q half o m) = half.few_lists
  rest_few log ls r e (rest_unmarked id gs ns q half o p k) = half.few_lists

  rest_refused : (n : ℕ) (log : Log) (ls : List NodeList) (q : Named) (qs : List Named) (e : Fault) → n ≡ 1024 - length ls → RestBreaks b h log ls q.1 e
      → lists_from n b h log (q ∷ qs) ls ≡ refused e
  rest_refused zero log ls q qs e l w = absurd (let few = rest_few log ls q.1 e w in omega arith)
  rest_refused (suc n) log ls q qs e l w = next_refused n log ls q qs e (rest_breaks b h log ls q.1 q.0 e w)

breaks_refused : (b : List ℕ) (f : Fault) → Breaks b f → opened b ≡ refused f
breaks_refused b f (in_header before later c e) = opened_step b ∙ ap (λ cs. unless cs (part_log b (header_at b))) e ∙ unless_broken before later f (part_log b (header_at b)) c
breaks_refused b f (in_log h k w) =
    behind_header b h k ∙ ap (λ a. then a (part_lists b h)) (log_breaks b h f (sym (ap (λ (h : Header). h.log) k.fields)) w)
breaks_refused b f (in_first h log ls q qs k l w x) =
    behind_lists b h log ls (q ∷ qs) k l w ∙ ap (λ a. then a (last_part h log)) (first_refused b h (1024 - length ls) log ls q qs f refl x)
breaks_refused b f (in_list h log ls q qs k l w x) =
    behind_lists b h log ls (q ∷ qs) k l w ∙ ap (λ a. then a (last_part h log)) (rest_refused b h (1024 - length ls) log ls q qs f refl x)
breaks_refused b f (in_data h log ls before later n k l w e r x) =
    behind_lists b h log ls [] k l w ∙ ap (λ a. then a (last_part h log)) (lists_end (1024 - length ls) b h log ls) ∙ data_refused h log ls _ before later n f e r x

pub refused_breaks : RefusedBreaks
refused_breaks b f = (refusal_told b f, breaks_refused b f)
