-- The checks of present data references: each is right, or one is the first that is not.
use Rattle.std.proofs.Common.{◌≡◌, ℕ, ◌≤◌, ltb, List, [], ◌∷◌, ◌++◌, map, sym, refl, ap, ◌∙◌, subst}
use Rattle.std.specs.List.{AllByRecursion}
use Rattle.std.proofs.lemmas.List.{map-append}
use Rattle.std.proofs.lemmas.Simd.{map-map}
use Rattle.std.proofs.lemmas.Bool.{cond_both, cond-true, cond-false, ltb-true, ltb-false, lt-ltb, le-ltb}
use Rattle.std.proofs.ByRecursion.{All-map, All-weaker}
use Rattle.model.specs.declared.types.Span.{Span}
use Rattle.model.specs.declared.types.Fault.{Fault}
use Rattle.model.specs.declared.types.Header.{Header}
use Rattle.model.specs.Faults.{fault, Outcome, refused, Check, unless}
use Rattle.model.specs.References.{end_of}
use Rattle.model.specs.Nodes.{Node, field_of, referring}
use Rattle.model.specs.Section.{Log, NodeList, flat, list_fragments}
use Rattle.model.specs.OpenedLog.{overlaps}
use Rattle.model.specs.Opened.{data_checks, all_data}
use Rattle.model.specs.Means.{data_spans}
use Rattle.model.specs.Breaks.{data_nodes, DataRight, DataBreaks}
use Rattle.model.specs.Breaks.DataBreaks.{outside as data_outside, overlap as data_overlap}
use Rattle.meaning.proofs.Base.{apart_overlaps, overlaps_apart}
use Rattle.meaning.proofs.Places.{not_apart, is_not_apart}

-- the spans of the nodes
spans_of : (ls : List NodeList) → data_spans ls ≡ map (λ n. n.1.reference) (data_nodes ls)
spans_of [] = refl
spans_of (l ∷ ls) =
    ap (λ w. w ++ data_spans ls) (sym (map-map (λ (n : ℕ × Node). n.1.reference) (λ n. (l.id, n)) (referring 1 l.nodes)))
    ∙ ap (λ w. map (λ (n : ℕ × Node). n.1.reference) (map (λ n. (l.id, n)) (referring 1 l.nodes)) ++ w) (spans_of ls)
    ∙ sym (map-append (λ (n : ℕ × Node). n.1.reference) (map (λ n. (l.id, n)) (referring 1 l.nodes)) (data_nodes ls))

module _ (end : ℕ) (fs : List Span) where
  -- the checks of one node, and of all
  abbrev checks_of : ℕ × Node → List Check
  checks_of n = data_checks end fs n.0 (n.1 ∷ [])

  abbrev all_checks : List (ℕ × Node) → List Check
  all_checks [] = []
  all_checks (n ∷ ns) = checks_of n ++ all_checks ns

  checks_join : (xs ys : List (ℕ × Node)) → all_checks (xs ++ ys) ≡ all_checks xs ++ all_checks ys
  checks_join [] ys = refl
  checks_join (x ∷ xs) ys = ap (λ w. checks_of x ++ w) (checks_join xs ys)

  list_checks_are : (id : ℕ) (ns : List Node) → data_checks end fs id ns ≡ all_checks (map (λ n. (id, n)) ns)
  list_checks_are id [] = refl
  list_checks_are id (n ∷ ns) = ap (λ w. checks_of (id, n) ++ w) (list_checks_are id ns)

  checks_are : (ls : List NodeList) → flat (map (λ l. data_checks end fs l.id (referring 1 l.nodes)) ls) ≡ all_checks (data_nodes ls)
  checks_are [] = refl
  checks_are (l ∷ ls) =
      ap (λ w. w ++ flat (map (λ l. data_checks end fs l.id (referring 1 l.nodes)) ls)) (list_checks_are l.id (referring 1 l.nodes))
      ∙ ap (λ w. all_checks (map (λ n. (l.id, n)) (referring 1 l.nodes)) ++ w) (checks_are ls)
      ∙ sym (checks_join (map (λ n. (l.id, n)) (referring 1 l.nodes)) (data_nodes ls))

  -- the first reference that is not right
  pub record FirstWrong (ns : List (ℕ × Node)) (e : Fault) : Type 0 where
    pub before : List (ℕ × Node)
    pub later : List (ℕ × Node)
    pub n : ℕ × Node
    pub is : ns ≡ before ++ (n ∷ later)
    pub right : AllByRecursion (DataRight end fs) before
    pub breaks : DataBreaks end fs n e

  wrong_later : (n : ℕ × Node) (ns : List (ℕ × Node)) (e : Fault) → DataRight end fs n → FirstWrong ns e → FirstWrong (n ∷ ns) e
  wrong_later n ns e r w = record { before = n ∷ w.before; later = w.later; n = w.n; is = ap (λ z. n ∷ z) w.is; right = (r, w.right); breaks = w.breaks }

  nodes_tell : {A : Type 0} (P : Outcome A → Type 0) (a : Outcome A) (ns : List (ℕ × Node)) → ((e : Fault) → FirstWrong ns e → P (refused e))
      → (AllByRecursion (DataRight end fs) ns → P a) → P (unless (all_checks ns) a)
  nodes_tell P a [] bad good = good tt
  nodes_tell P a (n ∷ ns) bad good =
      let r = n.1.reference in
      cond_both (ltb end (end_of r)) _ _ P
      (λ x. bad (fault 5 3 (field_of n.1) n.0) (record { before = []; later = ns; n = n; is = refl; right = tt; breaks = data_outside (ltb-true end (end_of r) x) })) (λ x.
      let i : end_of r ≤ end = ltb-false end (end_of r) x in
      cond_both (overlaps r fs) _ _ P
      (λ y. bad (fault 11 3 (field_of n.1) n.0) (record { before = []; later = ns; n = n; is = refl; right = tt; breaks = data_overlap i (not_apart r fs y) })) (λ y.
      let right : DataRight end fs n = record { inside = i; apart = overlaps_apart r fs y } in
      nodes_tell P a ns (λ e w. bad e (wrong_later n ns e right w)) (λ g. good (right, g))))

  wrong_refused : {A : Type 0} (a : Outcome A) (before later : List (ℕ × Node)) (n : ℕ × Node) (e : Fault) → AllByRecursion (DataRight end fs) before → DataBreaks end fs n e
      → unless (all_checks (before ++ (n ∷ later))) a ≡ refused e
  wrong_refused a [] later n e r (data_outside l) = cond-true (ltb end (end_of n.1.reference)) _ _ (lt-ltb end (end_of n.1.reference) l)
  wrong_refused a [] later n e r (data_overlap i k) =
      cond-false (ltb end (end_of n.1.reference)) _ _ (le-ltb end (end_of n.1.reference) i) ∙ cond-true (overlaps n.1.reference fs) _ _ (is_not_apart n.1.reference fs k)
  wrong_refused a (m ∷ before) later n e (p, r) w =
      cond-false (ltb end (end_of m.1.reference)) _ _ (le-ltb end (end_of m.1.reference) p.inside)
      ∙ cond-false (overlaps m.1.reference fs) _ _ (apart_overlaps m.1.reference fs p.apart.0 p.apart.1)
      ∙ wrong_refused a before later n e r w

-- what the checks of all data tell
pub data_tells : {A : Type 0} (h : Header) (log : Log) (ls : List NodeList) (P : Outcome A → Type 0) (a : Outcome A)
    → ((e : Fault) → FirstWrong h.end (log.fragments ++ list_fragments ls) (data_nodes ls) e → P (refused e))
    → (AllByRecursion (DataRight h.end (log.fragments ++ list_fragments ls)) (data_nodes ls) → P a) → P (unless (all_data h log ls) a)
data_tells h log ls P a bad good =
    let fs = log.fragments ++ list_fragments ls in
    subst (λ cs. P (unless cs a)) (sym (checks_are h.end fs ls)) (nodes_tell h.end fs P a (data_nodes ls) bad good)

pub data_refused : {A : Type 0} (h : Header) (log : Log) (ls : List NodeList) (a : Outcome A) (before later : List (ℕ × Node)) (n : ℕ × Node) (e : Fault)
    → data_nodes ls ≡ before ++ (n ∷ later) → AllByRecursion (DataRight h.end (log.fragments ++ list_fragments ls)) before
    → DataBreaks h.end (log.fragments ++ list_fragments ls) n e → unless (all_data h log ls) a ≡ refused e
data_refused h log ls a before later n e q r w =
    let fs = log.fragments ++ list_fragments ls in
    ap (λ cs. unless cs a) (checks_are h.end fs ls ∙ ap (all_checks h.end fs) q) ∙ wrong_refused h.end fs a before later n e r w

-- data that is right, told of the spans
pub data_fits : (end : ℕ) (fs : List Span) (ls : List NodeList) (P : Span → Type 0) → ((n : ℕ × Node) → DataRight end fs n → P n.1.reference)
    → AllByRecursion (DataRight end fs) (data_nodes ls) → AllByRecursion P (data_spans ls)
data_fits end fs ls P k a = subst (AllByRecursion P) (sym (spans_of ls)) (All-map P (λ n. n.1.reference) (data_nodes ls) (All-weaker (DataRight end fs) (λ n. P n.1.reference) k (data_nodes ls) a))
