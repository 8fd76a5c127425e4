-- The lists that a draft touched: each once, with the tail and the count that its layout has for it.
use Rattle.std.proofs.Common.{◌≡◌, ℕ, ◌+◌, true, false, eqb, ◌≢◌, List, [], ◌∷◌, map, length, Some, refl, ap, ap₂, ◌∙◌, sym, subst, inl, inr, arith}
use Rattle.std.specs.List.{AllByRecursion}
use Rattle.std.proofs.lemmas.Bool.{cases_Bool, ne_eqb}
use Rattle.std.proofs.lemmas.Bool.Decides.{nat_tests}
use Rattle.model.specs.Bytes.{behind}
use Rattle.model.specs.References.{span}
use Rattle.model.specs.Nodes.{plain_node, referring_node}
use Rattle.model.specs.ListFragments.{nodes_from, new_fragment}
use Rattle.model.specs.LogFragments.{entry}
use Rattle.model.specs.Section.{Section}
use Rattle.model.specs.Means.{Pairwise}
use Rattle.model.specs.Layouts.{Add, plain, with_data, branch, Tail, tail, Layout, tail_of, touch, find_tail, blank, ending_at, more_fragments, more_lists, member}
use Rattle.model.specs.Saving.{at_end, planned, laid, layout}
use Rattle.model.specs.Committing.{count_entries}
use Rattle.meaning.proofs.Members.{In}
use Rattle.commits.specs.Parts.{Part}
use Rattle.commits.proofs.Counting.{touch_once}
use Rattle.commits.proofs.Layouts.{with_node_touched}
use Rattle.commits.proofs.Rows.{all_both}
use Rattle.writing.specs.declared.tails.Tail.{Tail as CodeTail}
use Rattle.writing.specs.Tails.{as_tail}
use Rattle.drafts.specs.declared.layout.DraftLayout.{DraftLayout}
use Rattle.drafts.specs.Lays.{tail_in, Holds}
use Rattle.drafts.specs.Looked.{tail_for}
use Rattle.drafts.proofs.Tails.{lists_of}
use Rattle.keeping.specs.Given.{given}

abbrev pub Once : List ℕ → Type 0
Once ids = Pairwise (λ x y. x ≢ y) ids

-- each list once -------------------------------------------------------------------------------------------------------------

planned_once : (y : Layout) (a : Add) → Once y.touched → Once (planned y a).layout.touched
unfolding planned
planned_once y (plain list id payload) p = subst Once (sym (with_node_touched y list (plain_node id payload))) (touch_once list y.touched p)
planned_once y (with_data list id payload content) p =
    let z : Layout = ending_at (behind (at_end y content)) y in
    subst Once (sym (with_node_touched z list (referring_node id 1 (span y.end (length content)) payload))) (touch_once list y.touched p)
planned_once y (branch list id payload first_id first_payload) p =
    let made = y.highest + 1 in
    let first = plain_node first_id first_payload in
    let fresh = span y.end 1024 in
    let z : Layout = more_lists list (tail made fresh 0 (nodes_from fresh + length first) 1) (more_fragments (ending_at (behind (at_end y (new_fragment made 0 first))) y)) in
    subst Once (sym (with_node_touched z list (referring_node id 2 fresh payload))) (touch_once list (touch made (touch list y.touched)) (touch_once made (touch list y.touched) (touch_once list y.touched p)))

laid_once : (y : Layout) (adds : List Add) → Once y.touched → Once (laid y adds).touched
unfolding laid
laid_once y [] p = p
laid_once y (a ∷ as') p = laid_once (planned y a).layout as' (planned_once y a p)

abbrev pub ListsDiffer : List CodeTail → Type 0
ListsDiffer ts = Pairwise (λ t u. t.list ≢ u.list) ts

differ_from : (ts : List CodeTail) → Once (lists_of ts) → ListsDiffer ts
differ_from [] p = tt
differ_from (t ∷ ts) (a, p) = (all_from ts a, differ_from ts p)
  where
    all_from : (us : List CodeTail) → AllByRecursion (λ x. t.list ≢ x) (lists_of us) → AllByRecursion (λ (u : CodeTail). t.list ≢ u.list) us
    all_from [] a = tt
    all_from (u ∷ us) (n, a) = (n, all_from us a)

-- the draft of these adds over s
module _ (s : Section) (adds : List Add) (ps : List Part) (d : DraftLayout) (h : Holds s (layout s adds) ps d) where
  pub touched_differ : ListsDiffer d.touched
  touched_differ = differ_from d.touched (subst Once (sym h.touched) (laid_once (blank s) adds tt))

  -- the counts that its transaction gives
  pub counts_given : count_entries (layout s adds) ≡ given d.touched
  counts_given = ap (λ ids. map (λ id. entry id (find_tail (layout s adds).tails id).count) ids) (sym h.touched) ∙ each d.touched (own d.touched (map tail_of s.lists) touched_differ)
    where
      own : (ts : List CodeTail) (base : List Tail) → ListsDiffer ts → AllByRecursion (λ t. tail_in ts base t.list ≡ as_tail t) ts
      own [] base p = tt
      own (t ∷ ts) base (a, p) =
          let same : eqb t.list t.list ≡ true = grind (arith, nat_tests) in (
            rw same refl,
            all_both (λ (u : CodeTail). t.list ≢ u.list) (λ u. tail_in ts base u.list ≡ as_tail u) (λ u. tail_in (t ∷ ts) base u.list ≡ as_tail u) ts (λ u n e. let f = ne_eqb t.list u.list n in rw f e) a (own ts base p),
          )

      each : (ts : List CodeTail) → AllByRecursion (λ (t : CodeTail). tail_in d.touched (map tail_of s.lists) t.list ≡ as_tail t) ts
          → map (λ id. entry id (find_tail (layout s adds).tails id).count) (lists_of ts) ≡ given ts
      each [] a = refl
      each (t ∷ ts) (e, a) =
          let f : (find_tail (layout s adds).tails t.list).count ≡ t.count = ap (λ (u : Tail). u.count) (h.tails t.list ∙ e) in
          ap₂ (λ n es. entry t.list n ∷ es) f (each ts a)

-- one of them ------------------------------------------------------------------------------------------------------------------

pub tail_for_touched : (id : ℕ) (ts : List CodeTail) (t : CodeTail) → tail_for id ts ≡ Some t → In t ts
tail_for_touched id [] t e = absurd cc
tail_for_touched id (u ∷ ts) t e = elim (cases_Bool (eqb u.list id)) [
  | inl f ↦ let g : Some u ≡ Some t = rw f at e in inl cc
  | inr f ↦ inr (tail_for_touched id ts t (rw f at e))
]

-- a list that is none of them
pub not_touched : (id : ℕ) (ts : List CodeTail) → member id (lists_of ts) ≡ false → AllByRecursion (λ t. t.list ≢ id) ts
not_touched id [] e = tt
not_touched id (t ∷ ts) e = elim (cases_Bool (eqb t.list id)) [
  | inl f ↦ absurd (grind (arith, nat_tests))
  | inr f ↦ ((λ h. grind (arith, nat_tests)), not_touched id ts (rw f at e))
]
