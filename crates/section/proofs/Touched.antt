-- The lists that a draft touched: none before the first add, each of them once, and their entries.
use Rattle.std.proofs.Common.{◌≡◌, ℕ, ◌+◌, ◌≤◌, true, eqb, ◌≢◌, List, [], ◌∷◌, ◌++◌, map, length, sym, refl, ap, ◌∙◌, subst, inl, inr, arith}
use Rattle.std.specs.List.{AllByRecursion}
use Rattle.std.proofs.lemmas.Bool.{cases_Bool, ne_eqb}
use Rattle.std.proofs.lemmas.Bool.Decides.{nat_tests}
use Rattle.std.proofs.lemmas.List.{length-append}
use Rattle.std.proofs.ByRecursion.{All-weaker}
use Rattle.model.specs.declared.types.Entry.{Entry}
use Rattle.model.specs.Bytes.{Bytes}
use Rattle.model.specs.Faults.{done}
use Rattle.model.specs.LogFragments.{entry, sentinel}
use Rattle.model.specs.Section.{Section}
use Rattle.model.specs.Opened.{opened}
use Rattle.model.specs.Means.{Pairwise}
use Rattle.model.specs.Layouts.{Add, plain, with_data, branch, Tail, Layout, tail_of, member, touch, find_tail, blank}
use Rattle.model.specs.Saving.{planned, laid, layout}
use Rattle.model.specs.Committing.{count_entries, new_entries}
use Rattle.model.specs.Calls.{none_yet}
use Rattle.model.specs.Laws.{DoneAdds}
use Rattle.meaning.proofs.OpensMeans.{opens_means}
use Rattle.commits.proofs.Rows.{all_both}
use Rattle.commits.proofs.Layouts.{with_node_touched}
use Rattle.commits.proofs.Drafts.{blank_drafted, adds_drafted}
use Rattle.writing.specs.declared.tails.Tail.{Tail as CodeTail}
use Rattle.committing.specs.CommitWrites.{counts_of, entries_for}
use Rattle.drafts.specs.declared.layout.DraftLayout.{DraftLayout}
use Rattle.drafts.specs.Lays.{tail_in, Lays}

-- ---- none before the first add

touch_more : (x : ℕ) (ids : List ℕ) → length ids ≤ length (touch x ids)
touch_more x ids = elim (cases_Bool (member x ids)) [
  | inl e ↦ rw e (omega arith)
  | inr e ↦ let n = length-append ids (x ∷ []) in rw e (omega arith)
]

touch_some : (x : ℕ) (ids : List ℕ) → 1 ≤ length (touch x ids)
touch_some x [] = omega arith
touch_some x (y ∷ ids) = let m = touch_more x (y ∷ ids) in omega arith

-- each add touches a list, and forgets none
planned_touched : (y : Layout) (a : Add) → (1 ≤ length (planned y a).layout.touched) × (length y.touched ≤ length (planned y a).layout.touched)
unfolding planned
planned_touched y (plain list id payload) = rw (with_node_touched y list _) (touch_some list y.touched, touch_more list y.touched)
planned_touched y (with_data list id payload content) = rw (with_node_touched _ list _) (touch_some list y.touched, touch_more list y.touched)
planned_touched y (branch list id payload first_id first_payload) =
    let made = y.highest + 1 in
    let ids : List ℕ = touch made (touch list y.touched) in
    let m = touch_more list y.touched in
    let n = touch_more made (touch list y.touched) in
    let o = touch_more list ids in
    rw (with_node_touched _ list _) (touch_some list ids, omega arith)

laid_touched : (y : Layout) (adds : List Add) → length y.touched ≤ length (laid y adds).touched
unfolding laid
laid_touched y [] = omega arith
laid_touched y (a ∷ adds) = let m = (planned_touched y a).1 in let ih = laid_touched (planned y a).layout adds in omega arith

pub none_touched : (s : Section) (adds : List Add) → eqb (length (layout s adds).touched) 0 ≡ none_yet adds
unfolding laid
none_touched s [] = refl
none_touched s (a ∷ adds) =
    let m = (planned_touched (blank s) a).0 in
    let n = laid_touched (planned (blank s) a).layout adds in
    grind (arith, nat_tests)

-- ---- each of them once, with its own tail

own_tails : (ts : List CodeTail) (base : List Tail) → Pairwise (λ x y. x ≢ y) (map (λ t. t.list) ts) → AllByRecursion (λ t. (tail_in ts base t.list).count ≡ t.count) ts
own_tails [] base p = tt
own_tails (t ∷ ts) base (p, ps) =
    let q : eqb t.list t.list ≡ true = grind (arith, nat_tests) in (
      rw q refl,
      all_both (λ u. t.list ≢ u.list) (λ u. (tail_in ts base u.list).count ≡ u.count) (λ u. (tail_in (t ∷ ts) base u.list).count ≡ u.count) ts
          (λ u n e. let f = ne_eqb t.list u.list n in rw f e) (ids_all t.list ts p) (own_tails ts base ps),
    )
  where
    ids_all : (x : ℕ) (ts : List CodeTail) → AllByRecursion (λ y. x ≢ y) (map (λ t. t.list) ts) → AllByRecursion (λ u. x ≢ u.list) ts
    ids_all x [] a = tt
    ids_all x (u ∷ ts) (p, a) = (p, ids_all x ts a)

counts_same : (count : ℕ → ℕ) (ts : List CodeTail) → AllByRecursion (λ t. count t.list ≡ t.count) ts → map (λ id. entry id (count id)) (map (λ t. t.list) ts) ≡ counts_of ts
counts_same count [] a = refl
counts_same count (t ∷ ts) (e, a) = let ih = counts_same count ts a in rw (e, ih) refl

pub touched_once : (b : List ℕ) (ceiling : ℕ) (s : Section) (adds : List Add) → Bytes b → opened b ≡ done s → DoneAdds ceiling (blank s) adds → Pairwise (λ x y. x ≢ y) (layout s adds).touched
touched_once b ceiling s adds a o k =
    let (d0, f0) = blank_drafted b s a (opens_means b s o).0 in
    let (ms, d, gr, f) = adds_drafted b ceiling s (blank s) s.lists adds d0 f0 k in
    d.counting.once

pub entries_same : (s : Section) (adds : List Add) (d : DraftLayout) → Lays s adds d → Pairwise (λ x y. x ≢ y) (layout s adds).touched → entries_for d.touched ≡ new_entries (layout s adds)
entries_same s adds d l p =
    let y : Layout = layout s adds in
    let base : List Tail = map tail_of s.lists in
    let own = own_tails d.touched base (subst (λ (ids : List ℕ). Pairwise (λ x y. x ≢ y) ids) (sym l.touched) p) in
    let each : AllByRecursion (λ t. (find_tail y.tails t.list).count ≡ t.count) d.touched
    = All-weaker (λ t. (tail_in d.touched base t.list).count ≡ t.count) (λ t. (find_tail y.tails t.list).count ≡ t.count) (λ t e. ap (λ (u : Tail). u.count) (l.tails t.list) ∙ e) d.touched own in
    let counts : counts_of d.touched ≡ count_entries y
    = sym (counts_same (λ id. (find_tail y.tails id).count) d.touched each) ∙ ap (λ (ids : List ℕ). map (λ id. entry id (find_tail y.tails id).count) ids) l.touched in
    ap (λ (es : List Entry). es ++ (sentinel es ∷ [])) counts
