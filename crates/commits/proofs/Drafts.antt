-- All adds of a draft, one after the other.
use Rattle.std.proofs.Common.{◌≡◌, ℕ, ◌+◌, ◌^◌, ◌<◌, ◌≤◌, true, false, ◌||◌, eqb, ltb, leb, List, [], ◌∷◌, ◌++◌, map, length, sym, refl, ap, ◌∙◌, subst, inl, inr, arith}
use Rattle.std.specs.List.{AllByRecursion}
use Rattle.std.proofs.lemmas.List.{append_assoc, append-nil, length-append}
use Rattle.std.proofs.lemmas.Bool.{cases_Bool, cond_both}
use Rattle.std.proofs.lemmas.Bool.Decides.{nat_tests}
use Rattle.std.proofs.ByRecursion.{All-append, All-weaker}
use Rattle.model.specs.declared.types.Entry.{Entry}
use Rattle.model.specs.declared.types.Header.{Header}
use Rattle.model.specs.Bytes.{applied, Bytes}
use Rattle.model.specs.Faults.{done}
use Rattle.model.specs.References.{span, end_of}
use Rattle.model.specs.ListFragments.{nodes_from, nodes_to}
use Rattle.model.specs.Section.{NodeList, Section, flat, list_fragments}
use Rattle.model.specs.Opened.{opened}
use Rattle.model.specs.Means.{Stands, Means}
use Rattle.model.specs.Looks.{nodes_of}
use Rattle.model.specs.Layouts.{Add, plain, with_data, branch, Tail, Layout, tail_of, blank, find_tail, with_tail}
use Rattle.model.specs.Saving.{with_node, planned, laid, layout}
use Rattle.model.specs.Calls.{list_of, bad_id, past_ceiling, add_checks}
use Rattle.model.specs.Contents.{Content, holds, saved_by, saved}
use Rattle.model.specs.Laws.{DoneAdds, add_writes}
use Rattle.meaning.proofs.Base.{Clean}
use Rattle.meaning.proofs.Growth.{spread_fragment}
use Rattle.meaning.proofs.OpensMeans.{opens_means}
use Rattle.commits.specs.Body.{Right, up_to}
use Rattle.commits.specs.Parts.{new_parts, parts}
use Rattle.commits.proofs.Store.{applied_row}
use Rattle.commits.proofs.NodeBack.{Fair}
use Rattle.commits.proofs.PartKept.{spread_ends}
use Rattle.commits.proofs.Bodies.{body_means}
use Rattle.commits.proofs.Layouts.{with_node_highest}
use Rattle.commits.proofs.Extended.{extends_same}
use Rattle.commits.proofs.Counting.{Counting, Counts}
use Rattle.commits.proofs.Bounds.{greatest_each, blank_highest, blank_counts}
use Rattle.commits.proofs.Adds.{Drafted, Stepped, Fine, plain_step, data_step, branch_step}
use Rattle.commits.proofs.Parting.{parting_none, parting_then}
use Rattle.commits.proofs.Growth.{Grows}

-- what the checks say ------------------------------------------------------------------------------------------------------

fair : (id : ℕ) → bad_id id ≡ false → Fair id
fair id e = (grind (arith, nat_tests), grind (arith, nat_tests), grind (arith, nat_tests))

-- the tails' counts, where the changed one is checked
abbrev FewCounts : List Tail → Type 0
FewCounts ts = AllByRecursion (λ t. t.count < 2 ^ 32) ts

-- what holds of each tail and of the changed one
pub tails_with : (P : Tail → Type 0) (t : Tail) (ts : List Tail) → P t → AllByRecursion P ts → AllByRecursion P (with_tail t ts)
tails_with P t [] p a = tt
tails_with P t (u ∷ us) p a = (cond_both (eqb u.id t.id) t u P (λ e. p) (λ e. a.0), tails_with P t us p a.1)

counts_with : (t : Tail) (ts : List Tail) → (find_tail (with_tail t ts) t.id).count < 2 ^ 32 → FewCounts ts → FewCounts (with_tail t ts)
unfolding find_tail
counts_with t [] h a = tt
counts_with t (u ∷ ts) h (p, a) = elim (cases_Bool (eqb u.id t.id)) [
  | inl e ↦
      let f : eqb t.id t.id ≡ true = grind (arith, nat_tests) in
      let k : t.count < 2 ^ 32 = rw (e, f) at h in
      rw e (k, tails_with (λ t. t.count < 2 ^ 32) t ts k a)
  | inr e ↦ rw e (p, counts_with t ts (rw (e, e) at h) a)
]

node_counts : (y : Layout) (id : ℕ) (new : List ℕ) → (find_tail (with_node y id new).layout.tails id).count < 2 ^ 32 → FewCounts y.tails → FewCounts (with_node y id new).layout.tails
node_counts y id new h a = elim (cases_Bool (leb ((find_tail y.tails id).free + length new) (nodes_to (find_tail y.tails id).fragment))) [
  | inl e ↦ rw e (counts_with _ y.tails (rw e at h) a)
  | inr e ↦ rw e (counts_with _ y.tails (rw e at h) a)
]

planned_counts : (y : Layout) (a : Add) → (find_tail (planned y a).layout.tails (list_of a)).count < 2 ^ 32 → FewCounts y.tails → FewCounts (planned y a).layout.tails
unfolding planned
planned_counts y (plain list id payload) h a = node_counts y list _ h a
planned_counts y (with_data list id payload content) h a = node_counts _ list _ h a
planned_counts y (branch list id payload first_id first) h a = node_counts _ list _ h (All-append (λ t. t.count < 2 ^ 32) y.tails (_ ∷ []) a (omega arith, tt))

fine : (ceiling : ℕ) (y : Layout) (a : Add) → Fine y → Clean (add_checks ceiling y a) → Fine (planned y a).layout
fine ceiling y a f c =
    let e = f.end in
    let k20 = c.1.1.1.0 in
    let k13 = c.1.1.1.1.0 in
    let k23 = c.1.1.1.1.1.0 in
    let k24 = c.1.1.1.1.1.1.0 in
    fine_from y.end ceiling (planned y a).layout (find_tail (planned y a).layout.tails (list_of a)).count e k20 k13 k23 k24 (λ h. planned_counts y a h f.counts)
  where
    fine_from : (old ceiling : ℕ) (z : Layout) (n : ℕ) → old ≤ 2 ^ 40 → ltb 16 (length z.touched) ≡ false → ltb 1024 z.lists || ltb 2048 z.fragments ≡ false → leb (2 ^ 32) n || leb (2 ^ 32) z.highest ≡ false
        → past_ceiling old ceiling z.end ≡ false → (n < 2 ^ 32 → FewCounts z.tails) → Fine z
    fine_from old ceiling z n o t p q r k = record {
      end = grind (arith, nat_tests);
      highest = grind (arith, nat_tests);
      fragments = grind (arith, nat_tests);
      lists = grind (arith, nat_tests);
      touched = grind (arith, nat_tests);
      counts = let h : n < 2 ^ 32 = grind (arith, nat_tests) in k h;
    }

branch_highest : (y : Layout) (list id : ℕ) (payload : List ℕ) (first_id : ℕ) (first : List ℕ) → (planned y (branch list id payload first_id first)).layout.highest ≡ y.highest + 1
unfolding planned
branch_highest y list id payload first_id first = with_node_highest _ list _

-- one add that passes its checks
pub add_step : (c : List ℕ) (ceiling : ℕ) (s : Section) (y : Layout) (ls : List NodeList) (a : Add) → Drafted c s y ls → Fine y → Clean (add_checks ceiling y a)
    → Stepped c s y ls a × Fine (planned y a).layout
add_step c ceiling s y ls (plain list id payload) d f k =
    let m = k.0 in
    let z = k.1.0 in
    (plain_step c s y ls list id payload d f (fair id k.1.1.0) (grind (arith, nat_tests)) (grind (arith, nat_tests)), fine ceiling y (plain list id payload) f k)
add_step c ceiling s y ls (with_data list id payload content) d f k =
    let m = k.0 in
    let z = k.1.0 in
    (data_step c s y ls list id payload content d f (fair id k.1.1.0) (grind (arith, nat_tests)) (grind (arith, nat_tests)) (grind (arith, nat_tests)) (grind (arith, nat_tests)), fine ceiling y (with_data list id payload content) f k)
add_step c ceiling s y ls (branch list id payload first_id first) d f k =
    let m = k.0 in
    let z = k.1.0 in
    let w = k.1.1.0 in
    let g = fine ceiling y (branch list id payload first_id first) f k in
    let top : y.highest + 1 < 2 ^ 32 = rw (branch_highest y list id payload first_id first) at g.highest in
    let w1 : bad_id id ≡ false = grind (arith, nat_tests) in
    let w2 : bad_id first_id ≡ false = grind (arith, nat_tests) in
    (branch_step c s y ls list id payload first_id first d f (fair id w1) (grind (arith, nat_tests)) (fair first_id w2) (grind (arith, nat_tests)) top (grind (arith, nat_tests)), g)

-- all adds: the lists are those of a draft, and have grown by what the adds save
pub adds_drafted : (c : List ℕ) (ceiling : ℕ) (s : Section) (y : Layout) (ls : List NodeList) (adds : List Add) → Drafted c s y ls → Fine y → DoneAdds ceiling y adds
    → (ms : List NodeList) × Drafted (applied c (add_writes y adds)) s (laid y adds) ms
    × Grows c y ls (applied c (add_writes y adds)) (laid y adds) ms (saved y adds) (parts y adds) × Fine (laid y adds)
unfolding laid applied saved parts
adds_drafted c ceiling s y ls [] d f k = (ls, d, record { grown = λ id. sym (append-nil (map (holds c) (nodes_of ls id))); known = λ id h. refl; parting = parting_none y.highest ls }, f)
adds_drafted c ceiling s y ls (a ∷ more) d f (u, v, w) =
    let (x, g) = add_step c ceiling s y ls a d f v in
    let y1 : Layout = (planned y a).layout in
    let c1 : List ℕ = applied c (planned y a).writes in
    let (ms, e, r, h) = adds_drafted c1 ceiling s y1 x.0 more x.1 g w in
    let up = x.2.parting.higher in
    subst (λ (z : List ℕ). (ms : List NodeList) × Drafted z s (laid y1 more) ms
    × Grows c y ls z (laid y1 more) ms (λ id. saved_by y a id ++ saved y1 more id) (new_parts y a ++ parts y1 more) × Fine (laid y1 more))
    (sym (applied_row c (planned y a).writes (add_writes y1 more))) (
      ms,
      e,
      record {
        grown = λ id. r.grown id ∙ ap (λ (z : List Content). z ++ saved y1 more id) (x.2.grown id) ∙ append_assoc (map (holds c) (nodes_of ls id)) (saved_by y a id) (saved y1 more id);
        known = λ id k. r.known id (omega arith) ∙ x.2.known id k;
        parting = parting_then y.highest y1.highest (laid y1 more).highest ls x.0 ms (new_parts y a) (parts y1 more) x.2.parting r.parting;
      },
      h,
    )

-- the start
blank_counting : (b : List ℕ) (s : Section) → Means b s → Counting s [] (blank s).highest s.lists
blank_counting b s m = record {
  once = tt;
  known = tt;
  counts = All-weaker (Stands b s.header s.log) (Counts s.log.transactions []) (λ l x. inr (refl, x.counted)) s.lists m.lists;
  sources = greatest_each (λ (e : Entry). e.source) (blank s).highest (flat s.log.transactions) (omega arith);
  raised = inr refl;
  extended = extends_same (list_fragments s.lists);
}

pub blank_drafted : (b : List ℕ) (s : Section) → Bytes b → Means b s → Drafted b s (blank s) s.lists × Fine (blank s)
blank_drafted b s a m =
    let (d, t) = body_means b s m in
    let known = greatest_each (λ (l : NodeList). l.id) (blank s).highest s.lists (omega arith) in (
      record { laid = record { body = d; tails = refl; lists = refl; fragments = refl; known = known }; tied = t; later = omega arith; head = m.header; logs = m.log; counting = blank_counting b s m },
      record { end = m.header.most; highest = blank_highest b s a m; fragments = m.few_fragments; lists = m.few_lists; touched = omega arith; counts = blank_counts b s a m },
    )

-- the bounds of a draft's layout -------------------------------------------------------------------------------------------

-- the numbers of a tail
pub record TailFine (t : Tail) : Type 0 where
  pub size : 36 ≤ t.fragment.size
  pub end : end_of t.fragment ≤ 2 ^ 40
  pub from : nodes_from t.fragment ≤ t.free
  pub to : t.free ≤ nodes_to t.fragment
  pub free : t.free ≤ 2 ^ 40
  pub number : t.number < 2048
  pub count : t.count < 2 ^ 32

tails_fine : (c : List ℕ) (h : Header) (ls : List NodeList) → h.end ≤ 2 ^ 40 → AllByRecursion (Right c h) ls → length (list_fragments ls) ≤ 2048 → FewCounts (map tail_of ls)
    → AllByRecursion TailFine (map tail_of ls)
tails_fine c h [] e a k n = tt
tails_fine c h (l ∷ ls) e (r, a) k (n, ns) =
    let (x, y, z, w) = spread_ends c h.end (span 0 0) r.part.spread r.part.inside in
    let some = spread_fragment c r.part.spread in
    let u = length-append l.fragments (list_fragments ls) in
    let few : length l.fragments ≤ 2048 = omega arith in
    (record { size = z; end = omega arith; from = x; to = y; free = omega arith; number = omega arith; count = n }, tails_fine c h ls e a (omega arith) ns)

pub draft_bounds : (b : List ℕ) (ceiling : ℕ) (s : Section) (adds : List Add) → Bytes b → opened b ≡ done s → DoneAdds ceiling (blank s) adds
    → Fine (layout s adds) × AllByRecursion TailFine (layout s adds).tails
draft_bounds b ceiling s adds a o k =
    let (d0, f0) = blank_drafted b s a (opens_means b s o).0 in
    let (ms, d, gr, f) = adds_drafted b ceiling s (blank s) s.lists adds d0 f0 k in
    let few = f.fragments in
    let all = d.laid.fragments in
    let u = length-append s.log.fragments (list_fragments ms) in (
      f,
      subst (λ z. AllByRecursion TailFine z) (sym d.laid.tails)
          (tails_fine (applied b (add_writes (blank s) adds)) (up_to s.header (layout s adds).end) ms f.end d.laid.body.lists (omega arith) (subst FewCounts d.laid.tails f.counts)),
    )
