-- One node more, as a layout plans it.
use Rattle.std.proofs.Common.{◌≡◌, ℕ, ◌+◌, ◌-◌, ◌%◌, ◌^◌, ◌<◌, ◌≤◌, true, false, eqb, leb, ◌≢◌, List, [], ◌∷◌, ◌++◌, map, length, replicate, sym, refl, ap, ◌∙◌, subst, inl, inr, arith}
use Rattle.std.specs.List.{AllByRecursion}
use Rattle.std.proofs.lemmas.List.{append-nil, length-append, get_or_append_left}
use Rattle.std.proofs.lemmas.Bool.{cases_Bool, ne_eqb}
use Rattle.std.proofs.lemmas.Bool.Decides.{nat_tests}
use Rattle.std.proofs.ByRecursion.{All-append, All-weaker}
use Rattle.model.specs.declared.types.Span.{Span}
use Rattle.model.specs.declared.types.Header.{Header}
use Rattle.model.specs.Bytes.{Write, put, written, applied, behind}
use Rattle.model.specs.References.{span, span_bytes}
use Rattle.model.specs.Headers.{header_span}
use Rattle.model.specs.Nodes.{Node}
use Rattle.model.specs.ListFragments.{nodes_from, nodes_to, new_fragment}
use Rattle.model.specs.Section.{NodeList, Section, last_of, list_fragments, first_of}
use Rattle.model.specs.Means.{Pairwise}
use Rattle.model.specs.Layouts.{Tail, tail, Layout, tail_of, member, touch, find_tail, with_tail, ending_at, more_fragments, touching}
use Rattle.model.specs.Saving.{Plan, with_node, fitting, spilling}
use Rattle.model.specs.Laws.{last_fragment}
use Rattle.meaning.proofs.Base.{all_front, DataFits, references}
use Rattle.commits.specs.Body.{Right, Body, with_one, with_fragment, up_to}
use Rattle.commits.specs.Laid.{Laid}
use Rattle.commits.specs.Extends.{Extends}
use Rattle.commits.specs.Parts.{Part, part, node_part}
use Rattle.commits.proofs.Sizes.{length_new_fragment}
use Rattle.commits.proofs.Store.{applied_row}
use Rattle.meaning.proofs.Growth.{last_push, spread_fragment}
use Rattle.commits.proofs.Rows.{flat_instead}
use Rattle.commits.proofs.Extended.{extends_same, extends_one}
use Rattle.commits.proofs.NodeAdded.{Made, ended, spilt}
use Rattle.commits.proofs.Bodies.{body_fits, body_spill, row_old}
use Rattle.commits.proofs.Parting.{PartedTo, parted_push, parted_spill, LengthenedAs, Parting, parting_push}
use Rattle.commits.proofs.Around.{Kept}

-- the list of a tail -------------------------------------------------------------------------------------------------

pub record Found (ls : List NodeList) (id : ℕ) : Type 0 where
  pub pre : List NodeList
  pub list : NodeList
  pub post : List NodeList
  pub split : ls ≡ pre ++ (list ∷ post)
  pub same : list.id ≡ id
  pub tail' : find_tail (map tail_of ls) id ≡ tail_of list

pub found : (ls : List NodeList) (id : ℕ) → member id (map (λ t. t.id) (map tail_of ls)) ≡ true → Found ls id
unfolding find_tail
found [] id e = absurd (grind arith)
found (l ∷ ls) id e = elim (cases_Bool (eqb l.id id)) [
  | inl x ↦ record { pre = []; list = l; post = ls; split = refl; same = grind (arith, nat_tests); tail' = rw x }
  | inr x ↦
      let f = found ls id (rw x at e) in
      record { pre = l ∷ f.pre; list = f.list; post = f.post; split = ap (λ z. l ∷ z) f.split; same = f.same; tail' = rw x f.tail' }
]

-- the other tails stay
tails_other : (t : Tail) (ms : List NodeList) → AllByRecursion (λ m. t.id ≢ m.id) ms → with_tail t (map tail_of ms) ≡ map tail_of ms
tails_other t [] a = refl
tails_other t (m ∷ ms) (p, a) =
    let e = ne_eqb m.id t.id (λ z. p (sym z)) in
    rw e (ap (λ z. tail_of m ∷ z) (tails_other t ms a))

tails_with : (l' : NodeList) (pre : List NodeList) (l : NodeList) (post : List NodeList) → l'.id ≡ l.id → Pairwise (λ l m. l.id ≢ m.id) (pre ++ (l ∷ post))
    → with_tail (tail_of l') (map tail_of (pre ++ (l ∷ post))) ≡ map tail_of (pre ++ (l' ∷ post))
tails_with l' [] l post e (a, p) =
    let x : eqb l.id l'.id ≡ true = grind (arith, nat_tests) in
    rw x (ap (λ z. tail_of l' ∷ z) (tails_other (tail_of l') post (All-weaker (λ m. l.id ≢ m.id) (λ m. l'.id ≢ m.id) (λ m q r. q (sym e ∙ r)) post a)))
tails_with l' (k ∷ pre) l post e (a, p) =
    let (u, v) = all_front (λ m. k.id ≢ m.id) pre (l ∷ post) a in
    let d = v.0 in
    let x = ne_eqb k.id l'.id (λ z. d (z ∙ e)) in
    rw x (ap (λ z. tail_of k ∷ z) (tails_with l' pre l post e p))

-- what is planned --------------------------------------------------------------------------------------------------------

abbrev padding : ℕ → List ℕ
padding k = replicate ((8 - k % 8) % 8) 0

-- the plan for a node that goes into a new fragment, the k-th of its list
abbrev spilling_at : Layout → ℕ → List ℕ → Tail → ℕ → Plan
spilling_at y id new t k =
    let nf = new_fragment id k new in
    let piece = put y.end (nf ++ padding (y.end + length nf)) in
    record {
      layout = touching (tail id (span y.end 1024) k (nodes_from (span y.end 1024) + length new) (t.count + 1)) (more_fragments (ending_at (behind piece) y));
      writes = piece ∷ (ended t.free (nodes_to t.fragment) ++ (put (nodes_to t.fragment) (span_bytes (span y.end 1024)) ∷ []));
    }

with_fits : (y : Layout) (id : ℕ) (new : List ℕ) (t : Tail) → find_tail y.tails id ≡ t → leb (t.free + length new) (nodes_to t.fragment) ≡ true → with_node y id new ≡ fitting y id new t
with_fits y id new t e f = rw (e, f)

with_spills : (y : Layout) (id : ℕ) (new : List ℕ) (t : Tail) → find_tail y.tails id ≡ t → leb (t.free + length new) (nodes_to t.fragment) ≡ false → with_node y id new ≡ spilling y id new t
with_spills y id new t e f = rw (e, f)

part_fits : (y : Layout) (id : ℕ) (new : List ℕ) (t : Tail) → find_tail y.tails id ≡ t → leb (t.free + length new) (nodes_to t.fragment) ≡ true → node_part y id new ≡ []
part_fits y id new t e f = rw (e, f)

part_spills : (y : Layout) (id : ℕ) (new : List ℕ) (t : Tail) → find_tail y.tails id ≡ t → leb (t.free + length new) (nodes_to t.fragment) ≡ false
    → node_part y id new ≡ part id t.count (span y.end 1024) ∷ []
part_spills y id new t e f = rw (e, f)

-- what a plan for a node makes of the lists pre, l, post: l has one node more, and the parts ps
pub record Pushed (c : List ℕ) (s : Section) (y : Layout) (n : ℕ → Node) (pre : List NodeList) (l : NodeList) (post : List NodeList) (p : Plan) (ps : List Part) : Type 0 where
  pub list : NodeList
  pub place : ℕ
  pub same : list.id ≡ l.id
  pub nodes : list.nodes ≡ l.nodes ++ (n place ∷ [])
  pub first : first_of list ≡ first_of l
  pub parts : AllByRecursion (λ x. x.list ≡ l.id) ps
  pub lengthened : LengthenedAs l.id l list ps
  pub extended : Extends l.fragments list.fragments
  pub laid : Laid (applied c p.writes) s p.layout (pre ++ (list ∷ post))
  pub rises : y.end ≤ p.layout.end
  pub kept : AllByRecursion (Kept c (applied c p.writes)) (header_span ∷ s.log.fragments)
  -- data is apart from all fragments
  pub data_kept : (r : Span) → DataFits y.end (s.log.fragments ++ list_fragments (pre ++ (l ∷ post))) r → Kept c (applied c p.writes) r

-- a node that may be added to the lists
pub record Addable (s : Section) (y : Layout) (ls : List NodeList) (new : List ℕ) (n : ℕ → Node) : Type 0 where
  pub made : Made new n
  pub data_fits : (p : ℕ) → AllByRecursion (DataFits y.end (s.log.fragments ++ list_fragments ls)) (references (n p ∷ []))

pushed_fits : (c : List ℕ) (s : Section) (y : Layout) (pre : List NodeList) (l : NodeList) (post : List NodeList) (new : List ℕ) (n : ℕ → Node)
    → Laid c s y (pre ++ (l ∷ post)) → Addable s y (pre ++ (l ∷ post)) new n → l.free + length new ≤ nodes_to (last_fragment l.fragments)
    → Pushed c s y n pre l post (fitting y l.id new (tail_of l)) []
unfolding applied
pushed_fits c s y pre l post new n d a k =
    let l' : NodeList = with_one l (n l.free) (l.free + length new) in
    let t : tail_of l' ≡ tail l.id (last_fragment l.fragments) (length l.fragments - 1) (l.free + length new) (length l.nodes + 1)
    = ap (λ z. tail l.id (last_fragment l.fragments) (length l.fragments - 1) (l.free + length new) z) (length-append l.nodes (n l.free ∷ [])) in
    let e : list_fragments (pre ++ (l' ∷ post)) ≡ list_fragments (pre ++ (l ∷ post)) = flat_instead (λ (m : NodeList). m.fragments) pre l l' post refl in
    let (u, v) = all_front (λ m. m.id ≤ y.highest) pre (l ∷ post) d.known in
    let bd = body_fits c (up_to s.header y.end) s.log.fragments pre l post new n a.made d.body k (a.data_fits l.free) in
    record {
      list = l';
      place = l.free;
      same = refl;
      nodes = refl;
      first = refl;
      parts = tt;
      lengthened = λ qs h. subst (λ z. PartedTo l.id 0 l.fragments (l.nodes ++ (n l.free ∷ [])) (qs ++ []) (l.free + z)) (a.made.size l.free)
          (subst (λ z. PartedTo l.id 0 l.fragments (l.nodes ++ (n l.free ∷ [])) z (l.free + (n l.free).size)) (sym (append-nil qs)) (parted_push l.id (n l.free) h (a.made.place l.free)));
      extended = extends_same l.fragments;
      laid = record {
        body = bd.0;
        tails = ap (λ z. with_tail z y.tails) (sym t) ∙ ap (λ z. with_tail (tail_of l') z) d.tails ∙ tails_with l' pre l post refl d.body.ids_differ;
        lists = d.lists ∙ lengths l';
        fragments = d.fragments ∙ ap (λ z. length (s.log.fragments ++ z)) (sym e);
        known = All-append (λ m. m.id ≤ y.highest) pre (l' ∷ post) u v;
      };
      rises = omega arith;
      kept = bd.1;
      data_kept = bd.2;
    }
  where
    lengths : (l' : NodeList) → length (pre ++ (l ∷ post)) ≡ length (pre ++ (l' ∷ post))
    lengths l' = length-append pre (l ∷ post) ∙ sym (length-append pre (l' ∷ post))

applied_spill : (b : List ℕ) (w : Write) (ws : List Write) (v : Write) → applied b (w ∷ (ws ++ (v ∷ []))) ≡ written (applied (written b w.place w.new) ws) v.place v.new
unfolding applied
applied_spill b w ws v = applied_row (written b w.place w.new) ws (v ∷ [])

-- how many fragments there are, of which the list has some
count_old : (gs : List Span) (pre : List NodeList) (l : NodeList) (post : List NodeList)
    → length (gs ++ list_fragments (pre ++ (l ∷ post))) ≡ length gs + (length (list_fragments pre) + length l.fragments) + length (list_fragments post)
count_old gs pre l post =
    let X : List Span = gs ++ (list_fragments pre ++ l.fragments) in
    let a = ap length (row_old gs pre l post) in
    let x = length-append X (list_fragments post) in
    let y = length-append gs (list_fragments pre ++ l.fragments) in
    let z = length-append (list_fragments pre) l.fragments in
    omega arith

pushed_spills : (c : List ℕ) (s : Section) (y : Layout) (pre : List NodeList) (l : NodeList) (post : List NodeList) (new : List ℕ) (n : ℕ → Node)
    → Laid c s y (pre ++ (l ∷ post)) → Addable s y (pre ++ (l ∷ post)) new n → y.end < 2 ^ 64 → y.highest < 2 ^ 32 → y.fragments < 2 ^ 32
    → Pushed c s y n pre l post (spilling_at y l.id new (tail_of l) (length l.fragments)) (part l.id (length l.nodes) (span y.end 1024) ∷ [])
pushed_spills c s y pre l post new n d a x1 x2 x3 =
    let E = y.end in
    let h : Header = up_to s.header E in
    let gs = s.log.fragments in
    let fresh : Span = span E 1024 in
    let nf : List ℕ = new_fragment l.id (length l.fragments) new in
    let pad : List ℕ = padding (E + length nf) in
    let e : ℕ = E + length (nf ++ pad) in
    let ln : length nf ≡ 1024 = length_new_fragment l.id (length l.fragments) new a.made.short in
    let lp : length (nf ++ pad) ≡ length nf + length pad = length-append nf pad in
    let l' : NodeList = with_fragment l fresh (n (E + 16)) (E + 16 + length new) in
    let (r0, r1) = all_front (Right c h) pre (l ∷ post) d.body.lists in
    let some = spread_fragment c r1.0.part.spread in
    let (u, v) = all_front (λ m. m.id ≤ y.highest) pre (l ∷ post) d.known in
    let idk = v.0 in
    let c1 = count_old gs pre l post in
    let c2 = count_old gs pre l' post in
    let c3 : length l'.fragments ≡ length l.fragments + 1 = length-append l.fragments (fresh ∷ []) in
    let df = d.fragments in
    let last : last_of (span 0 0) (l.fragments ++ (fresh ∷ [])) ≡ fresh = last_push (span 0 0) l.fragments fresh in
    let num : length (l.fragments ++ (fresh ∷ [])) - 1 ≡ length l.fragments = omega arith in
    let len : length (l.nodes ++ (n (E + 16) ∷ [])) ≡ length l.nodes + 1 = length-append l.nodes (n (E + 16) ∷ []) in
    let t : tail_of l' ≡ tail l.id fresh (length l.fragments) (E + 16 + length new) (length l.nodes + 1) = rw (last, num, len) in
    let q : applied c (spilling_at y l.id new (tail_of l) (length l.fragments)).writes
    ≡ spilt c E (nf ++ pad) l.free (nodes_to (last_fragment l.fragments))
    = applied_spill c (put E (nf ++ pad)) (ended l.free (nodes_to (last_fragment l.fragments))) (put (nodes_to (last_fragment l.fragments)) (span_bytes fresh)) in
    let none : 0 + length l.nodes ≡ length l.nodes = omega arith in
    let bd = body_spill c h e gs pre l post new pad n a.made d.body (omega arith) (omega arith) (omega arith) (omega arith) (a.data_fits (E + 16)) in
    record {
      list = l';
      place = E + 16;
      same = refl;
      nodes = refl;
      first = get_or_append_left l.fragments (fresh ∷ []) (span 0 0) 0 some;
      parts = (refl, tt);
      lengthened = λ qs h. subst (λ z. PartedTo l.id 0 (l.fragments ++ (fresh ∷ [])) (l.nodes ++ (n (E + 16) ∷ [])) (qs ++ (part l.id (length l.nodes) fresh ∷ [])) (E + 16 + z)) (a.made.size (E + 16))
          (subst (λ z. PartedTo l.id 0 (l.fragments ++ (fresh ∷ [])) (l.nodes ++ (n (E + 16) ∷ [])) (qs ++ (part l.id z fresh ∷ [])) (E + 16 + (n (E + 16)).size)) none
          (parted_spill l.id fresh (n (E + 16)) h (a.made.place (E + 16))));
      extended = extends_one l.fragments E;
      laid = record {
        body = subst (λ z. Body z (up_to s.header e) gs (pre ++ (l' ∷ post))) (sym q) bd.0;
        tails = ap (λ z. with_tail z y.tails) (sym t) ∙ ap (λ z. with_tail (tail_of l') z) d.tails ∙ tails_with l' pre l post refl d.body.ids_differ;
        lists = d.lists ∙ length-append pre (l ∷ post) ∙ sym (length-append pre (l' ∷ post));
        fragments = omega arith;
        known = All-append (λ m. m.id ≤ y.highest) pre (l' ∷ post) u v;
      };
      rises = omega arith;
      kept = subst (λ z. AllByRecursion (Kept c z) (header_span ∷ gs)) (sym q) bd.1;
      data_kept = λ r x. subst (λ z. Kept c z r) (sym q) (bd.2 r x);
    }

-- a plan for a node, done, gives its list one node more
pub node_pushed : (c : List ℕ) (s : Section) (y : Layout) (pre : List NodeList) (l : NodeList) (post : List NodeList) (new : List ℕ) (n : ℕ → Node)
    → Laid c s y (pre ++ (l ∷ post)) → Addable s y (pre ++ (l ∷ post)) new n → y.end < 2 ^ 64 → y.highest < 2 ^ 32 → y.fragments < 2 ^ 32
    → find_tail y.tails l.id ≡ tail_of l → Pushed c s y n pre l post (with_node y l.id new) (node_part y l.id new)
node_pushed c s y pre l post new n d a x1 x2 x3 e = elim (cases_Bool (leb (l.free + length new) (nodes_to (last_fragment l.fragments)))) [
  | inl f ↦
      subst (λ ps. Pushed c s y n pre l post (with_node y l.id new) ps) (sym (part_fits y l.id new (tail_of l) e f))
      (subst (λ p. Pushed c s y n pre l post p []) (sym (with_fits y l.id new (tail_of l) e f)) (pushed_fits c s y pre l post new n d a (grind (arith, nat_tests))))
  | inr f ↦
      let (r0, r1) = all_front (Right c (up_to s.header y.end)) pre (l ∷ post) d.body.lists in
      let some = spread_fragment c r1.0.part.spread in
      let k : length l.fragments ≡ length l.fragments - 1 + 1 = omega arith in
      let ps : List Part = part l.id (length l.nodes) (span y.end 1024) ∷ [] in
      subst (λ ps. Pushed c s y n pre l post (with_node y l.id new) ps) (sym (part_spills y l.id new (tail_of l) e f))
      (subst (λ p. Pushed c s y n pre l post p ps) (sym (with_spills y l.id new (tail_of l) e f))
      (subst (λ k. Pushed c s y n pre l post (spilling_at y l.id new (tail_of l) k) ps) k (pushed_spills c s y pre l post new n d a x1 x2 x3)))
]

pub pushed_parting : (c : List ℕ) (s : Section) (y : Layout) (n : ℕ → Node) (pre : List NodeList) (l : NodeList) (post : List NodeList) (P : Plan) (ps : List Part) → Laid c s y (pre ++ (l ∷ post))
    → (q : Pushed c s y n pre l post P ps) → Parting y.highest (pre ++ (l ∷ post)) y.highest (pre ++ (q.list ∷ post)) ps
pushed_parting c s y n pre l post P ps d q =
    let (u, v) = all_front (λ m. m.id ≤ y.highest) pre (l ∷ post) d.known in
    parting_push y.highest pre l q.list post ps d.body.ids_differ q.same v.0 q.parts (subst (λ z. LengthenedAs z l q.list ps) (sym q.same) q.lengthened)

-- a node's plan keeps the highest ID, and touches its list
pub with_node_highest : (y : Layout) (id : ℕ) (new : List ℕ) → (with_node y id new).layout.highest ≡ y.highest
with_node_highest y id new = elim (cases_Bool (leb ((find_tail y.tails id).free + length new) (nodes_to (find_tail y.tails id).fragment))) [
  | inl e ↦ rw e
  | inr e ↦ rw e
]

pub with_node_touched : (y : Layout) (id : ℕ) (new : List ℕ) → (with_node y id new).layout.touched ≡ touch id y.touched
with_node_touched y id new = elim (cases_Bool (leb ((find_tail y.tails id).free + length new) (nodes_to (find_tail y.tails id).fragment))) [
  | inl e ↦ rw e
  | inr e ↦ rw e
]
