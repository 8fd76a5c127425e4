-- Where a list's nodes stand, as nodes and fragments come behind its last.
use Rattle.std.proofs.Common.{◌≡◌, ℕ, ◌+◌, ◌<◌, ◌≤◌, true, eqb, ◌≢◌, List, [], ◌∷◌, ◌++◌, length, sym, refl, ap, ◌∙◌, subst, inl, inr, arith}
use Rattle.std.specs.List.{AllByRecursion}
use Rattle.std.proofs.lemmas.List.{append_assoc, append-nil, length-append}
use Rattle.std.proofs.lemmas.List.Elements.{filter-append}
use Rattle.std.proofs.lemmas.Bool.{ne_eqb}
use Rattle.std.proofs.lemmas.Bool.Decides.{nat_tests}
use Rattle.std.proofs.ByRecursion.{All-append, All-weaker}
use Rattle.model.specs.declared.types.Span.{Span}
use Rattle.model.specs.Nodes.{Node}
use Rattle.model.specs.ListFragments.{nodes_from, nodes_to}
use Rattle.model.specs.Section.{NodeList}
use Rattle.model.specs.Means.{Apart, Pairwise, Inside, Nodes, Spread, within, across}
use Rattle.meaning.proofs.Base.{pairs_split}
use Rattle.meaning.proofs.Members.{In, all_in, all_from_in, in_left, in_right}
use Rattle.commits.specs.Parts.{Part, part, parts_of, BackToBack, Parted, ends, goes}

-- one list -------------------------------------------------------------------------------------------------------------

-- as Parted, and the last node ends at q
pub data PartedTo (id : ℕ) : ℕ → List Span → List Node → List Part → ℕ → Type 0 where
  ends_at : {from : ℕ} {f : Span} {ns : List Node} {q : ℕ} → BackToBack (nodes_from f) ns q → PartedTo id from (f ∷ []) ns (part id from f ∷ []) q
  goes_to : {from : ℕ} {f g : Span} {gs : List Span} {all : List Node} {ps : List Part} {q : ℕ} (ns ms : List Node) (p : ℕ) → BackToBack (nodes_from f) ns p
      → PartedTo id (from + length ns) (g ∷ gs) ms ps q → all ≡ ns ++ ms → PartedTo id from (f ∷ (g ∷ gs)) all (part id from f ∷ ps) q

pub parted_from : (id : ℕ) {from : ℕ} {fs : List Span} {ns : List Node} {ps : List Part} {q : ℕ} → PartedTo id from fs ns ps q → Parted id from fs ns ps
parted_from id (ends_at {q = q} h) = ends q h
parted_from id (goes_to ns ms p h t u) = goes ns ms p h (parted_from id t) u

back_push : (p : ℕ) (ns : List Node) (q : ℕ) (n : Node) → BackToBack p ns q → n.place ≡ q → BackToBack p (ns ++ (n ∷ [])) (q + n.size)
back_push p [] q n h e = (e ∙ sym h, ap (λ z. z + n.size) h)
back_push p (m ∷ ns) q n (x, h) e = (x, back_push (p + m.size) ns q n h e)

-- a node behind the last
pub parted_push : (id : ℕ) {from : ℕ} {fs : List Span} {ns : List Node} {ps : List Part} {q : ℕ} (n : Node) → PartedTo id from fs ns ps q → n.place ≡ q
    → PartedTo id from fs (ns ++ (n ∷ [])) ps (q + n.size)
parted_push id n (ends_at {f = f} {ns = ns} {q = q} h) e = ends_at (back_push (nodes_from f) ns q n h e)
parted_push id n (goes_to ns ms p h t u) e = goes_to ns (ms ++ (n ∷ [])) p h (parted_push id n t e) (ap (λ z. z ++ (n ∷ [])) u ∙ append_assoc ns ms (n ∷ []))

-- a node in a new fragment
pub parted_spill : (id : ℕ) {from : ℕ} {fs : List Span} {ns : List Node} {ps : List Part} {q : ℕ} (x : Span) (n : Node) → PartedTo id from fs ns ps q → n.place ≡ nodes_from x
    → PartedTo id from (fs ++ (x ∷ [])) (ns ++ (n ∷ [])) (ps ++ (part id (from + length ns) x ∷ [])) (nodes_from x + n.size)
parted_spill id x n (ends_at {ns = ns} {q = q} h) e = goes_to ns (n ∷ []) q h (ends_at (e, refl)) refl
parted_spill id {from} x n (goes_to {g = g} {gs = gs} {all = all} {ps = ps} ns ms p h t u) e =
    let l : from + length ns + length ms ≡ from + length all = omega (arith, ap length u, length-append ns ms) in
    goes_to ns (ms ++ (n ∷ [])) p h
    (subst (λ z. PartedTo id (from + length ns) (g ∷ (gs ++ (x ∷ []))) (ms ++ (n ∷ [])) (ps ++ (part id z x ∷ [])) (nodes_from x + n.size)) l (parted_spill id x n t e))
    (ap (λ z. z ++ (n ∷ [])) u ∙ append_assoc ns ms (n ∷ []))

-- where a list of an accepted file is parted ---------------------------------------------------------------------------------

-- the first node is the first of one of the fragments
parted_first : (id : ℕ) (n : Node) {from : ℕ} {fs : List Span} {all : List Node} {ps : List Part} (more : List Node) → Parted id from fs all ps → all ≡ n ∷ more
    → (f : Span) × In f fs × (n.place ≡ nodes_from f)
parted_first id n more (ends {f = f} {ns = []} q h) e = absurd (grind arith)
parted_first id n more (ends {f = f} {ns = m ∷ ns} q (x, h)) e = let k : m ≡ n = grind arith in (f, inl refl, ap (λ (z : Node). z.place) (sym k) ∙ x)
parted_first id n more (goes {f = f} [] ms q h t u) e = let (g, i, x) = parted_first id n more t (sym u ∙ e) in (g, inr i, x)
parted_first id n more (goes {f = f} (m ∷ ns) ms q (x, h) t u) e = let k : m ≡ n = grind arith in (f, inl refl, ap (λ (z : Node). z.place) (sym k) ∙ x)

spread_first : (b : List ℕ) (n : Node) {fs : List Span} {all : List Node} {q : ℕ} (more : List Node) → Spread b fs all q → all ≡ n ∷ more → (f : Span) × In f fs × (n.place ≡ nodes_from f)
spread_first b n more (within {f = f} {ns = []} h) e = absurd (grind arith)
spread_first b n more (within {f = f} {ns = m ∷ ns} (x, h)) e = let k : m ≡ n = grind arith in (f, inl refl, ap (λ (z : Node). z.place) (sym k ∙ x.fields))
spread_first b n more (across {f = f} [] ms p h o v t u) e = let (g, i, x) = spread_first b n more t (sym u ∙ e) in (g, inr i, x)
spread_first b n more (across {f = f} (m ∷ ns) ms p (x, h) o v t u) e = let k : m ≡ n = grind arith in (f, inl refl, ap (λ (z : Node). z.place) (sym k ∙ x.fields))

-- a place among the nodes of f is not the first of another fragment
not_first : (f : Span) (gs : List Span) (end p : ℕ) → AllByRecursion (Apart f) gs → AllByRecursion (Inside 36 end) gs → 36 ≤ f.size → nodes_from f ≤ p → p ≤ nodes_to f
    → (g : Span) × In g gs × (p ≡ nodes_from g) → ⊥
not_first f gs end p a k s lo hi (g, i, e) =
    let x = all_in (Apart f) gs g a i in
    let y = (all_in (Inside 36 end) gs g k i).0 in
    x p (omega arith, omega arith) (omega arith, omega arith)

pub nodes_back : (b : List ℕ) (stop p : ℕ) (ns : List Node) (q : ℕ) → Nodes b stop p ns q → BackToBack p ns q
nodes_back b stop p [] q h = h
nodes_back b stop p (n ∷ ns) q (x, h) = (ap (λ (z : Node). z.place) x.fields, nodes_back b stop (p + n.size) ns q h)

back_end : (p : ℕ) (ns : List Node) (q r : ℕ) → BackToBack p ns q → BackToBack p ns r → q ≡ r
back_end p [] q r h k = sym h ∙ k
back_end p (n ∷ ns) q r (x, h) (y, k) = back_end (p + n.size) ns q r h k

-- nodes stand in a fragment and in those behind it in one way
pub same_split : (b : List ℕ) (end id : ℕ) (f : Span) (fs : List Span) {from : ℕ} {ps : List Part} (x : ℕ) (ns ns' ms ms' : List Node) (p p' q : ℕ) → nodes_from f ≤ x → x ≤ nodes_to f
    → Nodes b (nodes_to f) x ns p → BackToBack x ns' p' → Spread b fs ms q → Parted id from fs ms' ps → ns ++ ms ≡ ns' ++ ms'
    → AllByRecursion (Apart f) fs → AllByRecursion (Inside 36 end) fs → 36 ≤ f.size → (ns ≡ ns') × (ms ≡ ms')
same_split b end id f fs x [] [] ms ms' p p' q lo hi h k t v e a i s = (refl, e)
same_split b end id f fs x [] (n ∷ ns') ms ms' p p' q lo hi h (k, ks) t v e a i s =
    let (g, j, y) = spread_first b n (ns' ++ ms') t e in
    absurd (not_first f fs end x a i s lo hi (g, j, sym k ∙ y))
same_split b end id f fs x (n ∷ ns) [] ms ms' p p' q lo hi (h, hs) k t v e a i s =
    let (g, j, y) = parted_first id n (ns ++ ms) v (sym e) in
    absurd (not_first f fs end x a i s lo hi (g, j, sym (ap (λ (z : Node). z.place) h.fields) ∙ y))
same_split b end id f fs x (n ∷ ns) (n' ∷ ns') ms ms' p p' q lo hi (h, hs) (k, ks) t v e a i s =
    let w : n ≡ n' = grind arith in
    let e1 : ns ++ ms ≡ ns' ++ ms' = grind arith in
    let to = h.ends in
    let k1 : BackToBack (x + n.size) ns' p' = subst (λ (z : Node). BackToBack (x + z.size) ns' p') (sym w) ks in
    let (y, z) = same_split b end id f fs (x + n.size) ns ns' ms ms' p p' q (omega arith) to hs k1 t v e1 a i s in
    (cc (w, y), z)

-- so a list that stands is parted up to its end
pub parted_to : (b : List ℕ) (end id : ℕ) {from : ℕ} {fs : List Span} {ns : List Node} {ps : List Part} {q : ℕ} → Spread b fs ns q → Pairwise Apart fs → AllByRecursion (Inside 36 end) fs
    → Parted id from fs ns ps → PartedTo id from fs ns ps q
parted_to b end id (within {f = f} h) a i (ends p k) = ends_at (nodes_back b (nodes_to f) (nodes_from f) _ _ h)
parted_to b end id {from} (across {f = f} {g = g} {gs = gs} {q = q} ns ms p h o v t u) (a, as') ((i0, i1), is) (goes {ps = ps} ns' ms' p' k t' u') =
    let (x, y) = same_split b end id f (g ∷ gs) (nodes_from f) ns ns' ms ms' p p' q (omega arith) (omega arith) h k t t' (sym u ∙ u') a is i0 in
    let t1 : PartedTo id (from + length ns') (g ∷ gs) ms' ps q = parted_to b end id (subst (λ z. Spread b (g ∷ gs) z q) y t) as' is t' in
    goes_to ns' ms' p' k t1 u'

-- all lists ----------------------------------------------------------------------------------------------------------------

-- the list m has become l by parts ps more
abbrev pub LengthenedAs : ℕ → NodeList → NodeList → List Part → Type 0
LengthenedAs id m l ps = (qs : List Part) → PartedTo id 0 m.fragments m.nodes qs m.free → PartedTo id 0 l.fragments l.nodes (qs ++ ps) l.free

abbrev pub Lengthened : NodeList → NodeList → List Part → Type 0
Lengthened m l ps = LengthenedAs l.id m l ps

-- a list that was among ls, or one above all their IDs
pub data Grew (highest : ℕ) (ls : List NodeList) (ps : List Part) (l : NodeList) : Type 0 where
  old : (m : NodeList) → In m ls → m.id ≡ l.id → Lengthened m l (parts_of l.id ps) → Grew highest ls ps l
  new : highest < l.id → PartedTo l.id 0 l.fragments l.nodes (parts_of l.id ps) l.free → Grew highest ls ps l

-- lists ls have become the lists ms by the parts ps
pub record Parting (highest : ℕ) (ls : List NodeList) (highest' : ℕ) (ms : List NodeList) (ps : List Part) : Type 0 where
  pub each : AllByRecursion (Grew highest ls ps) ms
  pub below : AllByRecursion (λ p. p.list ≤ highest') ps
  pub higher : highest ≤ highest'

others : (id : ℕ) (ps : List Part) → AllByRecursion (λ p. p.list ≢ id) ps → parts_of id ps ≡ []
others id [] a = refl
others id (p ∷ ps) (n, a) = let e = ne_eqb p.list id n in rw e (others id ps a)

own : (id : ℕ) (ps : List Part) → AllByRecursion (λ p. p.list ≡ id) ps → parts_of id ps ≡ ps
own id [] a = refl
own id (p ∷ ps) (e, a) = let q : eqb p.list id ≡ true = grind (arith, nat_tests) in rw q (ap (λ z. p ∷ z) (own id ps a))

parts_append : (id : ℕ) (ps qs : List Part) → parts_of id (ps ++ qs) ≡ parts_of id ps ++ parts_of id qs
parts_append id ps qs = filter-append (λ p. eqb p.list id) ps qs

-- nothing more
kept_list : (m : NodeList) (ps : List Part) → ps ≡ [] → Lengthened m m ps
kept_list m ps e qs h = subst (λ z. PartedTo m.id 0 m.fragments m.nodes z m.free) (sym (ap (λ z. qs ++ z) e ∙ append-nil qs)) h

pub parting_none : (highest : ℕ) (ls : List NodeList) → Parting highest ls highest ls []
parting_none highest ls = record {
  each = all_from_in (Grew highest ls []) ls (λ l i. old l i refl (kept_list l [] refl));
  below = tt;
  higher = omega arith;
}

-- by ps, and then by qs
grew_then : (h h' : ℕ) (ls ms : List NodeList) (ps qs : List Part) → Parting h ls h' ms ps → (l : NodeList) → Grew h' ms qs l → Grew h ls (ps ++ qs) l
grew_then h h' ls ms ps qs g l (new u p) =
    let b = g.below in
    let hi = g.higher in
    let e : parts_of l.id ps ≡ [] = others l.id ps (All-weaker (λ p. p.list ≤ h') (λ p. p.list ≢ l.id) (λ p x y. omega arith) ps b) in
    new (omega arith) (subst (λ z. PartedTo l.id 0 l.fragments l.nodes z l.free) (sym (parts_append l.id ps qs ∙ ap (λ z. z ++ parts_of l.id qs) e)) p)
grew_then h h' ls ms ps qs g l (old m i e k) = after m (all_in (Grew h ls ps) ms m g.each i) e k
  where
    after : (m : NodeList) → Grew h ls ps m → m.id ≡ l.id → Lengthened m l (parts_of l.id qs) → Grew h ls (ps ++ qs) l
    after m (new u p) e k =
        let p1 : PartedTo l.id 0 m.fragments m.nodes (parts_of l.id ps) m.free = subst (λ z. PartedTo z 0 m.fragments m.nodes (parts_of z ps) m.free) e p in
        new (omega arith) (subst (λ z. PartedTo l.id 0 l.fragments l.nodes z l.free) (sym (parts_append l.id ps qs)) (k (parts_of l.id ps) p1))
    after m (old m' j f w) e k =
        old m' j (f ∙ e) (λ xs x.
        let x1 : PartedTo l.id 0 m.fragments m.nodes (xs ++ parts_of l.id ps) m.free
        = subst (λ z. PartedTo z 0 m.fragments m.nodes (xs ++ parts_of z ps) m.free) e (w xs (subst (λ z. PartedTo z 0 m'.fragments m'.nodes xs m'.free) (sym e) x)) in
        subst (λ z. PartedTo l.id 0 l.fragments l.nodes z l.free) (append_assoc xs (parts_of l.id ps) (parts_of l.id qs) ∙ ap (λ z. xs ++ z) (sym (parts_append l.id ps qs)))
        (k (xs ++ parts_of l.id ps) x1))

pub parting_then : (h h' h'' : ℕ) (ls ms ns : List NodeList) (ps qs : List Part) → Parting h ls h' ms ps → Parting h' ms h'' ns qs → Parting h ls h'' ns (ps ++ qs)
parting_then h h' h'' ls ms ns ps qs f g =
    let a = f.higher in
    let b = g.higher in
    record {
      each = All-weaker (Grew h' ms qs) (Grew h ls (ps ++ qs)) (grew_then h h' ls ms ps qs f) ns g.each;
      below = All-append (λ p. p.list ≤ h'') ps qs (All-weaker (λ p. p.list ≤ h') (λ p. p.list ≤ h'') (λ p x. omega arith) ps f.below) g.below;
      higher = omega arith;
    }

-- one list has become longer
pub parting_push : (h : ℕ) (pre : List NodeList) (l l' : NodeList) (post : List NodeList) (ps : List Part) → Pairwise (λ l m. l.id ≢ m.id) (pre ++ (l ∷ post)) → l'.id ≡ l.id → l.id ≤ h
    → AllByRecursion (λ p. p.list ≡ l.id) ps → Lengthened l l' ps → Parting h (pre ++ (l ∷ post)) h (pre ++ (l' ∷ post)) ps
parting_push h pre l l' post ps d e k a w =
    let (d0, d1, d2) = pairs_split (λ l m. l.id ≢ m.id) pre (l ∷ post) d in
    record {
      each = All-append (Grew h all ps) pre (l' ∷ post)
          (all_from_in (Grew h all ps) pre (λ m i. other m (in_left pre (l ∷ post) m i) (λ z. (all_in (λ m. AllByRecursion (λ k. m.id ≢ k.id) (l ∷ post)) pre m d2 i).0 (sym z)))) (
            old l (in_right pre (l ∷ post) l (inl refl)) (sym e) (subst (λ z. Lengthened l l' z) (sym (own l'.id ps (All-weaker (λ p. p.list ≡ l.id) (λ p. p.list ≡ l'.id) (λ p x. x ∙ sym e) ps a))) w),
            all_from_in (Grew h all ps) post (λ m i. other m (in_right pre (l ∷ post) m (inr i)) (all_in (λ m. l.id ≢ m.id) post m d1.0 i)),
          );
      below = All-weaker (λ p. p.list ≡ l.id) (λ p. p.list ≤ h) (λ p x. omega arith) ps a;
      higher = omega arith;
    }
  where
    all : List NodeList
    all = pre ++ (l ∷ post)

    other : (m : NodeList) → In m all → l.id ≢ m.id → Grew h all ps m
    other m i n = old m i refl (kept_list m (parts_of m.id ps) (others m.id ps (All-weaker (λ p. p.list ≡ l.id) (λ p. p.list ≢ m.id) (λ p x y. n (sym x ∙ y)) ps a)))

-- one list more, above all IDs
pub parting_list : (h : ℕ) (ls : List NodeList) (f : Span) (n : Node) (q : ℕ) → n.place ≡ nodes_from f → nodes_from f + n.size ≡ q → AllByRecursion (λ m. m.id ≤ h) ls
    → Parting h ls (h + 1) (ls ++ (record { id = h + 1; fragments = f ∷ []; nodes = n ∷ []; free = q } ∷ [])) (part (h + 1) 0 f ∷ [])
parting_list h ls f n q e z k =
    let ps : List Part = part (h + 1) 0 f ∷ [] in
    let l : NodeList = record { id = h + 1; fragments = f ∷ []; nodes = n ∷ []; free = q } in
    record {
      each = All-append (Grew h ls ps) ls (l ∷ [])
          (all_from_in (Grew h ls ps) ls (λ m i. old m i refl (kept_list m (parts_of m.id ps) (others m.id ps ((λ z. let y = all_in (λ m. m.id ≤ h) ls m k i in omega arith), tt)))))
          (new (omega arith) (subst (λ z. PartedTo (h + 1) 0 (f ∷ []) (n ∷ []) z q) (sym (own (h + 1) ps (refl, tt))) (ends_at (e, z))), tt);
      below = (omega arith, tt);
      higher = omega arith;
    }
