-- A list that stands is read as it is, and one that is right up to some place is read up to there.
use Rattle.std.proofs.Common.{◌≡◌, ℕ, zero, suc, ◌+◌, ◌-◌, ◌<◌, ◌≤◌, true, false, eqb, ◌⊎◌, List, [], ◌∷◌, ◌++◌, length, sym, refl, ap, ◌∙◌, subst, inl, inr, arith}
use Rattle.std.specs.List.{AllByRecursion}
use Rattle.std.proofs.lemmas.List.{append_assoc, append-nil, length-append, length_push}
use Rattle.std.proofs.lemmas.Bool.Decides.{nat_tests}
use Rattle.std.proofs.lemmas.Bool.{and_right}
use Rattle.model.specs.declared.types.Span.{Span}
use Rattle.model.specs.declared.types.Header.{Header}
use Rattle.model.specs.Bytes.{le}
use Rattle.model.specs.Faults.{done, then}
use Rattle.model.specs.Headers.{header_span}
use Rattle.model.specs.Nodes.{Node, node_at, hands_over}
use Rattle.model.specs.ListFragments.{nodes_from, nodes_to}
use Rattle.model.specs.Section.{Log, NodeList, last_of, count_in, first_of}
use Rattle.model.specs.OpenedLists.{counted, uncounted, nodes_at, taken, list_from, list_goes, list_checks}
use Rattle.model.specs.Means.{Apart, Pairwise, Inside, Nodes, Spread, within, across, Marked, Numbered, Stands}
use Rattle.meaning.proofs.GoodNodes.{good_stays, good_passes}
use Rattle.meaning.proofs.Base.{Clean, unless_clean, inside_passes, apart_overlaps, apart_before}
use Rattle.meaning.proofs.ListSteps.{nodes_then, from_node, marked_passes}

-- nodes ------------------------------------------------------------------------------------------------------------

-- nodes that stand there are read, and then the next
pub nodes_through : (n : ℕ) (b : List ℕ) (id stop p : ℕ) (ns ks : List Node) (q : ℕ) → Nodes b stop p ks q → length ks ≤ n
    → nodes_at n b id stop p ns ≡ nodes_at (n - length ks) b id stop q (ns ++ ks)
unfolding nodes_at
nodes_through n b id stop p ns [] q w l =
    let x : n - 0 ≡ n = omega arith in
    rw (x, append-nil) (ap (λ z. nodes_at n b id stop z ns) w)
nodes_through zero b id stop p ns (k ∷ ks) q w l = absurd (omega arith)
nodes_through (suc n) b id stop p ns (k ∷ ks) q w l =
    let e : k ≡ node_at b p = w.0.fields in
    let o = good_stays b stop p k w.0 in
    let g = good_passes b stop p k w.0 in
    let ih = nodes_through n b id stop (p + k.size) (ns ++ (k ∷ [])) ks q w.1 (omega arith) in
    let a : (ns ++ (k ∷ [])) ++ ks ≡ ns ++ (k ∷ ks) = append_assoc ns (k ∷ []) ks in
    let x : n - length ks ≡ suc n - suc (length ks) = omega arith in
    grind (arith, nat_tests)

-- the list is at its count
nodes_over : (n : ℕ) (b : List ℕ) (id stop p : ℕ) (ns : List Node) → n ≡ 0 → nodes_at n b id stop p ns ≡ done (counted ns p)
unfolding nodes_at
nodes_over n b id stop p ns e = rw e

-- it is not, and goes on in the next fragment
pub nodes_handed : (n : ℕ) (b : List ℕ) (id stop p : ℕ) (ns : List Node) → 1 ≤ n → hands_over (le 4 b p) stop p ≡ true → nodes_at n b id stop p ns ≡ done (uncounted ns)
unfolding nodes_at
nodes_handed zero b id stop p ns l h = absurd (omega arith)
nodes_handed (suc n) b id stop p ns l h = rw h

-- the last fragment has a node
pub spread_some : (b : List ℕ) (f : Span) (gs : List Span) (ms : List Node) (q : ℕ) → Spread b (f ∷ gs) ms q → nodes_from (last_of f gs) < q → 1 ≤ length ms
spread_some b f [] [] q (within w) l = absurd (omega arith)
spread_some b f [] (m ∷ ms) q (within w) l = omega arith
spread_some b f (g ∷ gs) ms q (across ns ks p w h e r a) l =
    let x = spread_some b g gs ks q r l in
    let y : length ms ≡ length ns + length ks = ap length a ∙ length-append ns ks in
    omega arith

-- fragments --------------------------------------------------------------------------------------------------------

abbrev pub list_is : ℕ → List Span → List Node → ℕ → NodeList
list_is id fs ns q = record { id = id; fragments = fs; nodes = ns; free = q }

-- how far a list is read: it is not at its count, or just at it, by a node of its last fragment
abbrev Far : ℕ → ℕ → Span → ℕ → Type 0
Far count read last q = (read < count) ⊎ ((read ≡ count) × (nodes_from last < q))

module _ (b : List ℕ) (end count : ℕ) (ls : List NodeList) (before : List Span) (id : ℕ) (real : 16 ≤ id) (new : taken id ls ≡ false) (some : 1 ≤ count) where
  -- a fragment that is right is entered
  list_enters : (n field : ℕ) (f : Span) (fs gs : List Span) (ns : List Node)
      → Inside 36 end f → Marked b id (length fs) f → Pairwise Apart (header_span ∷ ((before ++ fs) ++ (f ∷ gs)))
      → list_from (suc n) b end count ls before id field f fs ns ≡ nodes_then b end count ls before id field f n fs ns
  unfolding list_from
  list_enters n field f fs gs ns i m a =
      let p = apart_before (header_span ∷ (before ++ fs)) f gs a in
      let z : eqb count 0 ≡ false = grind (arith, nat_tests) in
      let clean : Clean (list_checks b end count ls before id field f fs) = (
        inside_passes 36 end f (omega arith) i,
        (
          apart_overlaps f (before ++ fs) p.0 p.1,
          (marked_passes b id (length fs) f m real, (and_right (eqb (length fs) 0) (taken id ls) new, (and_right (eqb (length fs) 0) (eqb count 0) z, tt))),
        ),
      ) in
      unless_clean (list_checks b end count ls before id field f fs) _ clean

  pub list_walks : (n m field : ℕ) (f : Span) (gs fs : List Span) (ns ms : List Node) (q : ℕ)
      → Spread b (f ∷ gs) ms q → AllByRecursion (Inside 36 end) (f ∷ gs) → Numbered b id (length fs) (f ∷ gs)
      → Pairwise Apart (header_span ∷ ((before ++ fs) ++ (f ∷ gs))) → Far count (length ns + length ms) (last_of f gs) q → n ≡ length (f ∷ gs) + m
      → (front : List Span) × (front ++ (last_of f gs ∷ []) ≡ fs ++ (f ∷ gs)) × (list_from n b end count ls before id field f fs ns ≡ from_node b end count ls before id m front (last_of f gs) (ns ++ ms) q)
  list_walks zero m field f gs fs ns ms q s i k a c l = absurd (omega arith)
  list_walks (suc n) m field f [] fs ns ms q (within w) i k a c l =
      let x : n ≡ m = omega arith in
      let y = length-append ns ms in
      let u : length ns + length ms ≤ count = far c in
      let v : count - length ns - length ms ≡ count - length (ns ++ ms) = omega arith in (
        fs,
        refl,
        list_enters n field f fs [] ns i.0 k.0 a
            ∙ ap (λ z. then z (list_goes (list_from n b end count ls before id) b id f fs)) (nodes_through (count - length ns) b id (nodes_to f) (nodes_from f) ns ms q w (omega arith)
            ∙ ap (λ z. nodes_at z b id (nodes_to f) q (ns ++ ms)) v)
            ∙ ap (λ z. from_node b end count ls before id z fs f (ns ++ ms) q) x,
      )
    where
      far : (length ns + length ms < count) ⊎ ((length ns + length ms ≡ count) × (nodes_from f < q)) → length ns + length ms ≤ count
      far (inl x) = omega arith
      far (inr x) = omega arith
  list_walks (suc n) m field f (g ∷ gs) fs ns ms q (across ks js p w h e s split) i k a c l =
      let long : length ms ≡ length ks + length js = ap length split ∙ length-append ks js in
      let long' : length (ns ++ ks) ≡ length ns + length ks = length-append ns ks in
      let num : Numbered b id (length (fs ++ (f ∷ []))) (g ∷ gs) = subst (λ x. Numbered b id x (g ∷ gs)) (sym (length_push fs f)) k.1 in
      let apart : Pairwise Apart (header_span ∷ ((before ++ (fs ++ (f ∷ []))) ++ (g ∷ gs)))
      = subst (λ x. Pairwise Apart (header_span ∷ x)) (sym (append_assoc (before ++ fs) (f ∷ []) (g ∷ gs)) ∙ ap (λ x. x ++ (g ∷ gs)) (append_assoc before fs (f ∷ []))) a in
      let (short, far) = goes_on ks js c s (omega arith) in
      let (front, last, walk) = list_walks n m (nodes_to f) g gs (fs ++ (f ∷ [])) (ns ++ ks) js q s i.1 num apart far (omega arith) in (
        front,
        last ∙ append_assoc fs (f ∷ []) (g ∷ gs),
        list_enters n field f fs (g ∷ gs) ns i.0 k.0 a
            ∙ ap (λ z. then z (list_goes (list_from n b end count ls before id) b id f fs)) (nodes_through (count - length ns) b id (nodes_to f) (nodes_from f) ns ks p w (omega arith)
            ∙ nodes_handed (count - length ns - length ks) b id (nodes_to f) p (ns ++ ks) (omega arith) h)
            ∙ ap (λ (x : Span). list_from n b end count ls before id (nodes_to f) x (fs ++ (f ∷ [])) (ns ++ ks)) (sym e) ∙ walk
            ∙ ap (λ z. from_node b end count ls before id m front (last_of g gs) z q) (append_assoc ns ks js ∙ ap (λ x. ns ++ x) (sym split)),
      )
    where
      goes_on : (ks js : List Node) → Far count (length ns + length ms) (last_of g gs) q → Spread b (g ∷ gs) js q → length ms ≡ length ks + length js
          → (length ns + length ks < count) × Far count (length (ns ++ ks) + length js) (last_of g gs) q
      goes_on ks js (inl x) s e = let y = length-append ns ks in (omega arith, inl (omega arith))
      goes_on ks js (inr x) s e =
          let y = length-append ns ks in
          let z = spread_some b g gs js q s x.1 in
          (omega arith, inr (omega arith, x.1))

-- a list that stands is read, from the reference to its first fragment
stands_with : (n : ℕ) (b : List ℕ) (h : Header) (log : Log) (ls : List NodeList) (before : List Span) (id field : ℕ) (fs : List Span) (ms : List Node) (q : ℕ)
    → Stands b h log (list_is id fs ms q) → Pairwise Apart (header_span ∷ (before ++ fs)) → taken id ls ≡ false → length fs ≤ n
    → list_from n b h.end (count_in log.transactions id) ls before id field (first_of (list_is id fs ms q)) [] [] ≡ done (list_is id fs ms q)
stands_with n b h log ls before id field [] ms q s a t l = elim s.part.spread [ ]
stands_with n b h log ls before id field (f ∷ fs) ms q s a t l =
    let count = count_in log.transactions id in
    let some = spread_some b f fs ms q s.part.spread s.ends in
    let c : length ms ≡ count = s.counted in
    let m = n - length (f ∷ fs) in
    let (front, last, walk) = list_walks b h.end count ls before id s.part.real t (omega arith) n m field f fs [] [] ms q s.part.spread s.part.inside s.part.marks
    (subst (λ x. Pairwise Apart (header_span ∷ (x ++ (f ∷ fs)))) (sym (append-nil before)) a) (inr (omega arith, s.ends)) (omega arith) in
    walk ∙ ap (λ z. then z (list_goes (list_from m b h.end count ls before id) b id (last_of f fs) front)) (nodes_over (count - length ms) b id (nodes_to (last_of f fs)) q ms (omega arith))
    ∙ ap (λ z. done (list_is id z ms q)) last

pub stands_read : (n : ℕ) (b : List ℕ) (h : Header) (log : Log) (ls : List NodeList) (before : List Span) (field : ℕ) (l : NodeList)
    → Stands b h log l → Pairwise Apart (header_span ∷ (before ++ l.fragments)) → taken l.id ls ≡ false → length l.fragments ≤ n
    → list_from n b h.end (count_in log.transactions l.id) ls before l.id field (first_of l) [] [] ≡ done l
stands_read n b h log ls before field l s a t k = stands_with n b h log ls before l.id field l.fragments l.nodes l.free s a t k
