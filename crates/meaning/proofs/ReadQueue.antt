-- Lists that are right, each named once, are all read, in the order in which they are named.
use Rattle.std.proofs.Common.{◌≡◌, ℕ, zero, suc, ◌+◌, ◌-◌, ◌≤◌, false, eqb, ◌≢◌, List, [], ◌∷◌, ◌++◌, map, length, get_or, drop, sym, refl, ap, ◌∙◌, subst, inl, inr, arith}
use Rattle.std.specs.List.{ContainsAt, AllByRecursion}
use Rattle.std.proofs.lemmas.List.{append_assoc, append-nil, length-append, length-map, length_push, length-drop, drop-drop, drop-append-le, map-append, append_cancel_left}
use Rattle.std.proofs.lemmas.Bool.Decides.{nat_tests}
use Rattle.std.proofs.lemmas.Bool.{or_from}
use Rattle.std.proofs.ByRecursion.{All-weaker}
use Rattle.model.specs.declared.types.Span.{Span}
use Rattle.model.specs.declared.types.Header.{Header}
use Rattle.model.specs.Faults.{done, then}
use Rattle.model.specs.References.{span}
use Rattle.model.specs.Headers.{header_span}
use Rattle.model.specs.ListFragments.{owner}
use Rattle.model.specs.Section.{Log, NodeList, flat, count_in, list_fragments, first_of}
use Rattle.model.specs.OpenedLists.{taken, list_from, Named, named_by, named_first, lists_from, named_list}
use Rattle.model.specs.Means.{Apart, Pairwise, Spread, Numbered, Stands, named_in, Reached, by_header, by_node, InOrder}
use Rattle.model.specs.Breaks.{Walked}
use Rattle.meaning.proofs.Base.{pairs_split, pairs_move_in, apart_back, Cross}
use Rattle.meaning.proofs.Members.{In, in_from_has, in_left, in_right, in_cases, in_map, in_unmap, in_flat, in_unflat, all_in, all_from_in, pick, in_without, in_with, in_at, pigeon, same_by_key, flat_append}
use Rattle.meaning.proofs.ReadList.{stands_read}

abbrev pub spans : List Named → List Span
spans qs = map (λ q. q.1) qs

-- the lists S in another order
pub record Stock (h : Header) (log : Log) (S T : List NodeList) : Type 0 where
  pub ids : Pairwise (λ l m. l.id ≢ m.id) T
  pub apart : Pairwise Apart (header_span ∷ (log.fragments ++ list_fragments T))
  pub few : length (log.fragments ++ list_fragments T) ≤ 2048
  pub once : length (named_in h T) ≡ length T
  pub same : length T ≡ length S
  pub from : (l : NodeList) → In l S → In l T
  pub to : (l : NodeList) → In l T → In l S

-- one list is moved forward ----------------------------------------------------------------------------------------------

moved_fragments : (F : NodeList → List Span) (ls as' bs : List NodeList) (l : NodeList)
    → flat (map F (ls ++ (as' ++ (l ∷ bs)))) ≡ flat (map F ls) ++ (flat (map F as') ++ (F l ++ flat (map F bs)))
moved_fragments F ls as' bs l = flat_append F ls (as' ++ (l ∷ bs)) ∙ ap (λ w. flat (map F ls) ++ w) (flat_append F as' (l ∷ bs))

moved_there : (F : NodeList → List Span) (ls as' bs : List NodeList) (l : NodeList)
    → flat (map F (ls ++ (l ∷ (as' ++ bs)))) ≡ flat (map F ls) ++ (F l ++ (flat (map F as') ++ flat (map F bs)))
moved_there F ls as' bs l = flat_append F ls (l ∷ (as' ++ bs)) ∙ ap (λ w. flat (map F ls) ++ (F l ++ w)) (flat_append F as' bs)

moved_apart : (log : Log) (ls as' bs : List NodeList) (l : NodeList)
    → Pairwise Apart (header_span ∷ (log.fragments ++ list_fragments (ls ++ (as' ++ (l ∷ bs)))))
    → Pairwise Apart (header_span ∷ (log.fragments ++ list_fragments (ls ++ (l ∷ (as' ++ bs)))))
moved_apart log ls as' bs l a =
    let fl = list_fragments ls in
    let fa = list_fragments as' in
    let fb = list_fragments bs in
    let a' : Pairwise Apart (header_span ∷ ((log.fragments ++ fl) ++ (fa ++ (l.fragments ++ fb))))
    = subst (λ w. Pairwise Apart (header_span ∷ w)) (ap (λ w. log.fragments ++ w) (moved_fragments (λ l. l.fragments) ls as' bs l) ∙ sym (append_assoc log.fragments fl (fa ++ (l.fragments ++ fb)))) a in
    let c : Pairwise Apart (header_span ∷ ((log.fragments ++ fl) ++ (l.fragments ++ (fa ++ fb))))
    = pairs_move_in Apart (header_span ∷ (log.fragments ++ fl)) fa l.fragments fb apart_back a' in
    subst (λ w. Pairwise Apart (header_span ∷ w)) (append_assoc log.fragments fl (l.fragments ++ (fa ++ fb)) ∙ ap (λ w. log.fragments ++ w) (sym (moved_there (λ l. l.fragments) ls as' bs l))) c

length_moved : {X : Type 0} (xs ys zs ws : List X) → length (xs ++ (ys ++ (zs ++ ws))) ≡ length (xs ++ (zs ++ (ys ++ ws)))
length_moved xs ys zs ws = simp length-append (omega arith)

-- how many a function gives in all
length_all : {X Y : Type 0} (F : X → List Y) (ls as' bs : List X) (l : X)
    → length (flat (map F (ls ++ (as' ++ (l ∷ bs))))) ≡ length (flat (map F (ls ++ (l ∷ (as' ++ bs)))))
length_all F ls as' bs l =
    ap length (flat_append F ls (as' ++ (l ∷ bs)) ∙ ap (λ w. flat (map F ls) ++ w) (flat_append F as' (l ∷ bs)))
    ∙ length_moved (flat (map F ls)) (flat (map F as')) (F l) (flat (map F bs))
    ∙ ap length (sym (flat_append F ls (l ∷ (as' ++ bs)) ∙ ap (λ w. flat (map F ls) ++ (F l ++ w)) (flat_append F as' bs)))

in_moved : {X : Type 0} (ls as' bs : List X) (l x : X) → In x (ls ++ (as' ++ (l ∷ bs))) → In x (ls ++ (l ∷ (as' ++ bs)))
in_moved ls as' bs l x i = in_cases ls (as' ++ (l ∷ bs)) x (In x (ls ++ (l ∷ (as' ++ bs)))) i
    (λ j. in_left ls (l ∷ (as' ++ bs)) x j)
    (λ j. in_right ls (l ∷ (as' ++ bs)) x (in_without as' bs l x j))

in_back : {X : Type 0} (ls as' bs : List X) (l x : X) → In x (ls ++ (l ∷ (as' ++ bs))) → In x (ls ++ (as' ++ (l ∷ bs)))
in_back {X} ls as' bs l x i = in_cases ls (l ∷ (as' ++ bs)) x (In x (ls ++ (as' ++ (l ∷ bs)))) i
    (λ j. in_left ls (as' ++ (l ∷ bs)) x j)
    (λ j. in_right ls (as' ++ (l ∷ bs)) x (elim j [
      | inl e ↦ subst (λ w. In w (as' ++ (l ∷ bs))) e (in_at as' bs l)
      | inr k ↦ in_with as' bs l x k
    ]))

pub stock_moved : (h : Header) (log : Log) (S ls as' bs : List NodeList) (l : NodeList) → Stock h log S (ls ++ (as' ++ (l ∷ bs))) → Stock h log S (ls ++ (l ∷ (as' ++ bs)))
stock_moved h log S ls as' bs l k =
    let T = ls ++ (as' ++ (l ∷ bs)) in
    let U = ls ++ (l ∷ (as' ++ bs)) in
    let long : length T ≡ length U = length_moved ls as' (l ∷ []) bs in
    let more : length (list_fragments T) ≡ length (list_fragments U) = length_all (λ l. l.fragments) ls as' bs l in
    let refs : length (flat (map named_by T)) ≡ length (flat (map named_by U)) = length_all named_by ls as' bs l in
    let f = length-append log.fragments (list_fragments T) in
    let g = length-append log.fragments (list_fragments U) in
    let m = length-append (named_first h) (flat (map named_by T)) in
    let n = length-append (named_first h) (flat (map named_by U)) in
    let few = k.few in
    let once = k.once in
    let same = k.same in
    record {
      ids = pairs_move_in (λ l m. l.id ≢ m.id) ls as' (l ∷ []) bs (λ x y d e. d (sym e)) k.ids;
      apart = moved_apart log ls as' bs l k.apart;
      few = omega arith;
      once = omega arith;
      same = omega arith;
      from = λ x i. in_moved ls as' bs l x (k.from x i);
      to = λ x i. k.to x (in_back ls as' bs l x i);
    }

-- the list read next -------------------------------------------------------------------------------------------------------

owner_with : (b : List ℕ) (h : Header) (log : Log) (l : NodeList) (fs : List Span) → l.fragments ≡ fs → Stands b h log l → owner b (first_of l) ≡ l.id
owner_with b h log l [] e s = elim (subst (λ w. Spread b w l.nodes l.free) e s.part.spread) [ ]
owner_with b h log l (f ∷ fs) e s =
    let m : Numbered b l.id 0 (f ∷ fs) = subst (λ w. Numbered b l.id 0 w) e s.part.marks in
    ap (λ w. owner b (get_or w 0 (span 0 0))) e ∙ m.0.list

-- a list's ID stands in the fragment that names it
pub owner_first : (b : List ℕ) (h : Header) (log : Log) (l : NodeList) → Stands b h log l → owner b (first_of l) ≡ l.id
owner_first b h log l s = owner_with b h log l l.fragments refl s

pub not_taken : (id : ℕ) (ls : List NodeList) → AllByRecursion (λ k. k.id ≢ id) ls → taken id ls ≡ false
not_taken id [] a = refl
not_taken id (k ∷ ls) (p, a) =
    let e : eqb k.id id ≡ false = grind (arith, nat_tests) in
    or_from (eqb k.id id) (taken id ls) e (not_taken id ls a)

cross_one : {X : Type 0} (R : X → X → Type 0) (xs ys : List X) (y : X) → Cross R xs (y ∷ ys) → AllByRecursion (λ x. R x y) xs
cross_one R xs ys y c = All-weaker (λ x. AllByRecursion (R x) (y ∷ ys)) (λ x. R x y) (λ x a. a.0) xs c

pub lists_step : (n : ℕ) (b : List ℕ) (h : Header) (log : Log) (q : Named) (qs : List Named) (ls : List NodeList)
    → lists_from (suc n) b h log (q ∷ qs) ls ≡ then (named_list b h log ls q (owner b q.1)) (λ l. lists_from n b h log (qs ++ named_by l) (ls ++ (l ∷ [])))
unfolding lists_from
lists_step n b h log q qs ls = refl

pub lists_end : (n : ℕ) (b : List ℕ) (h : Header) (log : Log) (ls : List NodeList) → lists_from n b h log [] ls ≡ done ls
unfolding lists_from
lists_end n b h log ls = refl

-- a list that stands behind those read is read
next_read : (b : List ℕ) (h : Header) (log : Log) (ls rest : List NodeList) (q : Named) (l : NodeList)
    → Pairwise (λ l m. l.id ≢ m.id) (ls ++ (l ∷ rest)) → Pairwise Apart (header_span ∷ (log.fragments ++ list_fragments (ls ++ (l ∷ rest))))
    → length (log.fragments ++ list_fragments (ls ++ (l ∷ rest))) ≤ 2048 → Stands b h log l → first_of l ≡ q.1 → named_list b h log ls q (owner b q.1) ≡ done l
next_read b h log ls rest q l ids fs_apart fs_few s e =
    let before = log.fragments ++ list_fragments ls in
    let id : owner b q.1 ≡ l.id = ap (λ f. owner b f) (sym e) ∙ owner_first b h log l s in
    let whole : log.fragments ++ list_fragments (ls ++ (l ∷ rest)) ≡ (before ++ l.fragments) ++ list_fragments rest
    = ap (λ w. log.fragments ++ w) (flat_append (λ l. l.fragments) ls (l ∷ rest)) ∙ sym (append_assoc log.fragments (list_fragments ls) (l.fragments ++ list_fragments rest))
    ∙ sym (append_assoc before l.fragments (list_fragments rest)) in
    let apart : Pairwise Apart (header_span ∷ (before ++ l.fragments))
    = (pairs_split Apart (header_span ∷ (before ++ l.fragments)) (list_fragments rest) (subst (λ w. Pairwise Apart (header_span ∷ w)) whole fs_apart)).0 in
    let new : taken l.id ls ≡ false
    = not_taken l.id ls (cross_one (λ l m. l.id ≢ m.id) ls rest l (pairs_split (λ l m. l.id ≢ m.id) ls (l ∷ rest) ids).2) in
    let few : length ((before ++ l.fragments) ++ list_fragments rest) ≤ 2048 = subst (λ w. length w ≤ 2048) whole fs_few in
    let x = length-append (before ++ l.fragments) (list_fragments rest) in
    let y = length-append before l.fragments in
    ap (λ i. named_list b h log ls q i) id
    ∙ ap (λ f. list_from (2048 - length before) b h.end (count_in log.transactions l.id) ls before l.id q.0 f [] []) (sym e)
    ∙ stands_read (2048 - length before) b h log ls before q.0 l s apart new (omega arith)

-- which is read next ---------------------------------------------------------------------------------------------------------

-- each list of S is named, once
firsts_differ : (b : List ℕ) (h : Header) (log : Log) (T : List NodeList) → AllByRecursion (Stands b h log) T → Pairwise (λ l m. l.id ≢ m.id) T → Pairwise (λ x y. x ≢ y) (map first_of T)
firsts_differ b h log [] s d = tt
firsts_differ b h log (l ∷ T) (s, ss) (p, d) = (
  all_from_in (λ y. first_of l ≢ y) (map first_of T) (λ y i e.
      let (m, j, w) = in_unmap first_of T y i in
      let q : l.id ≡ m.id = sym (owner_first b h log l s) ∙ ap (λ f. owner b f) (e ∙ sym w) ∙ owner_first b h log m (all_in (λ m. Stands b h log m) T m ss j) in
      all_in (λ m. l.id ≢ m.id) T m p j q),
  firsts_differ b h log T ss d,
)

-- a reached list is named
reached_named : (h : Header) (S T : List NodeList) (r : Span) → ((l : NodeList) → In l S → In l T) → Reached h S r → In r (spans (named_in h T))
reached_named h S T r k (by_header x) =
    let (q, i, e) = in_unmap (λ (q : Named). q.1) (named_first h) r (in_from_has (spans (named_first h)) r x) in
    subst (λ w. In w (spans (named_in h T))) e (in_map (λ (q : Named). q.1) (named_in h T) q (in_left (named_first h) (flat (map named_by T)) q i))
reached_named h S T r k (by_node {l = l} x y z) =
    let (q, i, e) = in_unmap (λ (q : Named). q.1) (named_by l) r (in_from_has (spans (named_by l)) r z) in
    subst (λ w. In w (spans (named_in h T))) e (in_map (λ (q : Named). q.1) (named_in h T) q
    (in_right (named_first h) (flat (map named_by T)) q (in_flat named_by T l q (k l (in_from_has S l x)) i)))

named_more : (h : Header) (ls T : List NodeList) (q : Named) → ((l : NodeList) → In l ls → In l T) → In q (named_in h ls) → In q (named_in h T)
named_more h ls T q k i = in_cases (named_first h) (flat (map named_by ls)) q (In q (named_in h T)) i
    (λ j. in_left (named_first h) (flat (map named_by T)) q j)
    (λ j. let (l, x, y) = in_unflat named_by ls q j in in_right (named_first h) (flat (map named_by T)) q (in_flat named_by T l q (k l x) y))

named_append : (h : Header) (ls rest : List NodeList) → spans (named_in h (ls ++ rest)) ≡ spans (named_in h ls) ++ spans (flat (map named_by rest))
named_append h ls rest =
    ap spans (ap (λ w. named_first h ++ w) (flat_append named_by ls rest) ∙ sym (append_assoc (named_first h) (flat (map named_by ls)) (flat (map named_by rest))))
    ∙ map-append (λ (q : Named). q.1) (named_in h ls) (flat (map named_by rest))

-- the lists that are right, as a whole
pub record Right (b : List ℕ) (h : Header) (log : Log) (S : List NodeList) : Type 0 where
  pub stands : AllByRecursion (Stands b h log) S
  pub reached : AllByRecursion (λ l. Reached h S (first_of l)) S
  pub named : AllByRecursion (λ q. ContainsAt (map first_of S) q.1) (named_in h S)

-- ls are read, and the queue is what they name beside themselves
abbrev pub Order : Header → List NodeList → List Named → Type 0
Order h ls qs = spans (named_in h ls) ≡ map first_of ls ++ spans qs

-- no list is named twice
not_twice : (b : List ℕ) (h : Header) (log : Log) (S ls rest : List NodeList) (q : Named) (qs : List Named) (l : NodeList) → Right b h log S → Stock h log S (ls ++ rest)
    → Order h ls (q ∷ qs) → first_of l ≡ q.1 → In l ls → ⊥
not_twice b h log S ls rest q qs l g k o e i =
    let T = ls ++ rest in
    let E = spans (flat (map named_by rest)) in
    let firsts = map first_of ls in
    let all : spans (named_in h T) ≡ (firsts ++ (q.1 ∷ spans qs)) ++ E = named_append h ls rest ∙ ap (λ w. w ++ E) o in
    let stand : AllByRecursion (Stands b h log) T = all_from_in (λ m. Stands b h log m) T (λ m j. all_in (λ m. Stands b h log m) S m g.stands (k.to m j)) in
    let hole : length (map first_of T) ≤ length ((firsts ++ spans qs) ++ E)
    = pigeon (map first_of T) ((firsts ++ spans qs) ++ E) (firsts_differ b h log T stand k.ids) (λ y j.
    let (m, j', w) = in_unmap first_of T y j in
    let c : In (first_of m) (spans (named_in h T)) = reached_named h S T (first_of m) k.from (all_in (λ l. Reached h S (first_of l)) S m g.reached (k.to m j')) in
    let c' : In y ((firsts ++ (q.1 ∷ spans qs)) ++ E) = subst (λ w. In w ((firsts ++ (q.1 ∷ spans qs)) ++ E)) w (subst (λ w. In (first_of m) w) all c) in
    in_cases (firsts ++ (q.1 ∷ spans qs)) E y (In y ((firsts ++ spans qs) ++ E)) c'
    (λ u. in_left (firsts ++ spans qs) E y (elim (in_without firsts (spans qs) q.1 y u) [
      | inl z ↦ in_left firsts (spans qs) y (subst (λ w. In w firsts) (e ∙ z) (in_map first_of ls l i))
      | inr z ↦ z
    ]))
    (λ u. in_right (firsts ++ spans qs) E y u)) in
    let once : length (named_in h T) ≡ length T = k.once in
    let u : length (spans (named_in h T)) ≡ length (named_in h T) = length-map (named_in h T) (λ (q : Named). q.1) in
    let v : length (map first_of T) ≡ length T = length-map T first_of in
    let x : length (spans (named_in h T)) ≡ length ((firsts ++ (q.1 ∷ spans qs)) ++ E) = ap length all in
    let y : length ((firsts ++ (q.1 ∷ spans qs)) ++ E) ≡ length firsts + suc (length (spans qs)) + length E = simp length-append (omega arith) in
    let z : length ((firsts ++ spans qs) ++ E) ≡ length firsts + length (spans qs) + length E = simp length-append (omega arith) in
    omega arith

-- so the next reference names a list that is not read
pub next_list : (b : List ℕ) (h : Header) (log : Log) (S ls rest : List NodeList) (q : Named) (qs : List Named) → Right b h log S → Stock h log S (ls ++ rest)
    → Order h ls (q ∷ qs) → (l : NodeList) × In l rest × (first_of l ≡ q.1)
next_list b h log S ls rest q qs g k o =
    let i : In q.1 (spans (named_in h ls)) = subst (λ w. In q.1 w) (sym o) (in_right (map first_of ls) (q.1 ∷ spans qs) q.1 (inl refl)) in
    let (p, j, e) = in_unmap (λ (q : Named). q.1) (named_in h ls) q.1 i in
    let j' : In p (named_in h S) = named_more h ls S p (λ l x. k.to l (in_left ls rest l x)) j in
    let (l, x, y) = in_unmap first_of S p.1 (in_from_has (map first_of S) p.1 (all_in (λ q. ContainsAt (map first_of S) q.1) (named_in h S) p g.named j')) in
    let w : first_of l ≡ q.1 = y ∙ e in
    in_cases ls rest l ((l : NodeList) × In l rest × (first_of l ≡ q.1)) (k.from l x)
    (λ z. absurd (not_twice b h log S ls rest q qs l g k o w z))
    (λ z. (l, z, w))

-- the queue ----------------------------------------------------------------------------------------------------------------

pub order_more : (h : Header) (ls : List NodeList) (q : Named) (qs : List Named) (l : NodeList) → Order h ls (q ∷ qs) → first_of l ≡ q.1 → Order h (ls ++ (l ∷ [])) (qs ++ named_by l)
order_more h ls q qs l o e =
    named_append h ls (l ∷ [])
    ∙ ap (λ w. spans (named_in h ls) ++ spans w) (append-nil (named_by l))
    ∙ ap (λ w. w ++ spans (named_by l)) o
    ∙ ap (λ w. (map first_of ls ++ (w ∷ spans qs)) ++ spans (named_by l)) (sym e)
    ∙ append_assoc (map first_of ls) (first_of l ∷ spans qs) (spans (named_by l))
    ∙ sym (append_assoc (map first_of ls) (first_of l ∷ []) (spans qs ++ spans (named_by l)))
    ∙ ap (λ w. w ++ (spans qs ++ spans (named_by l))) (sym (map-append first_of ls (l ∷ [])))
    ∙ ap (λ w. map first_of (ls ++ (l ∷ [])) ++ w) (sym (map-append (λ (q : Named). q.1) qs (named_by l)))

-- where nothing is left in the queue, each reached list is read
module _ (b : List ℕ) (h : Header) (log : Log) (S ls rest : List NodeList) (stands : AllByRecursion (Stands b h log) S) (ids : Pairwise (λ l m. l.id ≢ m.id) (ls ++ rest))
    (from : (l : NodeList) → In l S → In l (ls ++ rest)) (to : (l : NodeList) → In l (ls ++ rest) → In l S) (o : Order h ls []) where
  id_of : (l : NodeList) → In l S → owner b (first_of l) ≡ l.id
  id_of l i = owner_first b h log l (all_in (λ m. Stands b h log m) S l stands i)

  reached_read : (r : Span) → Reached h S r → In r (map first_of ls)
  reached_read r (by_header x) =
      let (q, i, e) = in_unmap (λ (q : Named). q.1) (named_first h) r (in_from_has (spans (named_first h)) r x) in
      let j : In r (spans (named_in h ls)) = subst (λ w. In w (spans (named_in h ls))) e (in_map (λ (q : Named). q.1) (named_in h ls) q (in_left (named_first h) (flat (map named_by ls)) q i)) in
      subst (λ w. In r w) (o ∙ append-nil (map first_of ls)) j
  reached_read r (by_node {l = l} x y z) =
      let (m, i, e) = in_unmap first_of ls (first_of l) (reached_read (first_of l) y) in
      let inl' : In l S = in_from_has S l x in
      let inm : In m S = to m (in_left ls rest m i) in
      let id : m.id ≡ l.id = sym (id_of m inm) ∙ ap (λ f. owner b f) e ∙ id_of l inl' in
      let same : m ≡ l = same_by_key (λ (l : NodeList). l.id) (ls ++ rest) m l ids (in_left ls rest m i) (from l inl') id in
      let i' : In l ls = subst (λ w. In w ls) same i in
      let (q, j, w) = in_unmap (λ (q : Named). q.1) (named_by l) r (in_from_has (spans (named_by l)) r z) in
      let j' : In r (spans (named_in h ls)) = subst (λ w. In w (spans (named_in h ls))) w (in_map (λ (q : Named). q.1) (named_in h ls) q
      (in_right (named_first h) (flat (map named_by ls)) q (in_flat named_by ls l q i' j))) in
      subst (λ w. In r w) (o ∙ append-nil (map first_of ls)) j'

-- so no list is left
all_read : (b : List ℕ) (h : Header) (log : Log) (S ls rest : List NodeList) → AllByRecursion (Stands b h log) S → AllByRecursion (λ l. Reached h S (first_of l)) S
    → Pairwise (λ l m. l.id ≢ m.id) (ls ++ rest) → ((l : NodeList) → In l S → In l (ls ++ rest)) → ((l : NodeList) → In l (ls ++ rest) → In l S) → Order h ls [] → rest ≡ []
all_read b h log S ls [] stands reached ids from to o = refl
all_read b h log S ls (l ∷ rest) stands reached ids from to o =
    let i : In l S = to l (in_right ls (l ∷ rest) l (inl refl)) in
    let (m, j, e) = in_unmap first_of ls (first_of l) (reached_read b h log S ls (l ∷ rest) stands ids from to o (first_of l) (all_in (λ l. Reached h S (first_of l)) S l reached i)) in
    let inm : In m S = to m (in_left ls (l ∷ rest) m j) in
    let id : m.id ≡ l.id = sym (owner_first b h log m (all_in (λ m. Stands b h log m) S m stands inm)) ∙ ap (λ f. owner b f) e
    ∙ owner_first b h log l (all_in (λ m. Stands b h log m) S l stands i) in
    let d : m.id ≢ l.id = all_in (λ m. m.id ≢ l.id) ls m (cross_one (λ l m. l.id ≢ m.id) ls rest l (pairs_split (λ l m. l.id ≢ m.id) ls (l ∷ rest) ids).2) j in
    absurd (d id)

-- what reading the lists gives
abbrev pub ListsRead : ℕ → List ℕ → Header → Log → List NodeList → List Named → List NodeList → Type 0
ListsRead n b h log S qs ls = (T : List NodeList) × (lists_from n b h log qs ls ≡ done T) × Stock h log S T × InOrder h T

lists_over : (n : ℕ) (b : List ℕ) (h : Header) (log : Log) (S ls rest : List NodeList) → Right b h log S → Stock h log S (ls ++ rest) → Order h ls [] → ListsRead n b h log S [] ls
lists_over n b h log S ls rest g k o =
    let e = all_read b h log S ls rest g.stands g.reached k.ids k.from k.to o in
    let w : ls ++ rest ≡ ls = ap (λ w. ls ++ w) e ∙ append-nil ls in
    (ls, lists_end n b h log ls, subst (λ w. Stock h log S w) w k, sym (o ∙ append-nil (map first_of ls)))

lists_next : (n : ℕ) (b : List ℕ) (h : Header) (log : Log) (S ls : List NodeList) (q : Named) (qs : List Named) (l : NodeList)
    → named_list b h log ls q (owner b q.1) ≡ done l → ListsRead n b h log S (qs ++ named_by l) (ls ++ (l ∷ [])) → ListsRead (suc n) b h log S (q ∷ qs) ls
lists_next n b h log S ls q qs l e (T, r, k, o) =
    (T, lists_step n b h log q qs ls ∙ ap (λ a. then a (λ l. lists_from n b h log (qs ++ named_by l) (ls ++ (l ∷ [])))) e ∙ r, k, o)

-- the lists still to be read, from any point on
pub lists_read : (n : ℕ) (b : List ℕ) (h : Header) (log : Log) (S ls rest : List NodeList) (qs : List Named) → Right b h log S → Stock h log S (ls ++ rest) → Order h ls qs
    → length rest ≤ n → ListsRead n b h log S qs ls
lists_read n b h log S ls rest [] g k o l = lists_over n b h log S ls rest g k o
lists_read zero b h log S ls [] (q ∷ qs) g k o n≤ = absurd (let (l, i, e) = next_list b h log S ls [] q qs g k o in i)
lists_read zero b h log S ls (r ∷ rest) (q ∷ qs) g k o n≤ = absurd (omega arith)
lists_read (suc n) b h log S ls rest (q ∷ qs) g k o n≤ =
    let (l, i, e) = next_list b h log S ls rest q qs g k o in
    let (as', bs, w) = pick rest l i in
    let k' : Stock h log S (ls ++ (l ∷ (as' ++ bs))) = stock_moved h log S ls as' bs l (subst (λ w. Stock h log S (ls ++ w)) w k) in
    let s : Stands b h log l = all_in (λ m. Stands b h log m) S l g.stands (k'.to l (in_right ls (l ∷ (as' ++ bs)) l (inl refl))) in
    let k'' : Stock h log S ((ls ++ (l ∷ [])) ++ (as' ++ bs)) = subst (λ w. Stock h log S w) (sym (append_assoc ls (l ∷ []) (as' ++ bs))) k' in
    let x : length rest ≡ length (as' ++ (l ∷ bs)) = ap length w in
    let y = length-append as' (l ∷ bs) in
    let z = length-append as' bs in
    lists_next n b h log S ls q qs l (next_read b h log ls (as' ++ bs) q l k'.ids k'.apart k'.few s e)
    (lists_read n b h log S (ls ++ (l ∷ [])) (as' ++ bs) (qs ++ named_by l) g k'' (order_more h ls q qs l o e) (omega arith))

-- lists that already stand in that order -----------------------------------------------------------------------------------

-- the queue is what is named behind the lists read
named_push : (h : Header) (ls : List NodeList) (l : NodeList) → named_in h (ls ++ (l ∷ [])) ≡ named_in h ls ++ named_by l
named_push h ls l =
    ap (λ w. named_first h ++ w) (flat_append named_by ls (l ∷ []) ∙ ap (λ w. flat (map named_by ls) ++ w) (append-nil (named_by l)))
    ∙ sym (append_assoc (named_first h) (flat (map named_by ls)) (named_by l))

behind_more : {X : Type 0} (n : ℕ) (xs ys : List X) (q : X) (qs : List X) → q ∷ qs ≡ drop n xs → qs ++ ys ≡ drop (n + 1) (xs ++ ys)
behind_more n xs ys q qs e =
    let x : suc (length qs) ≡ length (drop n xs) = ap length e in
    let y = length-drop n xs in
    ap (λ w. w ++ ys) (ap (drop 1) e ∙ drop-drop 1 n xs) ∙ sym (drop-append-le (n + 1) xs ys (omega arith))

pub fields_more : (h : Header) (ls : List NodeList) (q : Named) (qs : List Named) (l : NodeList) → q ∷ qs ≡ drop (length ls) (named_in h ls)
    → qs ++ named_by l ≡ drop (length (ls ++ (l ∷ []))) (named_in h (ls ++ (l ∷ [])))
fields_more h ls q qs l e =
    let n : length (ls ++ (l ∷ [])) ≡ length ls + 1 = length_push ls l in
    behind_more (length ls) (named_in h ls) (named_by l) q qs e ∙ sym (ap (λ z. drop z (named_in h (ls ++ (l ∷ [])))) n ∙ ap (drop (length ls + 1)) (named_push h ls l))

-- what the queue names first is the list that stands next
next_named : (h : Header) (ls rest : List NodeList) (l : NodeList) (q : Named) (qs queue : List Named) → Order h ls (q ∷ qs) → Order h (ls ++ (l ∷ rest)) queue → first_of l ≡ q.1
next_named h ls rest l q qs queue o i =
    let E = spans (flat (map named_by (l ∷ rest))) in
    let w : first_of l ∷ (map first_of rest ++ spans queue) ≡ q.1 ∷ (spans qs ++ E)
    = append_cancel_left (map first_of ls) (map first_of (l ∷ rest) ++ spans queue) (q.1 ∷ (spans qs ++ E))
    (sym (append_assoc (map first_of ls) (map first_of (l ∷ rest)) (spans queue)) ∙ ap (λ w. w ++ spans queue) (sym (map-append first_of ls (l ∷ rest)))
    ∙ sym i ∙ named_append h ls (l ∷ rest) ∙ ap (λ w. w ++ E) o ∙ append_assoc (map first_of ls) (q.1 ∷ spans qs) E) in
    cc

module _ (b : List ℕ) (h : Header) (log : Log) (T : List NodeList) (queue : List Named) (w : Walked b h log T queue) where
  walked_on : (n m : ℕ) (ls rest : List NodeList) (qs : List Named) → ls ++ rest ≡ T → Order h ls qs → qs ≡ drop (length ls) (named_in h ls) → n ≡ length rest + m
      → lists_from n b h log qs ls ≡ lists_from m b h log queue T
  walked_on n m ls [] qs e o f l =
      let t : ls ≡ T = sym (append-nil ls) ∙ e in
      let q : qs ≡ queue = f ∙ ap (λ z. drop (length z) (named_in h z)) t ∙ sym w.fields in
      let k : n ≡ m = omega arith in
      ap (λ z. lists_from z b h log qs ls) k ∙ ap (λ z. lists_from m b h log z ls) q ∙ ap (λ z. lists_from m b h log queue z) t
  walked_on zero m ls (r ∷ rest) qs e o f l = absurd (omega arith)
  walked_on (suc n) m ls (r ∷ rest) [] e o f l =
      let none = all_read b h log T ls (r ∷ rest) w.lists w.reached (subst (λ z. Pairwise (λ l m. l.id ≢ m.id) z) (sym e) w.ids_differ)
      (λ l i. subst (λ z. In l z) (sym e) i) (λ l i. subst (λ z. In l z) e i) o in
      absurd (let z : suc (length rest) ≡ 0 = ap length none in omega arith)
  walked_on (suc n) m ls (r ∷ rest) (q ∷ qs) e o f l =
      let first = next_named h ls rest r q qs queue o (subst (λ z. Order h z queue) (sym e) w.order) in
      let stands = all_in (λ m. Stands b h log m) T r w.lists (subst (λ z. In r z) e (in_at ls rest r)) in
      lists_step n b h log q qs ls
      ∙ ap (λ x. then x (λ l. lists_from n b h log (qs ++ named_by l) (ls ++ (l ∷ []))))
      (next_read b h log ls rest q r (subst (λ z. Pairwise (λ l m. l.id ≢ m.id) z) (sym e) w.ids_differ)
      (subst (λ z. Pairwise Apart (header_span ∷ (log.fragments ++ list_fragments z))) (sym e) w.apart) (subst (λ z. length (log.fragments ++ list_fragments z) ≤ 2048) (sym e) w.few) stands first)
      ∙ walked_on n m (ls ++ (r ∷ [])) rest (qs ++ named_by r) (append_assoc ls (r ∷ []) rest ∙ e) (order_more h ls q qs r o first) (fields_more h ls q qs r f) (omega arith)

  -- the lists T are read, and then the queue
  pub walked_read : lists_from 1024 b h log (named_first h) [] ≡ lists_from (1024 - length T) b h log queue T
  walked_read =
      let few = w.few_lists in
      walked_on 1024 (1024 - length T) [] T (named_first h) refl (ap spans (append-nil (named_first h))) (sym (append-nil (named_first h))) (omega arith)
