-- Which lists there are, after one node more: a node that names no list, or one that names a new list.
use Rattle.std.proofs.Common.{◌≡◌, ◌+◌, ◌⊎◌, List, [], ◌∷◌, ◌++◌, map, length, sym, refl, ap, ◌∙◌, subst, inl, inr, arith}
use Rattle.std.specs.List.{ContainsAt, AllByRecursion}
use Rattle.std.proofs.lemmas.List.{append-nil, length-append, length-map, map-append}
use Rattle.std.proofs.ByRecursion.{All-append, All-weaker, has_append_left, has_append_right}
use Rattle.model.specs.declared.types.Span.{Span}
use Rattle.model.specs.declared.types.Header.{Header}
use Rattle.model.specs.Section.{NodeList, flat, first_of}
use Rattle.model.specs.OpenedLists.{Named, named_by, named_first}
use Rattle.model.specs.Means.{named_in, Reached, by_header, by_node}
use Rattle.meaning.proofs.Base.{all_front}
use Rattle.meaning.proofs.Members.{in_from_has, has_from_in, in_without, in_with, flat_append, all_flat, flat_all}
use Rattle.commits.specs.Body.{Tied}
use Rattle.commits.proofs.Rows.{flat_instead}

-- elements of a list -------------------------------------------------------------------------------------------------

has_here : {A : Type 0} (x : A) (xs : List A) → ContainsAt (x ∷ xs) x
has_here x xs = (0, omega arith, λ d. refl)

-- an element of a list is the one in the middle, or is in it with another there
has_instead : {A : Type 0} (xs : List A) (y z : A) (ys : List A) (m : A) → ContainsAt (xs ++ (y ∷ ys)) m → (y ≡ m) ⊎ ContainsAt (xs ++ (z ∷ ys)) m
has_instead xs y z ys m h = elim (in_without xs ys y m (in_from_has (xs ++ (y ∷ ys)) m h)) [
  | inl e ↦ inl e
  | inr i ↦ inr (has_from_in (xs ++ (z ∷ ys)) m (in_with xs ys z m i))
]

pub map_instead : {A B : Type 0} (f : A → B) (xs : List A) (y z : A) (ys : List A) → f z ≡ f y → map f (xs ++ (z ∷ ys)) ≡ map f (xs ++ (y ∷ ys))
map_instead f [] y z ys e = ap (λ w. w ∷ map f ys) e
map_instead f (x ∷ xs) y z ys e = ap (λ w. f x ∷ w) (map_instead f xs y z ys e)

-- reached --------------------------------------------------------------------------------------------------------------

abbrev pub names : NodeList → List Span
names l = map (λ q. q.1) (named_by l)

-- each list has a list in its place that names all that it named
abbrev Carries : List NodeList → List NodeList → Type 0
Carries ls ms = (l : NodeList) → ContainsAt ls l → (m : NodeList) × ContainsAt ms m × (first_of m ≡ first_of l) × ((r : Span) → ContainsAt (names l) r → ContainsAt (names m) r)

reached_more : (h h' : Header) (ls ms : List NodeList) → named_first h ≡ named_first h' → Carries ls ms → (r : Span) → Reached h ls r → Reached h' ms r
reached_more h h' ls ms e c r (by_header x) = by_header (subst (λ z. ContainsAt (map (λ q. q.1) z) r) e x)
reached_more h h' ls ms e c r (by_node {l = l} x y z) =
    let (m, i, u, k) = c l x in
    by_node i (subst (λ w. Reached h' ms w) (sym u) (reached_more h h' ls ms e c (first_of l) y)) (k r z)

carries_same : (ls : List NodeList) → Carries ls ls
carries_same ls l h = (l, h, refl, λ r x. x)

carries_push : (pre : List NodeList) (l l' : NodeList) (post rest : List NodeList) → first_of l' ≡ first_of l → ((r : Span) → ContainsAt (names l) r → ContainsAt (names l') r)
    → Carries (pre ++ (l ∷ post)) ((pre ++ (l' ∷ post)) ++ rest)
carries_push pre l l' post rest e k m h = elim (has_instead pre l l' post m h) [
  | inl q ↦ (l', has_append_left (pre ++ (l' ∷ post)) rest l' (has_append_right pre (l' ∷ post) l' (has_here l' post)), e ∙ ap first_of q, λ r x. k r (subst (λ (w : NodeList). ContainsAt (names w) r) (sym q) x))
  | inr i ↦ (m, has_append_left (pre ++ (l' ∷ post)) rest m i, refl, λ r x. x)
]

-- under a header with the same root and hashed chunk list
pub tied_header : (h h' : Header) (ls : List NodeList) → named_first h ≡ named_first h' → Tied h ls → Tied h' ls
tied_header h h' ls e t = record {
  reached = All-weaker (λ l. Reached h ls (first_of l)) (λ l. Reached h' ls (first_of l)) (λ l x. reached_more h h' ls ls e (carries_same ls) (first_of l) x) ls t.reached;
  named = subst (λ z. AllByRecursion (λ q. ContainsAt (map first_of ls) q.1) (z ++ flat (map named_by ls))) e t.named;
  once = subst (λ z. length (z ++ flat (map named_by ls)) ≡ length ls) e t.once;
}

all_instead : {A : Type 0} (P : A → Type 0) (xs : List A) (y z : A) (ys : List A) → (P y → P z) → AllByRecursion P (xs ++ (y ∷ ys)) → AllByRecursion P (xs ++ (z ∷ ys))
all_instead P [] y z ys f (p, a) = (f p, a)
all_instead P (x ∷ xs) y z ys f (p, a) = (p, all_instead P xs y z ys f a)

-- with a node that names no list
pub tied_push : (h : Header) (pre : List NodeList) (l l' : NodeList) (post : List NodeList) → first_of l' ≡ first_of l → named_by l' ≡ named_by l
    → Tied h (pre ++ (l ∷ post)) → Tied h (pre ++ (l' ∷ post))
tied_push h pre l l' post e f t =
    let ls : List NodeList = pre ++ (l ∷ post) in
    let ms : List NodeList = pre ++ (l' ∷ post) in
    let c : Carries ls ms = subst (λ z. Carries ls z) (append-nil ms) (carries_push pre l l' post [] e (λ r x. subst (λ z. ContainsAt (map (λ q. q.1) z) r) (sym f) x)) in
    let q : map first_of ms ≡ map first_of ls = map_instead first_of pre l l' post e in
    let u : named_in h ms ≡ named_in h ls = ap (λ z. named_first h ++ z) (flat_instead named_by pre l l' post f) in
    record {
      reached = all_instead (λ m. Reached h ms (first_of m)) pre l l' post (λ x. subst (λ w. Reached h ms w) (sym e) x)
          (All-weaker (λ m. Reached h ls (first_of m)) (λ m. Reached h ms (first_of m)) (λ m x. reached_more h h ls ms refl c (first_of m) x) ls t.reached);
      named = subst (λ z. AllByRecursion (λ p. ContainsAt z p.1) (named_in h ms)) (sym q) (subst (λ z. AllByRecursion (λ p. ContainsAt (map first_of ls) p.1) z) (sym u) t.named);
      once = ap length u ∙ t.once ∙ sym (length-map ls first_of) ∙ sym (ap length q) ∙ length-map ms first_of;
    }

-- with a node that names a new list
pub tied_branch : (h : Header) (pre : List NodeList) (l l' : NodeList) (post : List NodeList) (m : NodeList) (q : Named) → first_of l' ≡ first_of l → named_by l' ≡ named_by l ++ (q ∷ [])
    → q.1 ≡ first_of m → named_by m ≡ [] → Tied h (pre ++ (l ∷ post)) → Tied h ((pre ++ (l' ∷ post)) ++ (m ∷ []))
tied_branch h pre l l' post m q e f g z t =
    let ls : List NodeList = pre ++ (l ∷ post) in
    let ks : List NodeList = pre ++ (l' ∷ post) in
    let ms : List NodeList = ks ++ (m ∷ []) in
    let old : (r : Span) → ContainsAt (names l) r → ContainsAt (names l') r = λ r x. subst (λ (w : List Named). ContainsAt (map (λ p. p.1) w) r) (sym f) (subst (λ w. ContainsAt w r) (sym (map-append (λ (p : Named). p.1) (named_by l) (q ∷ []))) (has_append_left (names l) (q.1 ∷ []) r x)) in
    let new : ContainsAt (names l') (first_of m) = subst (λ (w : List Named). ContainsAt (map (λ p. p.1) w) (first_of m)) (sym f)
    (subst (λ w. ContainsAt w (first_of m)) (sym (map-append (λ (p : Named). p.1) (named_by l) (q ∷ []))) (has_append_right (names l) (q.1 ∷ []) (first_of m) (subst (λ w. ContainsAt (q.1 ∷ []) w) g (has_here q.1 [])))) in
    let c : Carries ls ms = carries_push pre l l' post (m ∷ []) e old in
    let rs : AllByRecursion (λ k. Reached h ms (first_of k)) ks = all_instead (λ k. Reached h ms (first_of k)) pre l l' post (λ x. subst (λ w. Reached h ms w) (sym e) x)
    (All-weaker (λ k. Reached h ls (first_of k)) (λ k. Reached h ms (first_of k)) (λ k x. reached_more h h ls ms refl c (first_of k) x) ls t.reached) in
    let rl : Reached h ms (first_of l') = (all_front (λ k. Reached h ms (first_of k)) pre (l' ∷ post) rs).1.0 in
    let has : ContainsAt ms l' = has_append_left ks (m ∷ []) l' (has_append_right pre (l' ∷ post) l' (has_here l' post)) in
    let fs : map first_of ms ≡ map first_of ls ++ (first_of m ∷ []) = map-append first_of ks (m ∷ []) ∙ ap (λ w. w ++ (first_of m ∷ [])) (map_instead first_of pre l l' post e) in
    let Q : Named → Type 0 = λ p. ContainsAt (map first_of ms) p.1 in
    let up : (p : Named) → ContainsAt (map first_of ls) p.1 → Q p = λ p x. subst (λ w. ContainsAt w p.1) (sym fs) (has_append_left (map first_of ls) (first_of m ∷ []) p.1 x) in
    let (n0, n1) = all_front (λ p. ContainsAt (map first_of ls) p.1) (named_first h) (flat (map named_by ls)) t.named in
    let n2 : AllByRecursion (λ k. AllByRecursion Q (named_by k)) ls = all_flat Q named_by ls (All-weaker (λ p. ContainsAt (map first_of ls) p.1) Q up (flat (map named_by ls)) n1) in
    let last : Q q = subst (λ w. ContainsAt w q.1) (sym fs) (has_append_right (map first_of ls) (first_of m ∷ []) q.1 (subst (λ w. ContainsAt (w ∷ []) q.1) g (has_here q.1 []))) in
    let n3 : AllByRecursion (λ k. AllByRecursion Q (named_by k)) ks = all_instead (λ k. AllByRecursion Q (named_by k)) pre l l' post (λ x. subst (λ w. AllByRecursion Q w) (sym f) (All-append Q (named_by l) (q ∷ []) x (last, tt))) n2 in
    let n4 : AllByRecursion (λ k. AllByRecursion Q (named_by k)) ms = All-append (λ k. AllByRecursion Q (named_by k)) ks (m ∷ []) n3 (subst (λ w. AllByRecursion Q w) (sym z) tt, tt) in
    let A = flat (map named_by pre) in
    let B = flat (map named_by post) in
    let c1 : length (named_in h ls) ≡ length (named_first h) + (length A + (length (named_by l) + length B))
    = length-append (named_first h) (flat (map named_by ls)) ∙ ap (λ w. length (named_first h) + w) (ap length (flat_append named_by pre (l ∷ post)) ∙ length-append A (named_by l ++ B) ∙ ap (λ w. length A + w) (length-append (named_by l) B)) in
    let c2 : length (flat (map named_by ks)) ≡ length A + (length (named_by l') + length B)
    = ap length (flat_append named_by pre (l' ∷ post)) ∙ length-append A (named_by l' ++ B) ∙ ap (λ w. length A + w) (length-append (named_by l') B) in
    let c3 : length (flat (map named_by ms)) ≡ length (flat (map named_by ks)) = ap length (flat_append named_by ks (m ∷ []) ∙ ap (λ (w : List Named). flat (map named_by ks) ++ (w ++ [])) z ∙ append-nil (flat (map named_by ks))) in
    let c4 : length (named_by l') ≡ length (named_by l) + 1 = ap length f ∙ length-append (named_by l) (q ∷ []) in
    let c5 : length (named_in h ms) ≡ length (named_first h) + length (flat (map named_by ms)) = length-append (named_first h) (flat (map named_by ms)) in
    let c6 : length ms ≡ length ks + 1 = length-append ks (m ∷ []) in
    let c7 : length ks ≡ length ls = sym (length-map ks first_of) ∙ ap length (map_instead first_of pre l l' post e) ∙ length-map ls first_of in
    record {
      reached = All-append (λ k. Reached h ms (first_of k)) ks (m ∷ []) rs (by_node has rl new, tt);
      named = All-append Q (named_first h) (flat (map named_by ms)) (All-weaker (λ p. ContainsAt (map first_of ls) p.1) Q up (named_first h) n0) (flat_all Q named_by ms n4);
      once = omega (arith, t.once);
    }
