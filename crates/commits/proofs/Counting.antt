-- The counts of a draft: which lists are touched, and what a commit's entries say of them.
use Rattle.std.proofs.Common.{◌≡◌, ℕ, ◌+◌, ◌<◌, ◌≤◌, true, false, cond, ◌||◌, eqb, ◌≢◌, ◌⊎◌, List, [], ◌∷◌, ◌++◌, map, length, sym, refl, ap, ◌∙◌, subst, inl, inr, arith}
use Rattle.std.specs.List.{AllByRecursion}
use Rattle.std.proofs.lemmas.List.{append-nil, map-append}
use Rattle.std.proofs.lemmas.Bool.{cases_Bool, ne_eqb}
use Rattle.std.proofs.lemmas.Bool.Decides.{nat_tests}
use Rattle.std.proofs.ByRecursion.{All-append, All-weaker}
use Rattle.model.specs.declared.types.Entry.{Entry}
use Rattle.model.specs.LogFragments.{entry}
use Rattle.model.specs.References.{span}
use Rattle.model.specs.Section.{NodeList, Section, flat, latest, count_in, list_fragments}
use Rattle.model.specs.Means.{Pairwise, CountsLists, Rising}
use Rattle.model.specs.Layouts.{member, touch, blank}
use Rattle.meaning.proofs.Base.{all_front, pairs_split}
use Rattle.meaning.proofs.Members.{flat_push}
use Rattle.commits.specs.Extends.{Extends}
use Rattle.commits.proofs.Ties.{map_instead}
use Rattle.commits.proofs.Extended.{extends_then, extends_instead, extends_list}
use Rattle.commits.proofs.Rows.{all_both, pair_between}

-- touched IDs --------------------------------------------------------------------------------------------------------

member_push : (x id : ℕ) (ids : List ℕ) → member x (ids ++ (id ∷ [])) ≡ member x ids || eqb id x
member_push x id [] = elim (cases_Bool (eqb id x)) [
  | inl e ↦ rw e
  | inr e ↦ rw e
]
member_push x id (y ∷ ids) = elim (cases_Bool (eqb y x)) [
  | inl e ↦ rw e
  | inr e ↦ rw e (member_push x id ids)
]

pub touch_same : (id : ℕ) (ids : List ℕ) → member id (touch id ids) ≡ true
touch_same id ids = elim (cases_Bool (member id ids)) [
  | inl e ↦ rw (e, e)
  | inr e ↦ let q : eqb id id ≡ true = grind (arith, nat_tests) in rw e (member_push id id ids ∙ rw (e, q))
]

pub touch_other : (x id : ℕ) (ids : List ℕ) → x ≢ id → member x (touch id ids) ≡ member x ids
touch_other x id ids n = elim (cases_Bool (member id ids)) [
  | inl e ↦ rw e
  | inr e ↦
      let q = ne_eqb id x (λ z. n (sym z)) in
      rw e (member_push x id ids ∙ rw q (elim (cases_Bool (member x ids)) [
        | inl y ↦ rw y
        | inr y ↦ rw y
      ]))
]

pub touch_again : (id : ℕ) (ids : List ℕ) → member id ids ≡ true → touch id ids ≡ ids
touch_again id ids e = rw e

not_member : (id : ℕ) (ids : List ℕ) → member id ids ≡ false → AllByRecursion (λ x. x ≢ id) ids
not_member id [] e = tt
not_member id (x ∷ ids) e = elim (cases_Bool (eqb x id)) [
  | inl y ↦ absurd (grind (arith, nat_tests))
  | inr y ↦ ((λ z. grind (arith, nat_tests)), not_member id ids (rw y at e))
]

pub touch_once : (id : ℕ) (ids : List ℕ) → Pairwise (λ x y. x ≢ y) ids → Pairwise (λ x y. x ≢ y) (touch id ids)
touch_once id ids p = elim (cases_Bool (member id ids)) [
  | inl e ↦ rw e p
  | inr e ↦ rw e (pair_between (λ x y. x ≢ y) ids id [] (subst (λ z. Pairwise (λ x y. x ≢ y) z) (sym (append-nil ids)) p) (not_member id ids e) tt)
]

-- counts ---------------------------------------------------------------------------------------------------------------

-- a touched list has more nodes than the finished log counts, another as many
abbrev pub Counts : List (List Entry) → List ℕ → NodeList → Type 0
Counts ts ids l = ((member l.id ids ≡ true) × (count_in ts l.id < length l.nodes)) ⊎ ((member l.id ids ≡ false) × (length l.nodes ≡ count_in ts l.id))

counts_most : (ts : List (List Entry)) (ids : List ℕ) (l : NodeList) → Counts ts ids l → count_in ts l.id ≤ length l.nodes
counts_most ts ids l (inl (e, c)) = omega arith
counts_most ts ids l (inr (e, c)) = omega arith

counts_other : (ts : List (List Entry)) (id : ℕ) (ids : List ℕ) (l : NodeList) → l.id ≢ id → Counts ts ids l → Counts ts (touch id ids) l
counts_other ts id ids l n (inl (e, c)) = inl (touch_other l.id id ids n ∙ e, c)
counts_other ts id ids l n (inr (e, c)) = inr (touch_other l.id id ids n ∙ e, c)

-- one list has one node more
pub counts_push : (ts : List (List Entry)) (ids : List ℕ) (pre : List NodeList) (l l' : NodeList) (post : List NodeList) → Pairwise (λ l m. l.id ≢ m.id) (pre ++ (l ∷ post))
    → l'.id ≡ l.id → length l'.nodes ≡ length l.nodes + 1 → AllByRecursion (Counts ts ids) (pre ++ (l ∷ post)) → AllByRecursion (Counts ts (touch l.id ids)) (pre ++ (l' ∷ post))
counts_push ts ids pre l l' post d e n a =
    let (a0, a1) = all_front (Counts ts ids) pre (l ∷ post) a in
    let (d0, d1, d2) = pairs_split (λ l m. l.id ≢ m.id) pre (l ∷ post) d in
    let c = counts_most ts ids l a1.0 in
    let own : Counts ts (touch l.id ids) l' = inl (ap (λ z. member z (touch l.id ids)) e ∙ touch_same l.id ids, subst (λ z. count_in ts z < length l'.nodes) (sym e) (omega arith)) in
    All-append (Counts ts (touch l.id ids)) pre (l' ∷ post)
    (all_both (λ m. AllByRecursion (λ k. m.id ≢ k.id) (l ∷ post)) (Counts ts ids) (Counts ts (touch l.id ids)) pre (λ m u v. counts_other ts l.id ids m u.0 v) d2 a0)
    (own, all_both (λ m. l.id ≢ m.id) (Counts ts ids) (Counts ts (touch l.id ids)) post (λ m u v. counts_other ts l.id ids m (λ z. u (sym z)) v) d1.0 a1.1)

-- a new list comes
pub counts_list : (ts : List (List Entry)) (ids : List ℕ) (ls : List NodeList) (l : NodeList) → AllByRecursion (λ m. m.id ≢ l.id) ls → count_in ts l.id < length l.nodes → AllByRecursion (Counts ts ids) ls
    → AllByRecursion (Counts ts (touch l.id ids)) (ls ++ (l ∷ []))
counts_list ts ids ls l d n a =
    All-append (Counts ts (touch l.id ids)) ls (l ∷ [])
    (all_both (λ m. m.id ≢ l.id) (Counts ts ids) (Counts ts (touch l.id ids)) ls (λ m u v. counts_other ts l.id ids m u v) d a)
    (inl (touch_same l.id ids, n), tt)

-- the entries of a commit ------------------------------------------------------------------------------------------------

abbrev pub entries_for : (ℕ → ℕ) → List ℕ → List Entry
entries_for count ids = map (λ id. entry id (count id)) ids

pub latest_row : (id n : ℕ) (xs ys : List Entry) → latest id n (xs ++ ys) ≡ latest id (latest id n xs) ys
unfolding latest
latest_row id n [] ys = refl
latest_row id n (x ∷ xs) ys = latest_row id (cond (eqb x.source id) x.number n) xs ys

-- an ID that is not among them keeps its number, one that is gets its count
latest_none : (count : ℕ → ℕ) (id n : ℕ) (ids : List ℕ) → member id ids ≡ false → latest id n (entries_for count ids) ≡ n
unfolding latest
latest_none count id n [] e = refl
latest_none count id n (x ∷ ids) e = elim (cases_Bool (eqb x id)) [
  | inl y ↦ absurd (grind (arith, nat_tests))
  | inr y ↦ ap (λ z. latest id (cond z (count x) n) (entries_for count ids)) y ∙ latest_none count id n ids (rw y at e)
]

latest_some : (count : ℕ → ℕ) (id n : ℕ) (ids : List ℕ) → member id ids ≡ true → latest id n (entries_for count ids) ≡ count id
unfolding latest
latest_some count id n [] e = absurd (grind arith)
latest_some count id n (x ∷ ids) e = elim (cases_Bool (member id ids)) [
  | inl m ↦ latest_some count id (cond (eqb x id) (count x) n) ids m
  | inr m ↦
      let y : eqb x id ≡ true = grind (arith, nat_tests) in
      let z : x ≡ id = grind (arith, nat_tests) in
      ap (λ w. latest id (cond w (count x) n) (entries_for count ids)) y ∙ latest_none count id (count x) ids m ∙ ap count z
]

count_after : (ts : List (List Entry)) (t : List Entry) (id : ℕ) → count_in (ts ++ (t ∷ [])) id ≡ latest id (count_in ts id) t
count_after ts t id = ap (λ z. latest id 0 z) (flat_push ts t) ∙ latest_row id 0 (flat ts) t

-- after the commit's entries each list has its count of nodes
pub counted_after : (ts : List (List Entry)) (ids : List ℕ) (count : ℕ → ℕ) (ls : List NodeList) → AllByRecursion (Counts ts ids) ls → AllByRecursion (λ l. count l.id ≡ length l.nodes) ls
    → AllByRecursion (λ l. length l.nodes ≡ count_in (ts ++ (entries_for count ids ∷ [])) l.id) ls
counted_after ts ids count ls a c = all_both (Counts ts ids) (λ l. count l.id ≡ length l.nodes) (λ l. length l.nodes ≡ count_in (ts ++ (entries_for count ids ∷ [])) l.id) ls one a c
  where
    one : (l : NodeList) → Counts ts ids l → count l.id ≡ length l.nodes → length l.nodes ≡ count_in (ts ++ (entries_for count ids ∷ [])) l.id
    one l (inl (e, u)) v = sym (count_after ts (entries_for count ids) l.id ∙ latest_some count l.id (count_in ts l.id) ids e ∙ v)
    one l (inr (e, u)) v = sym (count_after ts (entries_for count ids) l.id ∙ latest_none count l.id (count_in ts l.id) ids e ∙ sym u)

latest_other : (id : ℕ) (before : List Entry) (e : Entry) → e.source ≢ id → latest id 0 (before ++ (e ∷ [])) ≡ latest id 0 before
unfolding latest
latest_other id before e n =
    let q = ne_eqb e.source id n in
    latest_row id 0 before (e ∷ []) ∙ ap (λ z. cond z e.number (latest id 0 before)) q

-- entries of distinct lists, each above the list's last
pub rising_entries : (before : List Entry) (count : ℕ → ℕ) (ids : List ℕ) → Pairwise (λ x y. x ≢ y) ids → AllByRecursion (λ id. latest id 0 before < count id) ids → Rising before (entries_for count ids)
rising_entries before count [] p a = tt
rising_entries before count (x ∷ ids) (p, ps) (a, as') = (
  a,
  rising_entries (before ++ (entry x (count x) ∷ [])) count ids ps
      (all_both (λ y. x ≢ y) (λ y. latest y 0 before < count y) (λ y. latest y 0 (before ++ (entry x (count x) ∷ [])) < count y) ids
      (λ y n l. subst (λ z. z < count y) (sym (latest_other y before (entry x (count x)) n)) l) p as'),
)

pub counts_lists : (count : ℕ → ℕ) (ids : List ℕ) → AllByRecursion (λ id. 16 ≤ id) ids → CountsLists (entries_for count ids)
counts_lists count [] a = tt
counts_lists count (x ∷ ids) (p, a) = ((λ e. omega arith), counts_lists count ids a)

-- the counts of a draft: the lists that it touched, each once, and the IDs of the finished log
pub record Counting (s : Section) (ids : List ℕ) (highest : ℕ) (ls : List NodeList) : Type 0 where
  pub once : Pairwise (λ x y. x ≢ y) ids
  pub known : AllByRecursion (λ id. member id (map (λ l. l.id) ls) ≡ true) ids
  pub counts : AllByRecursion (Counts s.log.transactions ids) ls
  pub sources : AllByRecursion (λ e. e.source ≤ highest) (flat s.log.transactions)
  -- the highest ID known is a touched list's, or it is the one before the draft
  pub raised : (member highest ids ≡ true) ⊎ (highest ≡ (blank s).highest)
  -- the fragments that the draft made are of 1,024 bytes
  pub extended : Extends (list_fragments s.lists) (list_fragments ls)

touch_all : (P : ℕ → Type 0) (id : ℕ) (ids : List ℕ) → P id → AllByRecursion P ids → AllByRecursion P (touch id ids)
touch_all P id ids p a = elim (cases_Bool (member id ids)) [
  | inl e ↦ rw e a
  | inr e ↦ rw e (All-append P ids (id ∷ []) a (p, tt))
]

member_left : (x : ℕ) (xs ys : List ℕ) → member x xs ≡ true → member x (xs ++ ys) ≡ true
member_left x [] ys e = absurd (grind arith)
member_left x (y ∷ xs) ys e = elim (cases_Bool (eqb y x)) [
  | inl q ↦ rw q
  | inr q ↦ rw q (member_left x xs ys (rw q at e))
]

member_right : (x : ℕ) (xs ys : List ℕ) → member x ys ≡ true → member x (xs ++ ys) ≡ true
member_right x [] ys e = e
member_right x (y ∷ xs) ys e = elim (cases_Bool (eqb y x)) [
  | inl q ↦ rw q
  | inr q ↦ rw q (member_right x xs ys e)
]

touch_keeps : (x id : ℕ) (ids : List ℕ) → member x ids ≡ true → member x (touch id ids) ≡ true
touch_keeps x id ids e = elim (cases_Bool (member id ids)) [
  | inl q ↦ rw q e
  | inr q ↦ rw q (member_left x ids (id ∷ []) e)
]

member_middle : (pre : List NodeList) (l : NodeList) (post : List NodeList) → member l.id (map (λ l. l.id) (pre ++ (l ∷ post))) ≡ true
member_middle [] l post = let q : eqb l.id l.id ≡ true = grind (arith, nat_tests) in rw q
member_middle (m ∷ pre) l post = elim (cases_Bool (eqb m.id l.id)) [
  | inl q ↦ rw q
  | inr q ↦ rw q (member_middle pre l post)
]

pub counting_push : (s : Section) (ids : List ℕ) (highest : ℕ) (pre : List NodeList) (l l' : NodeList) (post : List NodeList) → Pairwise (λ l m. l.id ≢ m.id) (pre ++ (l ∷ post))
    → l'.id ≡ l.id → length l'.nodes ≡ length l.nodes + 1 → Extends l.fragments l'.fragments → Counting s ids highest (pre ++ (l ∷ post)) → Counting s (touch l.id ids) highest (pre ++ (l' ∷ post))
counting_push s ids highest pre l l' post d e n x c =
    let q : map (λ (l : NodeList). l.id) (pre ++ (l' ∷ post)) ≡ map (λ (l : NodeList). l.id) (pre ++ (l ∷ post)) = map_instead (λ (l : NodeList). l.id) pre l l' post e in
    record {
      once = touch_once l.id ids c.once;
      known = subst (λ z. AllByRecursion (λ id. member id z ≡ true) (touch l.id ids)) (sym q) (touch_all (λ id. member id (map (λ l. l.id) (pre ++ (l ∷ post))) ≡ true) l.id ids (member_middle pre l post) c.known);
      counts = counts_push s.log.transactions ids pre l l' post d e n c.counts;
      sources = c.sources;
      raised = elim c.raised [
        | inl u ↦ inl (touch_keeps highest l.id ids u)
        | inr u ↦ inr u
      ];
      extended = extends_then (list_fragments s.lists) (list_fragments (pre ++ (l ∷ post))) (list_fragments (pre ++ (l' ∷ post))) c.extended (extends_instead pre l l' post x);
    }

pub latest_absent : (id highest n : ℕ) (es : List Entry) → highest < id → AllByRecursion (λ e. e.source ≤ highest) es → latest id n es ≡ n
unfolding latest
latest_absent id highest n [] h a = refl
latest_absent id highest n (e ∷ es) h (p, a) =
    let q : eqb e.source id ≡ false = grind (arith, nat_tests) in
    ap (λ z. latest id (cond z e.number n) es) q ∙ latest_absent id highest n es h a

pub counting_list : (s : Section) (ids : List ℕ) (highest : ℕ) (ls : List NodeList) (l : NodeList) → AllByRecursion (λ m. m.id ≤ highest) ls → l.id ≡ highest + 1 → length l.nodes ≡ 1
    → (start : ℕ) → l.fragments ≡ span start 1024 ∷ [] → Counting s ids highest ls → Counting s (touch l.id ids) (highest + 1) (ls ++ (l ∷ []))
counting_list s ids highest ls l d e n start x c =
    let q : map (λ (l : NodeList). l.id) (ls ++ (l ∷ [])) ≡ map (λ (l : NodeList). l.id) ls ++ (l.id ∷ []) = map-append (λ (l : NodeList). l.id) ls (l ∷ []) in
    let z : count_in s.log.transactions l.id ≡ 0 = latest_absent l.id highest 0 (flat s.log.transactions) (omega arith) c.sources in
    record {
      once = touch_once l.id ids c.once;
      known = subst (λ z. AllByRecursion (λ id. member id z ≡ true) (touch l.id ids)) (sym q) (touch_all (λ id. member id (map (λ l. l.id) ls ++ (l.id ∷ [])) ≡ true) l.id ids
          (member_right l.id (map (λ l. l.id) ls) (l.id ∷ []) (let w : eqb l.id l.id ≡ true = grind (arith, nat_tests) in rw w))
          (All-weaker (λ id. member id (map (λ l. l.id) ls) ≡ true) (λ id. member id (map (λ l. l.id) ls ++ (l.id ∷ [])) ≡ true) (λ id x. member_left id (map (λ l. l.id) ls) (l.id ∷ []) x) ids c.known));
      counts = counts_list s.log.transactions ids ls l (All-weaker (λ m. m.id ≤ highest) (λ m. m.id ≢ l.id) (λ m x y. omega arith) ls d) (omega arith) c.counts;
      sources = All-weaker (λ e. e.source ≤ highest) (λ e. e.source ≤ highest + 1) (λ e x. omega arith) (flat s.log.transactions) c.sources;
      raised = inl (subst (λ z. member z (touch l.id ids) ≡ true) e (touch_same l.id ids));
      extended = extends_then (list_fragments s.lists) (list_fragments ls) (list_fragments (ls ++ (l ∷ []))) c.extended (extends_list ls l start x);
    }
