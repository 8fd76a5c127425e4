-- Over a commit each look to a count up to the old one answers as before.
use Rattle.std.proofs.Common.{◌≡◌, ℕ, ◌+◌, ◌<◌, ◌≤◌, Bool, true, false, not, ◌||◌, eqb, ltb, leb, ◌⊎◌, List, [], ◌∷◌, ◌++◌, map, length, get_or, take, drop, sym, refl, ap, ◌∙◌, subst, inl, inr, arith}
use Rattle.std.specs.List.{AllByRecursion}
use Rattle.std.proofs.lemmas.List.{append_assoc, append-nil, length-append, length-map, take-append-le, take-append-drop, get_or-map, get_or_append_left}
use Rattle.std.proofs.lemmas.Bool.{cases_Bool, cases_lt}
use Rattle.std.proofs.lemmas.Bool.Decides.{nat_tests}
use Rattle.model.specs.declared.types.Entry.{Entry}
use Rattle.model.specs.Bytes.{applied}
use Rattle.model.specs.Faults.{fault, Outcome, done, unless, then}
use Rattle.model.specs.Nodes.{Node}
use Rattle.model.specs.Section.{Section, flat, latest, count_in, count_at}
use Rattle.model.specs.OpenedLists.{taken}
use Rattle.model.specs.Means.{Rising, Stands, Means}
use Rattle.model.specs.Looks.{looks_to, Seen, no_node, nodes_of, node_of, seen_in, answered, look}
use Rattle.model.specs.Layouts.{Add, blank}
use Rattle.model.specs.Saving.{layout}
use Rattle.model.specs.Committing.{count_entries, logged, committing}
use Rattle.model.specs.Contents.{Content, holds, saved}
use Rattle.model.specs.Laws.{add_writes, LooksGrow}
use Rattle.meaning.proofs.Members.{all_in}
use Rattle.meaning.proofs.OpensMeans.{opens_means}
use Rattle.commits.proofs.HeadBack.{headed}
use Rattle.commits.proofs.Counting.{latest_absent, latest_row}
use Rattle.commits.proofs.Drafts.{blank_drafted}
use Rattle.commits.proofs.CommitReads.{taken_in, nodes_in, ReadAfter, read_after}
use Rattle.meaning.proofs.Members.{flat_join}
use Rattle.commits.proofs.SeenAlike.{Alike, seen_alike}

-- counts at a k ------------------------------------------------------------------------------------------------------------

-- entries that rise leave no list's last number lower
one_most : (id : ℕ) (before : List Entry) (e : Entry) → latest e.source 0 before < e.number → latest id 0 before ≤ latest id 0 (before ++ (e ∷ []))
unfolding latest
one_most id before e p = rw (latest_row id 0 before (e ∷ [])) (elim (cases_Bool (eqb e.source id)) [
  | inl x ↦
      let y : e.source ≡ id = grind (arith, nat_tests) in
      let z : latest id 0 before < e.number = rw y at p in
      rw x (omega arith)
  | inr x ↦ rw x (omega arith)
])

rising_most : (id : ℕ) (before es : List Entry) → Rising before es → latest id 0 before ≤ latest id 0 (before ++ es)
rising_most id before [] r = rw append-nil (omega arith)
rising_most id before (e ∷ es) (p, r) =
    let ih : latest id 0 (before ++ (e ∷ [])) ≤ latest id 0 (before ++ (e ∷ es)) = rw append_assoc at (rising_most id (before ++ (e ∷ [])) es r) in
    let q = one_most id before e p in
    omega arith

rising_back : (before xs ys : List Entry) → Rising before (xs ++ ys) → Rising (before ++ xs) ys
rising_back before [] ys r = rw append-nil r
rising_back before (x ∷ xs) ys (p, r) = subst (λ z. Rising z ys) (append_assoc before (x ∷ []) xs) (rising_back (before ++ (x ∷ [])) xs ys r)

-- a list's count at k is at most its last
pub count_most : (ts : List (List Entry)) (k id : ℕ) → Rising [] (flat ts) → count_in (take k ts) id ≤ count_in ts id
count_most ts k id r =
    let e : flat ts ≡ flat (take k ts) ++ flat (drop k ts) = ap (λ (z : List (List Entry)). flat z) (sym (take-append-drop k ts)) ∙ flat_join (take k ts) (drop k ts) in
    let q = rising_most id (flat (take k ts)) (flat (drop k ts)) (rising_back [] (flat (take k ts)) (flat (drop k ts)) (subst (λ z. Rising [] z) e r)) in
    subst (λ z. count_in (take k ts) id ≤ latest id 0 z) (sym e) q

-- nodes found at a k -------------------------------------------------------------------------------------------------------

-- the first nodes of a list that has grown
front_holds : (c b : List ℕ) (ns' ns : List Node) (X : List Content) (i : ℕ) → map (holds c) ns' ≡ map (holds b) ns ++ X → i < length ns → holds c (get_or ns' i no_node) ≡ holds b (get_or ns i no_node)
front_holds c b ns' ns X i e h =
    let l1 = length-map ns' (holds c) in
    let l2 = length-map ns (holds b) in
    let l3 = ap (λ (z : List Content). length z) e in
    let l4 = length-append (map (holds b) ns) X in
    sym (get_or-map (holds c) ns' i no_node (holds b no_node) (omega arith)) ∙ ap (λ (z : List Content). get_or z i (holds b no_node)) e
    ∙ get_or_append_left (map (holds b) ns) X (holds b no_node) i (omega arith) ∙ get_or-map (holds b) ns i no_node (holds b no_node) h

-- the same checks, and nodes that hold the same
node_alike : (c b : List ℕ) (n n' : ℕ) (k index m : ℕ) (found found' : Bool) (x x' : Node) → 1 ≤ k → k ≤ n → n ≤ n' → (found' ≡ found) ⊎ (m ≡ 0) → (found ≡ true → index < m → holds c x' ≡ holds b x)
    → Alike c b (unless ((eqb k 0 || ltb n' k, fault 25 5 0 0) ∷ (not found' || leb m index, fault 26 5 0 0) ∷ []) (done x'))
    (unless ((eqb k 0 || ltb n k, fault 25 5 0 0) ∷ (not found || leb m index, fault 26 5 0 0) ∷ []) (done x))
node_alike c b n n' k index m found found' x x' h u v w same =
    let a : (eqb k 0 || ltb n k) ≡ false = grind (arith, nat_tests) in
    let a' : (eqb k 0 || ltb n' k) ≡ false = grind (arith, nat_tests) in
    let e : (not found' || leb m index) ≡ (not found || leb m index) = elim w [
      | inl q ↦ rw q
      | inr q ↦
          let z : leb m index ≡ true = grind (arith, nat_tests) in
          both (not found') (not found) (leb m index) z
    ] in
    rw (a, a', e) (elim (cases_Bool (not found || leb m index)) [
      | inl y ↦ rw y refl
      | inr y ↦ rw y (same (grind (arith, nat_tests)) (grind (arith, nat_tests)))
    ])
  where
    both : (p q z : Bool) → z ≡ true → (p || z) ≡ (q || z)
    both true true z e = refl
    both true false z e = sym e
    both false true z e = e
    both false false z e = refl

-- a node that is found at k in the old file is found at k after the commit
read_alike : (b c : List ℕ) (s : Section) (adds : List Add) (guid : List ℕ) (k list index : ℕ) → (r : ReadAfter b c s adds guid) → Means b s → AllByRecursion (λ e. e.source ≤ (blank s).highest) (flat s.log.transactions)
    → 1 ≤ k → k ≤ s.header.count
    → Alike c b (node_of (record { header = headed s.header (logged s (layout s adds)).end guid; log = r.log; lists = r.lists }) k list index) (node_of s k list index)
read_alike b c s adds guid k list index r m sources low high =
    let ts = s.log.transactions in
    let fin = m.log.finished in
    let rise : Rising [] (flat ts) = subst (λ z. Rising [] z) (append-nil (flat ts)) m.log.part.rising in
    let most = count_most ts k list rise in
    let q : count_at r.log k list ≡ count_at s.log k list
    = ap (λ (z : List (List Entry)). count_in (take k z) list) r.transactions ∙ ap (λ (z : List (List Entry)). count_in z list) (take-append-le k ts (count_entries (layout s adds) ∷ []) (omega arith)) in
    let either : (taken list r.lists ≡ taken list s.lists) ⊎ (count_at s.log k list ≡ 0) = elim (cases_lt (blank s).highest list) [
      | inl h ↦ let z = latest_absent list (blank s).highest 0 (flat ts) h sources in inr (omega arith)
      | inr h ↦ inl (r.known list (omega arith))
    ] in
    let same : taken list s.lists ≡ true → index < count_at s.log k list → holds c (get_or (nodes_of r.lists list) index no_node) ≡ holds b (get_or (nodes_of s.lists list) index no_node) = λ e h.
    let (l, i, f) = taken_in s.lists list e in
    let n : nodes_of s.lists list ≡ l.nodes = nodes_in s.lists l list m.ids_differ i f in
    let u : length l.nodes ≡ count_in ts list = (all_in (Stands b s.header s.log) s.lists l m.lists i).counted ∙ ap (λ z. count_in ts z) f in
    let v : length (nodes_of s.lists list) ≡ length l.nodes = ap length n in
    front_holds c b (nodes_of r.lists list) (nodes_of s.lists list) (saved (blank s) adds list) index (r.grown list) (omega arith) in
    subst (λ z. Alike c b (unless ((eqb k 0 || ltb (s.header.count + 1) k, fault 25 5 0 0) ∷ (not (taken list r.lists) || leb z index, fault 26 5 0 0) ∷ []) (done (get_or (nodes_of r.lists list) index no_node))) (node_of s k list index))
    (sym q) (node_alike c b s.header.count (s.header.count + 1) k index (count_at s.log k list) (taken list s.lists) (taken list r.lists) (get_or (nodes_of s.lists list) index no_node) (get_or (nodes_of r.lists list) index no_node)
    low high (omega arith) either same)

-- as the model states it
pub looks_grow : LooksGrow
unfolding look
looks_grow b ceiling s adds guid a _ g o k cs l low high =
    let c : List ℕ = applied b (add_writes (blank s) adds) in
    let c2 : List ℕ = applied c (committing c s adds guid) in
    let m = (opens_means b s o).0 in
    let r = read_after b ceiling s adds guid a g m k cs in
    let t : Section = record { header = headed s.header (logged s (layout s adds)).end guid; log = r.log; lists = r.lists } in
    ap (λ (z : Outcome Section). answered l (then z (λ s. seen_in c2 s l))) r.opens
    ∙ ap (λ (z : Outcome Seen). answered l z) (seen_alike c2 b t s l (λ list index. read_alike b c2 s adds guid (looks_to l) list index r m (blank_drafted b s a m).0.counting.sources low high))
    ∙ ap (λ (z : Outcome Section). answered l (then z (λ s. seen_in b s l))) (sym o)
