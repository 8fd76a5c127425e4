-- The newest change of a list, and what one more change does.
use Rattle.std.proofs.Common.{◌≡◌, ℕ, zero, suc, ◌+◌, ◌<◌, ◌≤◌, max, Bool, true, false, cond, ◌&&◌, eqb, leb, ltb, List, [], ◌∷◌, ◌++◌, map, length, get_or, take, filter, Option, Some, None, MatchOption, sym, refl, ap, ◌∙◌, inl, inr, arith}
use Rattle.std.specs.Option.{option_map_or, unwrap_or}
use Rattle.std.specs.Bool.{then_some}
use Rattle.std.specs.List.{All, AllPairs}
use Rattle.std.proofs.lemmas.List.Elements.{All-push}
use Rattle.std.proofs.lemmas.List.Quantifiers.{all_pairs_push}
use Rattle.std.proofs.lemmas.List.{get_or_read_under, take_more, take_all, get_or_append_left, get_or_push, map_push}
use Rattle.std.proofs.Math.Bool.{and-true}
use Rattle.std.proofs.lemmas.Option.{MatchOption-at_some, MatchOption-at_none}
use Rattle.std.proofs.lemmas.Bool.{cases_lt, cases_Bool, cases_eq, eq-eqb, ne_eqb, cond-false, and_right}
use Rattle.std.proofs.lemmas.Bool.Decides.{nat_tests}
use Rattle.model.specs.Section.{latest}
use Rattle.model.specs.Layouts.{greatest}
use Rattle.bounded.proofs.Filters.{filter_all}
use Rattle.counts.specs.declared.changes.Change.{Change}
use Rattle.counts.specs.Noted.{entry_of, entries, noted, noted_at, noted_most}
use Rattle.counts.specs.Chains.{no_change, list_at, newest_in, listed, link_of}
use Rattle.counts.specs.declared.changes.Counted.{Counted}

-- what some of the changes say, those that a test keeps
abbrev pub by : (Change → Bool) → List Change → ℕ → ℕ
by keep cs id = latest id 0 (entries (filter keep cs))

push : (keep : Change → Bool) (id n : ℕ) (cs : List Change) (c : Change)
    → latest id n (entries (filter keep (cs ++ c ∷ []))) ≡ cond (keep c && eqb c.list id) c.count (latest id n (entries (filter keep cs)))
unfolding latest
push keep id n [] c = grind (arith, nat_tests)
push keep id n (x ∷ cs) c =
    let ih : (m : ℕ) → latest id m (entries (filter keep (cs ++ c ∷ []))) ≡ cond (keep c && eqb c.list id) c.count (latest id m (entries (filter keep cs)))
    = λ m. push keep id m cs c in
    elim (cases_Bool (keep x)) [
      | inl e ↦ let i = ih (cond (eqb x.list id) x.count n) in rw (e) i
      | inr e ↦ rw (e) (ih n)
    ]

by_none : (keep : Change → Bool) (id : ℕ) → by keep [] id ≡ 0
unfolding latest
by_none keep id = refl

weaker : {X : Type 0} (o : Option X) {P P' : Type 0} {Q Q' : X → Type 0} → MatchOption o P Q → (P → P') → ((x : X) → Q x → Q' x) → MatchOption o P' Q'
weaker None h f g = f h
weaker (Some x) h f g = g x h

-- the newest change of a list among the first n is one of that list, and what stands behind it says nothing of that list
abbrev pub Says : (Change → Bool) → List Change → ℕ → ℕ → ℕ → Type 0
Says keep cs id n i = (i < n) × (list_at cs i ≡ id)
    × (by keep (take n cs) id ≡ cond (keep (get_or cs i no_change)) (get_or cs i no_change).count (by keep (take i cs) id))

pub walk : (keep : Change → Bool) (cs : List Change) (id n : ℕ) → n ≤ length cs → MatchOption (newest_in id cs n) (by keep (take n cs) id ≡ 0) (Says keep cs id n)
unfolding newest_in
walk keep cs id zero h = by_none keep id
walk keep cs id (suc n) h =
    let ih : MatchOption (newest_in id cs n) (by keep (take n cs) id ≡ 0) (Says keep cs id n) = walk keep cs id n (omega arith) in
    let e : n + 1 ≡ suc n = omega arith in
    let split : take (suc n) cs ≡ take n cs ++ get_or cs n no_change ∷ [] = ap (λ k. take k cs) (sym e) ∙ take_more cs n no_change (omega arith) in
    let p : by keep (take (suc n) cs) id ≡ cond (keep (get_or cs n no_change) && eqb (list_at cs n) id) (get_or cs n no_change).count (by keep (take n cs) id)
    = ap (λ xs. by keep xs id) split ∙ push keep id 0 (take n cs) (get_or cs n no_change) in
    elim (cases_eq (list_at cs n) id) [
      | inl a ↦
          let q = eq-eqb _ _ a in
          let c = get_or cs n no_change in
          let same : (keep c && eqb (list_at cs n) id) ≡ keep c = ap (λ b. keep c && b) q ∙ and-true (keep c) in
          rw q (omega arith, a, p ∙ ap (λ b. cond b c.count (by keep (take n cs) id)) same)
      | inr a ↦
          let q = ne_eqb _ _ a in
          let c = get_or cs n no_change in
          let same : by keep (take (suc n) cs) id ≡ by keep (take n cs) id = p ∙ cond-false _ c.count (by keep (take n cs) id) (and_right (keep c) _ q) in
          rw q (weaker (newest_in id cs n) ih (λ z. same ∙ z) (λ i (w : Says keep cs id n i). (omega (arith, w.0), w.1, same ∙ w.2)))
    ]

-- the count of a list, by its newest change
module _ (cs : List Change) (id n : ℕ) (long : n ≡ length cs) where
  whole : (keep : Change → Bool) → by keep (take n cs) id ≡ by keep cs id
  whole keep = ap (λ xs. by keep xs id) (take_all n cs (omega arith))

  all : noted cs id ≡ by (λ c. true) (take n cs) id
  all = ap (λ xs. latest id 0 (entries xs)) (sym (filter_all (λ c. true) cs (λ k d l. refl))) ∙ sym (whole (λ c. true))

  pub noted_none : None ≡ newest_in id cs n → 0 ≡ noted cs id
  noted_none none = sym (all ∙ MatchOption-at_none _ (Says (λ c. true) cs id n) (sym none) (walk (λ c. true) cs id n (omega arith)))

  pub newest_within : (i : ℕ) → Some i ≡ newest_in id cs n → i < n
  newest_within i some = (MatchOption-at_some _ (Says (λ c. true) cs id n) i (sym some) (walk (λ c. true) cs id n (omega arith))).0

  pub noted_some : (i : ℕ) → Some i ≡ newest_in id cs n → (x : Change) → x ≡ get_or cs i x → x.count ≡ noted cs id
  noted_some i some x is =
      let w = MatchOption-at_some _ (Says (λ c. true) cs id n) i (sym some) (walk (λ c. true) cs id n (omega arith)) in
      ap (λ y. y.count) (get_or_read_under cs i n x no_change is w.0 long) ∙ sym (all ∙ w.2)

-- what a walk back has come to: the newest change of a list among some first ones, where those behind them say nothing of the list after k transactions
abbrev pub Back : List Change → ℕ → ℕ → ℕ → Option ℕ → Type 0
Back cs len k id at = (n : ℕ) × (n ≤ len) × (at ≡ newest_in id cs n) × (noted_at cs k id ≡ noted_at (take n cs) k id)

pub after : Option ℕ → ℕ
after o = option_map_or (λ i. i + 1) o 0

newest_below : (id : ℕ) (cs : List Change) (n : ℕ) → after (newest_in id cs n) ≤ n
unfolding newest_in after
newest_below id cs zero = omega arith
newest_below id cs (suc n) = let ih = newest_below id cs n in elim (cases_Bool (eqb (list_at cs n) id)) [ inl e ↦ rw e (omega arith) | inr e ↦ rw e (omega arith) ]

-- and each step of it goes back
pub falls : (cs : List Change) (i : ℕ) (at : Option ℕ) → at ≡ newest_in (list_at cs i) cs i → after at < after (Some i)
unfolding after
falls cs i at link = rw link (omega (arith, newest_below (list_at cs i) cs i))

-- the index beside a change tells the one before it by standing below its own, and that there is none by being its own
below_own : (o : Option ℕ) (i b : ℕ) → after o ≤ i → b ≡ link_of i o → o ≡ then_some (ltb b i) b
unfolding after
below_own None i b h e = grind (arith, nat_tests)
below_own (Some j) i b h e = grind (arith, nat_tests)

pub link_tells : (cs : List Change) (i b : ℕ) → b ≡ link_of i (newest_in (list_at cs i) cs i) → newest_in (list_at cs i) cs i ≡ then_some (ltb b i) b
link_tells cs i b link = below_own (newest_in (list_at cs i) cs i) i b (newest_below (list_at cs i) cs i) link

-- and it is what a table writes there
link_written : (o : Option ℕ) (i : ℕ) → unwrap_or o i ≡ link_of i o
link_written None i = refl
link_written (Some j) i = refl

module _ (cs : List Change) (len : ℕ) (long : len ≡ length cs) (k id : ℕ) where
  keep : Change → Bool
  keep c = leb c.transaction k

  pub starts : (at : Option ℕ) → at ≡ newest_in id cs len → Back cs len k id at
  starts at is = (len, omega arith, is, ap (λ xs. noted_at xs k id) (sym (take_all len cs (omega arith))))

  pub ends : Back cs len k id None → 0 ≡ noted_at cs k id
  unfolding keep
  ends (n, within, is, same) = sym (same ∙ MatchOption-at_none _ (Says keep cs id n) (sym is) (walk keep cs id n (omega arith)))

  module _ (i : ℕ) (back : Back cs len k id (Some i)) where
    says : Says keep cs id back.0 i
    says = MatchOption-at_some _ (Says keep cs id back.0) i (sym back.2) (walk keep cs id back.0 (omega (arith, back.1)))

    pub within : i < len
    within = omega (arith, says.0, back.1)

    module _ (x : Change) (is : x ≡ get_or cs i x) where
      read : x ≡ get_or cs i no_change
      read = get_or_read_under cs i len x no_change is within long

      pub arrives : x.transaction ≤ k → x.count ≡ noted_at cs k id
      unfolding keep
      arrives early = let s = says in let q = back.3 in let r = read in grind (arith, nat_tests)

      pub goes : k < x.transaction → (at : Option ℕ) → at ≡ newest_in (list_at cs i) cs i → Back cs len k id at
      unfolding keep
      goes late at link =
          let s = says in
          let passed : keep (get_or cs i no_change) ≡ false = let r = read in grind (arith, nat_tests) in
          (i, omega (arith, within), link ∙ ap (λ z. newest_in z cs i) s.1, back.3 ∙ s.2 ∙ cond-false _ _ _ passed)

-- a change more leaves what the earlier ones say
pub newest_earlier : (id : ℕ) (cs : List Change) (c : Change) (n : ℕ) → n ≤ length cs → newest_in id (cs ++ c ∷ []) n ≡ newest_in id cs n
unfolding newest_in
newest_earlier id cs c zero h = refl
newest_earlier id cs c (suc n) h =
    let ih = newest_earlier id cs c n (omega arith) in
    let e : list_at (cs ++ c ∷ []) n ≡ list_at cs n = ap (λ x. x.list) (get_or_append_left cs (c ∷ []) no_change n (omega arith)) in
    grind (arith, nat_tests)

-- and is the newest of its list
pub newest_push : (id : ℕ) (cs : List Change) (c : Change) (n : ℕ) → length cs ≡ n → newest_in id (cs ++ c ∷ []) (n + 1) ≡ cond (eqb c.list id) (Some n) (newest_in id cs n)
unfolding newest_in
newest_push id cs c n h =
    let e : n + 1 ≡ suc n = omega arith in
    let a : list_at (cs ++ c ∷ []) n ≡ c.list = ap (λ x. x.list) (get_or_push cs c no_change n h) in
    let b = newest_earlier id cs c n (omega arith) in
    rw e (ap (λ m. cond (eqb m id) (Some n) (newest_in id (cs ++ c ∷ []) n)) a ∙ ap (λ m. cond (eqb c.list id) (Some n) m) b)

-- the highest ID
greatest_push : (xs : List ℕ) (x : ℕ) → greatest (xs ++ x ∷ []) ≡ max (greatest xs) x
unfolding greatest
greatest_push [] x = omega arith
greatest_push (y ∷ xs) x = omega (arith, greatest_push xs x)

pub most_push : (cs : List Change) (c : Change) → noted_most (cs ++ c ∷ []) ≡ max (noted_most cs) c.list
most_push cs c = ap (λ es. greatest (map (λ e. e.source) es)) (map_push entry_of cs c) ∙ ap greatest (map_push (λ e. e.source) (entries cs) (entry_of c)) ∙ greatest_push _ c.list

-- without changes
pub most_none : (cs : List Change) → cs ≡ [] → 0 ≡ noted_most cs
unfolding greatest
most_none cs e = rw e

pub newest_none : (id : ℕ) (ls : List Counted) (cs : List Change) (n : ℕ) → ls ≡ [] → n ≡ 0 → listed id ls ≡ newest_in id cs n
unfolding newest_in listed
newest_none id ls cs n e z = rw (e, z)

-- what a table holds with one change more
module _ (cs ds : List Change) (c : Change) (n m : ℕ) (long : n ≡ length cs) (items : ds ≡ cs ++ c ∷ []) (more : m ≡ n + 1) where
  pub newest_added : (id : ℕ) (a b : Option ℕ) → a ≡ cond (eqb c.list id) (Some n) b → b ≡ newest_in id cs n → a ≡ newest_in id ds m
  newest_added id a b e f = e ∙ ap (λ z. cond (eqb c.list id) (Some n) z) f ∙ sym (rw (items, more) (newest_push id cs c n (sym long)))

  pub linked_added : (bs es : List ℕ) (b : ℕ) → n ≡ length bs → es ≡ bs ++ b ∷ [] → b ≡ unwrap_or (newest_in c.list cs n) n
      → ((i : ℕ) → i < n → get_or bs i 0 ≡ link_of i (newest_in (list_at cs i) cs i))
      → (i : ℕ) → i < m → get_or es i 0 ≡ link_of i (newest_in (list_at ds i) ds i)
  linked_added bs es b size is e f i h = elim (cases_lt i n) [
    | inl l ↦
        let p : list_at (cs ++ c ∷ []) i ≡ list_at cs i = ap (λ x. x.list) (get_or_append_left cs (c ∷ []) no_change i (omega arith)) in
        let q = newest_earlier (list_at cs i) cs c i (omega arith) in
        rw (is, items, p, q) (get_or_append_left bs (b ∷ []) 0 i (omega arith) ∙ f i l)
    | inr l ↦
        let z : i ≡ n = omega arith in
        let p : list_at (cs ++ c ∷ []) n ≡ c.list = ap (λ x. x.list) (get_or_push cs c no_change n (sym long)) in
        let q = newest_earlier c.list cs c n (omega arith) in
        rw (is, items, z, p, q) (get_or_push bs b 0 n (sym size) ∙ e ∙ link_written (newest_in c.list cs n) n)
  ]

  pub most_added : (a b : ℕ) → a ≡ max b c.list → b ≡ noted_most cs → a ≡ noted_most ds
  most_added a b e f = e ∙ ap (λ z. max z c.list) f ∙ sym (ap noted_most items ∙ most_push cs c)

  pub early_added : (last : ℕ) → c.transaction ≤ last → All (λ x. x.transaction ≤ last) cs → All (λ x. x.transaction ≤ last) ds
  early_added last is early = rw items (All-push (λ x. x.transaction ≤ last) cs c early is)

  pub steady_added : All (λ x. x.transaction ≤ c.transaction) cs → AllPairs (λ x y. x.transaction ≤ y.transaction) cs → AllPairs (λ x y. x.transaction ≤ y.transaction) ds
  steady_added early steady = rw items (all_pairs_push (λ x y. x.transaction ≤ y.transaction) cs c steady early)
