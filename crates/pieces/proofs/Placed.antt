-- Fragments in order: what a search finds, and what one more or another free place leaves in order.
use Rattle.std.proofs.Common.{◌≡◌, ℕ, ◌+◌, ◌^◌, ◌<◌, ◌≤◌, Bool, true, false, min, cond, eqb, leb, List, [], ◌∷◌, ◌++◌, length, get_or, take, drop, Some, None, MatchOption, filter, sym, refl, ap, ◌∙◌, inl, inr, arith}
use Rattle.std.specs.List.{All, AllPairs, insert}
use Rattle.std.specs.List.Sorted.{IsPartitionedBy, IsPartitionPoint}
use Rattle.std.specs.Bool.{then_some}
use Rattle.std.specs.Ordering.{nat_cmp, is_le, is_some_and, partial_ordering_then}
use Rattle.std.proofs.lemmas.List.Elements.{filter_more}
use Rattle.std.proofs.lemmas.List.{take-append-drop, get_or-take, length-take-le, get_or_default}
use Rattle.std.proofs.lemmas.Bool.{cases_lt}
use Rattle.std.proofs.lemmas.Bool.Decides.{nat_tests}
use Rattle.bounded.proofs.Places.{All-front, All-back, AllPairs-insert}
use Rattle.bounded.proofs.Filters.{filter_all, filter_none, All-passed}
use Rattle.pieces.specs.declared.piece.Piece.{Piece}
use Rattle.pieces.specs.Found.{of_list, some_of, last_piece, last_from, put_in}
use Rattle.pieces.specs.Placed.{no_piece, piece_at, up_to, front_of, IsLast}
use Rattle.pieces.proofs.Kept.{last_push, some_push, low_whole, put_between}

abbrev pub Ordered : List Piece → Type 0
Ordered ps = AllPairs (λ p q. up_to q.list q.from p ≡ true) ps

-- what stands below something up to a place stands up to it too
below_too : (id from : ℕ) (p q : Piece) → up_to id from p ≡ true → up_to p.list p.from q ≡ true → up_to id from q ≡ true
below_too id from p q e f = grind (arith, nat_tests)

-- what is not up to p stands above it
stands_above : (p q : Piece) → up_to p.list p.from q ≡ false → up_to q.list q.from p ≡ true
stands_above p q e = grind (arith, nat_tests)

-- the comparison of a list and a number of nodes, as the code makes it
abbrev pub pair_test : ℕ → ℕ → Piece → Bool
pair_test id from p = is_some_and is_le (partial_ordering_then (Some (nat_cmp p.list id)) (Some (nat_cmp p.from from)))

pub pair_up_to : (id from : ℕ) (p : Piece) → up_to id from p ≡ pair_test id from p
pair_up_to id from p = grind (arith, nat_tests)

pub parts : (id from : ℕ) (ps : List Piece) (i : ℕ) → IsPartitionPoint (λ q. pair_test id from q ≡ true) (λ q. pair_test id from q ≡ false) ps i
    → IsPartitionPoint (λ q. up_to id from q ≡ true) (λ q. up_to id from q ≡ false) ps i
parts id from ps i place = (λ k d h l. pair_up_to id from (get_or ps k d) ∙ place.0 k d h l, λ k d h l. pair_up_to id from (get_or ps k d) ∙ place.1 k d h l)

module _ (ps : List Piece) (ordered : Ordered ps) where
  -- what a search asks
  pub parted : (id from : ℕ) → IsPartitionedBy (pair_test id from) ps
  parted id from i j d h l t =
      let e : up_to id from (get_or ps j d) ≡ true = pair_up_to id from (get_or ps j d) ∙ t in
      sym (pair_up_to id from (get_or ps i d)) ∙ elim (cases_lt i j) [
        | inl b ↦ below_too id from (get_or ps j d) (get_or ps i d) e (ordered i j d b l)
        | inr b ↦ let q : i ≡ j = omega arith in rw q e
      ]

  module _ (id from i : ℕ) (within : i ≤ length ps) (place : IsPartitionPoint (λ q. up_to id from q ≡ true) (λ q. up_to id from q ≡ false) ps i) where
    -- what is kept of the list is what stands before the place
    kept_before : front_of id from ps ≡ of_list id (take i ps)
    kept_before =
        ap (λ (qs : List Piece). filter (λ q. leb q.from from) (of_list id qs)) (sym (take-append-drop i ps))
        ∙ low_whole id from (take i ps) (drop i ps) (All-front (λ q. up_to id from q ≡ true) ps i place.0) (All-back (λ q. up_to id from q ≡ false) ps i place.1)

    pub none_before : i ≡ 0 → front_of id from ps ≡ []
    none_before e = rw e at kept_before

    -- the last one before the place, or none before it is one of the list
    module _ (m : ℕ) (next : i ≡ m + 1) where
      before : of_list id (take i ps) ≡ of_list id (take m ps) ++ cond (eqb (piece_at ps m).list id) (piece_at ps m ∷ []) []
      before = rw next (filter_more (λ (q : Piece). eqb q.list id) ps m no_piece (omega arith))

      is_last : eqb (piece_at ps m).list id ≡ true → IsLast id from ps m
      is_last e = record { within = omega arith; own = grind (arith, nat_tests); front = kept_before ∙ (rw e at before) }

      others : eqb (piece_at ps m).list id ≡ false → All (λ q. eqb q.list id ≡ false) (take m ps)
      others e k d l =
          let n = length-take-le m ps (omega arith) in
          let b : k < m = omega arith in
          let o = ordered k m no_piece b (omega arith) in
          let low = place.0 m no_piece (omega arith) (omega arith) in
          rw (get_or-take m ps k d b, get_or_default ps k d no_piece (omega arith)) (grind (arith, nat_tests))

      none_last : eqb (piece_at ps m).list id ≡ false → front_of id from ps ≡ []
      none_last e = kept_before ∙ (rw (e, filter_none _ _ (others e)) at before)

      pub last_there : (b : Bool) → b ≡ eqb (piece_at ps m).list id → MatchOption (then_some b m) (front_of id from ps ≡ []) (IsLast id from ps)
      last_there true e = is_last (sym e)
      last_there false e = none_last (sym e)

-- one more at its place
module _ (ps : List Piece) (p : Piece) (i : ℕ) (within : i ≤ length ps)
    (place : IsPartitionPoint (λ q. up_to p.list p.from q ≡ true) (λ q. up_to p.list p.from q ≡ false) ps i) where
  pub ordered_more : Ordered ps → Ordered (insert ps i p)
  ordered_more ordered = AllPairs-insert (λ q r. up_to r.list r.from q ≡ true) ps i ordered p within (λ k d h l. place.0 k d h l) (λ k d h l. stands_above p (get_or ps k d) (place.1 k d h l))

  pub put_holds : (id : ℕ) → of_list id (insert ps i p) ≡ put_in p id (of_list id ps)
  put_holds id =
      put_between p (take i ps) (drop i ps) (All-front (λ q. up_to p.list p.from q ≡ true) ps i place.0) (All-back (λ q. up_to p.list p.from q ≡ false) ps i place.1) id
      ∙ ap (λ (qs : List Piece). put_in p id (of_list id qs)) (take-append-drop i ps)

  -- what each list holds after an insert, whether there was room or not
  pub put_or_not : (n : ℕ) → i ≤ n → (b : Bool) (ts : List Piece) → ts ≡ cond b (insert ps (min i n) p) ps → (id : ℕ) → of_list id ts ≡ cond b (put_in p id (of_list id ps)) (of_list id ps)
  put_or_not n l true ts e id = let m : min i n ≡ i = omega arith in rw (e, m) (put_holds id)
  put_or_not n l false ts e id = rw e refl

-- a list's last fragment, as it is found
module _ (ps : List Piece) (id from : ℕ) where
  pub found : (i : ℕ) → IsLast id from ps i → Some (piece_at ps i) ≡ last_from from (of_list id ps)
  found i last = sym (ap last_piece last.front ∙ last_push (of_list id (take i ps)) (piece_at ps i))

  pub not_found : front_of id from ps ≡ [] → None ≡ last_from from (of_list id ps)
  unfolding last_piece
  not_found none = sym (ap last_piece none)

-- none has more nodes before it than the highest number
module _ (ps : List Piece) (fits : All (λ p. p.from < 2 ^ 32) ps) (id : ℕ) where
  pub all_low : front_of id 4294967295 ps ≡ of_list id ps
  all_low = filter_all (λ q. leb q.from 4294967295) (of_list id ps) (All-passed (λ q. eqb q.list id) (λ q. leb q.from 4294967295 ≡ true) ps (λ k d l e. let f = fits k d l in grind (arith, nat_tests)))

  module _ (none : front_of id 4294967295 ps ≡ []) where
    pub is_none : false ≡ some_of (of_list id ps)
    is_none = sym (ap some_of (sym all_low ∙ none))

  module _ (i : ℕ) (last : IsLast id 4294967295 ps i) where
    whole : of_list id ps ≡ of_list id (take i ps) ++ (piece_at ps i ∷ [])
    whole = sym all_low ∙ last.front

    pub is_some : true ≡ some_of (of_list id ps)
    is_some = sym (ap some_of whole ∙ some_push (of_list id (take i ps)) (piece_at ps i))
