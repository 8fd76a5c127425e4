-- What filters keep of a list's fragments up to a place and behind it, and of one more there.
use Rattle.std.proofs.Common.{◌≡◌, ℕ, Bool, true, false, not, ◌≤◌, eqb, leb, List, [], ◌∷◌, ◌++◌, is_some, Some, None, filter, Option, refl, ap, ◌∙◌, arith}
use Rattle.std.specs.List.{All, AllByRecursion}
use Rattle.std.proofs.lemmas.List.Elements.{All-from_recursion, filter-append}
use Rattle.std.proofs.ByRecursion.{All-weaker}
use Rattle.std.proofs.lemmas.List.{append-nil}
use Rattle.std.proofs.lemmas.Bool.Decides.{nat_tests}
use Rattle.bounded.proofs.Filters.{filter_all, filter_none, All-passed}
use Rattle.pieces.specs.declared.piece.Piece.{Piece}
use Rattle.pieces.specs.Found.{of_list, some_of, last_piece, behind, put_in}
use Rattle.pieces.specs.Placed.{up_to}

-- the last of some
pub last_push : (ps : List Piece) (p : Piece) → last_piece (ps ++ (p ∷ [])) ≡ Some p
unfolding last_piece
last_push [] p = refl
last_push (q ∷ ps) p = rw (last_push ps p)

pub some_last : (ps : List Piece) → is_some (last_piece ps) ≡ some_of ps
unfolding last_piece
some_last [] = refl
some_last (p ∷ ps) = elim (last_piece ps) as (λ (o : Option Piece). is_some (elim o [ None ↦ Some p | Some q ↦ Some q ]) ≡ true) [ None ↦ refl | Some q ↦ refl ]

pub some_push : (ps : List Piece) (p : Piece) → some_of (ps ++ (p ∷ [])) ≡ true
some_push [] p = refl
some_push (q ∷ ps) p = refl

-- of the list itself, what does not stand above a place has no more nodes before it, and what does has more
module _ (id from : ℕ) where
  no_more : (b : Bool) (xs : List Piece) → All (λ q. up_to id from q ≡ b) xs → All (λ q. leb q.from from ≡ b) (of_list id xs)
  no_more b xs a = All-passed (λ q. eqb q.list id) (λ q. leb q.from from ≡ b) xs (λ k d l e. let u = a k d l in grind (arith, nat_tests))

  module _ (xs ys : List Piece) (front : All (λ q. up_to id from q ≡ true) xs) (back : All (λ q. up_to id from q ≡ false) ys) where
    whole : of_list id (xs ++ ys) ≡ of_list id xs ++ of_list id ys
    whole = filter-append (λ q. eqb q.list id) xs ys

    pub low_whole : filter (λ q. leb q.from from) (of_list id (xs ++ ys)) ≡ of_list id xs
    low_whole =
        ap (filter (λ q. leb q.from from)) whole
        ∙ filter-append (λ q. leb q.from from) (of_list id xs) (of_list id ys)
        ∙ rw (filter_all (λ q. leb q.from from) (of_list id xs) (no_more true xs front), filter_none (λ q. leb q.from from) (of_list id ys) (no_more false ys back)) (append-nil (of_list id xs))

    pub high_whole : filter (λ q. not (leb q.from from)) (of_list id (xs ++ ys)) ≡ of_list id ys
    high_whole =
        let none = filter_none (λ q. not (leb q.from from)) (of_list id xs) (λ k d l. ap not (no_more true xs front k d l)) in
        let all = filter_all (λ q. not (leb q.from from)) (of_list id ys) (λ k d l. ap not (no_more false ys back k d l)) in
        ap (filter (λ q. not (leb q.from from))) whole
        ∙ filter-append (λ q. not (leb q.from from)) (of_list id xs) (of_list id ys)
        ∙ rw (none, all) refl

-- one more at its place
pub put_between : (p : Piece) (xs ys : List Piece) → All (λ q. up_to p.list p.from q ≡ true) xs → All (λ q. up_to p.list p.from q ≡ false) ys
    → (id : ℕ) → of_list id (xs ++ (p ∷ ys)) ≡ put_in p id (of_list id (xs ++ ys))
put_between p xs ys front back id =
    let more = filter-append (λ (q : Piece). eqb q.list id) xs (p ∷ ys) in
    let less = filter-append (λ (q : Piece). eqb q.list id) xs ys in
    let low = low_whole p.list p.from xs ys front back in
    let high = high_whole p.list p.from xs ys front back in
    grind (arith, nat_tests)

-- behind pieces with no more nodes before them, one more is the last
pub behind_last : (p : Piece) (ps : List Piece) → AllByRecursion (λ q. q.from ≤ p.from) ps → behind p ps ≡ ps ++ (p ∷ [])
behind_last p ps low =
    let passed = All-from_recursion (λ (q : Piece). leb q.from p.from ≡ true) ps
    (All-weaker (λ (q : Piece). q.from ≤ p.from) (λ q. leb q.from p.from ≡ true) (λ q l. grind (arith, nat_tests)) ps low) in
    rw (filter_all (λ (q : Piece). leb q.from p.from) ps passed, filter_none (λ (q : Piece). not (leb q.from p.from)) ps (λ k d l. ap not (passed k d l))) refl
