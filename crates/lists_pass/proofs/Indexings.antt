-- The lists that are found again, and one more.
use Rattle.std.proofs.Common.{◌≡◌, ℕ, zero, suc, true, false, ◌||◌, eqb, List, [], ◌∷◌, ◌++◌, length, Some, slice_get, refl, sym, ap, ◌∙◌, inl, inr, arith}
use Rattle.std.specs.List.{AllByRecursion}
use Rattle.std.proofs.ByRecursion.{All-weaker, All-push}
use Rattle.std.proofs.lemmas.List.{length-append}
use Rattle.std.proofs.lemmas.Bool.{cases_Bool, eqb-true}
use Rattle.std.proofs.lemmas.Bool.Decides.{nat_tests}
use Rattle.model.specs.declared.types.Span.{Span}
use Rattle.model.specs.Nodes.{Node}
use Rattle.model.specs.Section.{NodeList}
use Rattle.model.specs.OpenedLists.{taken}
use Rattle.pieces.specs.declared.piece.Piece.{Piece}
use Rattle.pieces.specs.Found.{of_list, some_of}
use Rattle.pieces.specs.Indexed.{Pieced, ends, goes}
use Rattle.tables.specs.declared.room.Row.{Row}
use Rattle.tables.specs.Kept.{RowOf, Found, Indexed}
use Rattle.lists_pass.specs.ListPieces.{SameIds, HasPieces}

-- a list has pieces
pieced_some : {b : List ℕ} {id row from : ℕ} {fs : List Span} {ns : List Node} {ps : List Piece} → Pieced b id row from fs ns ps → some_of ps ≡ true
pieced_some (ends q s) = refl
pieced_some (goes ns ms p s d e) = refl

-- the lists with pieces are those that are found
taken_some : (b : List ℕ) (rows : List Row) (ps : List Piece) (id : ℕ) (ls : List NodeList) → AllByRecursion (Found b rows ps) ls → taken id ls ≡ true → some_of (of_list id ps) ≡ true
taken_some b rows ps id [] a e = absurd cc
taken_some b rows ps id (l ∷ ls) (f, a) e = elim (cases_Bool (eqb l.id id)) [
  | inl is ↦ rw (← eqb-true l.id id is) (pieced_some f.pieces)
  | inr is ↦ taken_some b rows ps id ls a (rw is at e)
]

pub same_ids : {b : List ℕ} {ls : List NodeList} {rows : List Row} {ps : List Piece} → Indexed b ls rows ps → SameIds ls ps
same_ids {b} {ls} {rows} {ps} i id = elim (cases_Bool (taken id ls)) [
  | inl e ↦ e ∙ sym (taken_some b rows ps id ls i.each e)
  | inr e ↦ e ∙ sym (ap some_of (i.none id e))
]

pub indexed_none : (b : List ℕ) (rows : List Row) (ps : List Piece) → rows ≡ [] → ps ≡ [] → Indexed b [] rows ps
indexed_none b rows ps r p = rw (r, p) (record { each = tt; none = λ id e. refl; number = refl })

taken_push : (id : ℕ) (ls : List NodeList) (m : NodeList) → taken id (ls ++ (m ∷ [])) ≡ taken id ls || eqb m.id id
taken_push id [] m = grind (arith, nat_tests)
taken_push id (l ∷ ls) m = let ih = taken_push id ls m in grind (arith, nat_tests)

get_before : (rows more : List Row) (i : ℕ) (r : Row) → slice_get rows i ≡ Some r → slice_get (rows ++ more) i ≡ Some r
get_before [] more i r e = absurd cc
get_before (s ∷ rows) more zero r e = e
get_before (s ∷ rows) more (suc i) r e = get_before rows more i r e

get_last : (rows : List Row) (r : Row) → slice_get (rows ++ (r ∷ [])) (length rows) ≡ Some r
get_last [] r = refl
get_last (s ∷ rows) r = get_last rows r

-- one list more
module _ {b : List ℕ} {rows : List Row} {ps qs : List Piece} (m : NodeList) (r : Row) (is : RowOf m r) (has : HasPieces b (length rows) m ps qs) (new : some_of (of_list m.id ps) ≡ false) where
  found_still : (l : NodeList) → Found b rows ps l → Found b (rows ++ (r ∷ [])) qs l
  found_still l f =
      let other : eqb m.id l.id ≡ false = elim (cases_Bool (eqb m.id l.id)) [
        | inl e ↦ let some = pieced_some f.pieces in let same = eqb-true m.id l.id e in absurd cc
        | inr e ↦ e
      ] in
      record {
        at = f.at;
        row = f.row;
        there = get_before rows (r ∷ []) f.at f.row f.there;
        is_row = f.is_row;
        pieces = rw (has.others l.id other) f.pieces;
      }

  pub indexed_more : {ls : List NodeList} → Indexed b ls rows ps → Indexed b (ls ++ (m ∷ [])) (rows ++ (r ∷ [])) qs
  indexed_more {ls} i = record {
    each = All-push (Found b (rows ++ (r ∷ [])) qs) ls m (All-weaker (Found b rows ps) (Found b (rows ++ (r ∷ [])) qs) found_still ls i.each)
        (record { at = length rows; row = r; there = get_last rows r; is_row = is; pieces = has.own });
    none = λ id t. let p = taken_push id ls m in
        let before : taken id ls ≡ false = grind (arith, nat_tests) in
        let other : eqb m.id id ≡ false = grind (arith, nat_tests) in
        has.others id other ∙ i.none id before;
    number = omega (arith, i.number, length-append rows (r ∷ []), length-append ls (m ∷ []));
  }
