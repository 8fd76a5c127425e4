-- The checks of a list's first fragment.
use Rattle.std.proofs.Common.{◌≡◌, ℕ, suc, ◌+◌, ◌-◌, ◌<◌, ◌≤◌, true, false, cond, ltb, leb, List, [], ◌∷◌, ◌++◌, map, length, Some, None, Ok, Err, Result, sym, ap, ◌∙◌, ap₂, inl, inr, append-nil, arith}
use Rattle.std.proofs.lemmas.Bool.{cases_lt}
use Rattle.std.proofs.lemmas.Bool.Decides.{nat_tests}
use Rattle.model.specs.declared.types.Span.{Span}
use Rattle.model.specs.declared.types.Fault.{Fault}
use Rattle.model.specs.Faults.{fault, refused, unless}
use Rattle.model.specs.ListFragments.{owner}
use Rattle.model.specs.Section.{NodeList}
use Rattle.model.specs.OpenedLog.{outside}
use Rattle.model.specs.OpenedLists.{list_from, taken}
use Rattle.counts.specs.declared.changes.Change.{Change}
use Rattle.counts.specs.Noted.{noted}
use Rattle.refusals.specs.declared.faults.InList.{InList}
use Rattle.tables.specs.declared.room.Row.{Row}
use Rattle.tables.specs.declared.queue.Named.{Named}
use Rattle.lists_pass.specs.declared.begun.Begun.{Begun}
use Rattle.refusals.specs.Refusals.{list_fault}
use Rattle.tables.specs.Rows.{row_of}
use Rattle.pieces.specs.declared.piece.Piece.{Piece}
use Rattle.pieces.specs.Found.{of_list, some_of}
use Rattle.lists_pass.specs.ListPieces.{SameIds}
use Rattle.refusals.specs.Checked.{told_by}
use Rattle.lists_pass.specs.FragmentChecks.{begin_checks}
use Rattle.refusals.specs.declared.faults.ListFault.{ListFault}
use Rattle.tables.specs.Queues.{pair_of}
use Rattle.refusals.proofs.Told.{unless_told, unless_none}
use Rattle.lists_pass.specs.Listings.{rest_of, list_of, Begins, Rests, Lists}

-- the list that a name stands for: the checks of its first fragment in the code's order, and what is left of it
list_first : (b : List ℕ) (end : ℕ) (cs : List Change) (before : List Span) (rows : List Row) (ps : List Piece) (ls : List NodeList) (q : Named) → length rows < 1024 → SameIds ls ps
    → list_of b end cs before rows ls q
    ≡ unless (begin_checks b end before ps cs q) (rest_of b end (noted cs (owner b q.span)) before (owner b q.span) ls q.span [] [])
unfolding list_of list_from rest_of
list_first b end cs before rows ps ls q l s =
    let e : ltb (length rows) 1024 ≡ true = grind (arith, nat_tests) in
    let same : taken (owner b q.span) ls ≡ some_of (of_list (owner b q.span) ps) = s (owner b q.span) in
    let none = append-nil before in
    elim (cases_lt (length before) 2048) [
      | inl lt ↦
          let m : 2048 - length before ≡ suc (2048 - (length before + (0 + 1))) = omega arith in
          let v : leb 2048 (length before) ≡ false = grind (arith, nat_tests) in
          rw (e, m, none, same, v)
      | inr ge ↦
          let m : 2048 - length before ≡ 0 = omega arith in
          let v : leb 2048 (length before) ≡ true = grind (arith, nat_tests) in
          rw (e, m, v)
    ]

pub listed_full : (b : List ℕ) (end : ℕ) (cs : List Change) (before : List Span) (rows : List Row) (ps : List Piece) (q : Named) (f : ListFault) → 1024 ≤ length rows
    → list_fault f 0 ≡ cond (outside 36 end q.span) (fault 5 3 q.field 0) (fault 13 3 q.field 0)
    → (ls : List NodeList) → SameIds ls ps → list_of b end cs before rows ls q ≡ refused (list_fault f 0)
unfolding list_of
listed_full b end cs before rows ps q f l h ls s =
    let e : ltb (length rows) 1024 ≡ false = grind (arith, nat_tests) in
    rw (e, h) (grind (arith, nat_tests))

pub listed_refused : (b : List ℕ) (end : ℕ) (cs : List Change) (before : List Span) (rows : List Row) (ps : List Piece) (q : Named) (e : Fault)
    → length rows < 1024 → told_by (begin_checks b end before ps cs q) ≡ Some e
    → (ls : List NodeList) → SameIds ls ps → list_of b end cs before rows ls q ≡ refused e
listed_refused b end cs before rows ps q e l t ls s = list_first b end cs before rows ps ls q l s ∙ unless_told (begin_checks b end before ps cs q) _ e t

-- what is left behind the first fragment's checks is what the whole list gives
list_begun : (b : List ℕ) (end : ℕ) (cs : List Change) (before : List Span) (rows : List Row) (ps : List Piece) (q : Named) (x : Begun) (n : ℕ) → length rows < 1024
    → Begins b cs ps q n x → told_by (begin_checks b end before ps cs q) ≡ None → (ls : List NodeList) → SameIds ls ps
    → list_of b end cs before rows ls q ≡ rest_of b end x.count before x.list ls x.fragment.span [] []
list_begun b end cs before rows ps q x n l k t ls s =
    rw (k.count, k.list, k.fragment) (list_first b end cs before rows ps ls q l s ∙ unless_none (begin_checks b end before ps cs q) _ t)

pub listed_rest : {T : Type 0} (b : List ℕ) (end : ℕ) (cs : List Change) (before there : List Span) (rows now : List Row) (ps these qs : List Piece) (q : Named) (x : Begun) (n : ℕ) (after : List Row)
    (all : List Span) (was that is : List Named) (r : Result T InList) → length rows < 1024 → Begins b cs ps q n x → told_by (begin_checks b end before ps cs q) ≡ None
    → there ≡ before → now ≡ rows → that ≡ was → these ≡ ps → Rests b end there x now after these qs all that is r → Lists b end cs before rows q after ps qs all was is r
listed_rest b end cs before there rows now ps these qs q x n after all was that is (Ok u) l k t a c d p h = record {
  list = h.list;
  few = l;
  new = rw h.id k.new;
  row = h.row ∙ ap₂ (λ rs ss. rs ++ (row_of (length ss) h.list ∷ [])) c a;
  held = h.held ∙ ap (λ ss. ss ++ h.list.fragments) a;
  pieces = rw (c, p) at h.pieces;
  fewer = h.fewer;
  names = λ ns e. h.names ns (ap (map pair_of) d ∙ e);
  gives = λ ls s. list_begun b end cs before rows ps q x n l k t ls s ∙ ap (λ ss. rest_of b end x.count ss x.list ls x.fragment.span [] []) (sym a) ∙ h.gives ls;
}
listed_rest b end cs before there rows now ps these qs q x n after all was that is (Err y) l k t a c d p h = λ ls s.
    list_begun b end cs before rows ps q x n l k t ls s ∙ ap (λ ss. rest_of b end x.count ss x.list ls x.fragment.span [] []) (sym a) ∙ h ls
