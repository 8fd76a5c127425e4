-- A list's fragments one after the other: what is left to read gives what the whole gives.
use Rattle.std.proofs.Common.{◌≡◌, ℕ, ◌+◌, ◌-◌, ◌<◌, true, false, cond, eqb, List, [], ◌∷◌, ◌++◌, length, take, IsErrAnd, Some, None, Err, Result, sym, refl, ap, ◌∙◌, ap₂, append_assoc, arith}
use lib.Seq.{take-append_seam}
use Rattle.std.proofs.lemmas.List.{length-append, length-take}
use Rattle.std.proofs.lemmas.Bool.Decides.{nat_tests}
use Rattle.model.specs.declared.types.Span.{Span}
use Rattle.model.specs.declared.types.Fault.{Fault}
use Rattle.model.specs.Faults.{refused, unless}
use Rattle.model.specs.References.{span_at}
use Rattle.model.specs.Nodes.{Node}
use Rattle.model.specs.ListFragments.{nodes_from, nodes_to}
use Rattle.model.specs.Section.{NodeList}
use Rattle.model.specs.OpenedLists.{counted, uncounted, nodes_at, list_goes, list_from}
use Rattle.refusals.specs.declared.faults.InList.{InList}
use Rattle.tables.specs.declared.room.Row.{Row}
use Rattle.tables.specs.declared.queue.Named.{Named}
use Rattle.lists_pass.specs.declared.begun.Begun.{Begun}
use Rattle.tables.specs.Queues.{names_of}
use Rattle.pieces.specs.declared.piece.Piece.{Piece}
use Rattle.pieces.specs.Found.{of_list, some_of}
use Rattle.pieces.specs.Indexed.{piece}
use Rattle.lists_pass.specs.Parts.{Walked}
use Rattle.refusals.specs.Checked.{told_by}
use Rattle.lists_pass.specs.FragmentChecks.{next_checks}
use Rattle.lists_pass.specs.ListPieces.{Puts}
use Rattle.lists_pass.specs.Listings.{rest_of, Listing, Rested}
use Rattle.tables.proofs.Queued.{names_none, names_more}
use Rattle.lists_pass.proofs.Walkings.{names_of_none, names_of_both}
use Rattle.refusals.proofs.Told.{unless_told, unless_none}
use Rattle.std.proofs.lemmas.Result.{err_from_is_err_and}
use Rattle.lists_pass.proofs.ListSteps.{later}
use Rattle.lists_pass.proofs.ListPieces.{pieces_none, others_stay, pieces_whole, pieces_more}

pub listing_none : (b : List ℕ) (end : ℕ) (before : List Span) (x : Begun) (at : ℕ) (ps : List Piece) (all : List Span) (was : List Named)
    → all ≡ before ++ (x.fragment.span ∷ []) → some_of (of_list x.list ps) ≡ false → length ps < length all → Listing b end before x at x.fragment.span 1 0 ps ps all was was
listing_none b end before x at ps all was h e l = record {
  fs = [];
  nodes = [];
  sequence = refl;
  number = refl;
  held = h;
  pieces = pieces_none b x.list at ps e;
  fewer = l;
  names = rw names_of_none (names_none was);
  goes = λ ls. refl;
}

-- a fragment's nodes were read: what the whole list gives is what follows them
read_on : {b : List ℕ} {end : ℕ} {before : List Span} {x : Begun} {f : Span} {n k m free : ℕ} {all : List Span} {was is after : List Named} {at : ℕ} {ps qs : List Piece}
    (i : Listing b end before x at f n k ps qs all was is) (p : Walked b (x.count - k) x.list f m free is after) (ls : List NodeList)
    → rest_of b end x.count before x.list ls x.fragment.span [] []
    ≡ list_goes (list_from (2048 - (length before + n)) b end x.count ls before x.list) b x.list f i.fs
    (cond (eqb m (x.count - k)) (counted (i.nodes ++ p.nodes) free) (uncounted (i.nodes ++ p.nodes)))
unfolding rest_of
read_on i p ls = i.goes ls ∙ rw (← i.number, p.gives i.nodes, ← i.sequence)

-- the count is not reached: what follows is the next fragment, with its checks
goes_on : {b : List ℕ} {end : ℕ} {before : List Span} {x : Begun} {f : Span} {n k m free : ℕ} {all : List Span} {was is after : List Named} {at : ℕ} {ps qs : List Piece}
    (i : Listing b end before x at f n k ps qs all was is) (p : Walked b (x.count - k) x.list f m free is after) → k + m < x.count → (ls : List NodeList)
    → rest_of b end x.count before x.list ls x.fragment.span [] []
    ≡ unless (next_checks b end all x.list n f) (rest_of b end x.count before x.list ls (span_at b (nodes_to f)) (i.fs ++ (f ∷ [])) (i.nodes ++ p.nodes))
goes_on {b} {end} {before} {x} {f} {n} {k} {m} {all = all} i p l ls =
    let z : eqb m (x.count - k) ≡ false = grind (arith, nat_tests) in
    let s = i.sequence in
    read_on i p ls
    ∙ rw z (later (2048 - (length before + n)) b end x.count ls before x.list (nodes_to f) (span_at b (nodes_to f)) (i.fs ++ (f ∷ [])) (i.nodes ++ p.nodes) all n
    (omega arith) (omega (arith, length-append i.fs (f ∷ []))) i.held refl)

pub listing_more : {b : List ℕ} {end : ℕ} {before : List Span} {x : Begun} {f : Span} {n k m free : ℕ} {all : List Span} {was is after : List Named} {g : Span} {more : List Span} {at : ℕ}
    {ps qs ts : List Piece} → Listing b end before x at f n k ps qs all was is → Walked b (x.count - k) x.list f m free is after → k + m < x.count → g ≡ span_at b (nodes_to f)
    → told_by (next_checks b end all x.list n f) ≡ None → more ≡ all ++ (g ∷ []) → Puts (piece x.list k at f) qs ts
    → Listing b end before x at g (n + 1) (k + m) ps ts more was after
listing_more {b} {end} {before} {x} {f} {n} {k} {m} {all = all} {was} {is} {after} {g} {ps = ps} {ts = ts} i p l e t h put =
    let s = i.sequence in
    record {
      fs = i.fs ++ (f ∷ []);
      nodes = i.nodes ++ p.nodes;
      sequence = omega (arith, length-append i.fs (f ∷ []));
      number = omega (arith, length-append i.nodes p.nodes, i.number, p.number);
      held = h ∙ ap (λ a. a ++ (g ∷ [])) i.held ∙ append_assoc before (i.fs ++ (f ∷ [])) (g ∷ []);
      pieces = pieces_more i.pieces p put;
      fewer = omega (arith, i.fewer, put.longer, ap length h, length-append all (g ∷ []));
      names = rw (names_of_both i.nodes p.nodes) (names_more was is after (names_of i.nodes) (names_of p.nodes) i.names p.names);
      goes = λ ls. rw e (goes_on i p l ls ∙ unless_none (next_checks b end all x.list n f) _ t);
    }

pub listing_whole : {b : List ℕ} {end : ℕ} {before : List Span} {x : Begun} {f : Span} {n k m free : ℕ} {all : List Span} {was is after : List Named} {rows there more : List Row} {row : Row}
    {ps qs ts : List Piece} → Listing b end before x (length rows) f n k ps qs all was is → Walked b (x.count - k) x.list f m free is after → k + m ≡ x.count → length before ≡ x.first
    → more ≡ there ++ (row ∷ []) → there ≡ rows → row ≡ record { id = x.list; first = x.first; fragments = n; nodes = k + m; free = free }
    → Puts (piece x.list k (length rows) f) qs ts → Rested b end before x rows more ps ts all was after
listing_whole {x} {f} {n} {k} {m} {free} {was = was} {is} {after} i p l a h o e put =
    let s = i.sequence in
    let z : eqb m (x.count - k) ≡ true = grind (arith, nat_tests) in
    let d : n ≡ length (i.fs ++ (f ∷ [])) = omega (arith, length-append i.fs (f ∷ [])) in
    let c : k + m ≡ length (i.nodes ++ p.nodes) = omega (arith, length-append i.nodes p.nodes, i.number, p.number) in
    record {
      list = record { id = x.list; fragments = i.fs ++ (f ∷ []); nodes = i.nodes ++ p.nodes; free = free };
      id = refl;
      row = h ∙ ap₂ (λ rs r. rs ++ (r ∷ [])) o (e ∙ cc);
      held = i.held;
      pieces = record { own = pieces_whole i.pieces p put; others = others_stay i.pieces put };
      fewer = omega (arith, i.fewer, put.longer);
      names = rw (names_of_both i.nodes p.nodes) (names_more was is after (names_of i.nodes) (names_of p.nodes) i.names p.names);
      gives = λ ls. read_on i p ls ∙ rw z;
    }

pub listing_bad : {b : List ℕ} {end : ℕ} {before : List Span} {x : Begun} {f : Span} {n k : ℕ} {at : ℕ} {ps qs : List Piece} {all : List Span} {was is : List Named} {e : Fault}
    → Listing b end before x at f n k ps qs all was is → ((ns : List Node) → nodes_at (x.count - k) b x.list (nodes_to f) (nodes_from f) ns ≡ refused e)
    → (ls : List NodeList) → rest_of b end x.count before x.list ls x.fragment.span [] [] ≡ refused e
unfolding rest_of
listing_bad i h ls = i.goes ls ∙ rw (← i.number, h i.nodes)

pub listing_refused : {b : List ℕ} {end : ℕ} {before : List Span} {x : Begun} {f : Span} {n k m free : ℕ} {all : List Span} {was is after : List Named} {e : Fault} {at : ℕ} {ps qs : List Piece}
    → Listing b end before x at f n k ps qs all was is → Walked b (x.count - k) x.list f m free is after → k + m < x.count
    → told_by (next_checks b end all x.list n f) ≡ Some e → (ls : List NodeList) → rest_of b end x.count before x.list ls x.fragment.span [] [] ≡ refused e
listing_refused {b} {end} {x = x} {f} {n} {all = all} {e = e} i p l t ls = goes_on i p l ls ∙ unless_told (next_checks b end all x.list n f) _ e t

-- a refusal handed on is the same refusal
pub handed_on : {T : Type 0} (r : Result T InList) (e : InList) → IsErrAnd r (λ y. y ≡ e) → r ≡ Err e
handed_on r e h = let (y, is, same) = err_from_is_err_and r h in is ∙ ap Err same

-- where a list's first fragment stands
pub taken_first : (items : List Span) (n : ℕ) (f : Span) → items ≡ take n items ++ (f ∷ []) → length (take n items) ≡ n
taken_first items n f h = omega (arith, ap length h, length-take n items, length-append (take n items) (f ∷ []))

pub held_first : (items before : List Span) (f g : Span) (n : ℕ) → items ≡ before ++ (g ∷ []) → f ≡ g → n ≡ length before → items ≡ take n items ++ (f ∷ [])
held_first items before f g n h e m =
    let t : take n items ≡ before = ap₂ take m h ∙ take-append_seam before (g ∷ []) in
    h ∙ ap₂ (λ xs y. xs ++ (y ∷ [])) (sym t) (sym e)

pub first_before : (items before : List Span) (g : Span) (n : ℕ) → items ≡ before ++ (g ∷ []) → n ≡ length before → take n items ≡ before
first_before items before g n h m = ap₂ take m h ∙ take-append_seam before (g ∷ [])
