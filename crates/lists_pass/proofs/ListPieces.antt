-- A list's pieces: one more for each fragment that is read.
use Rattle.std.proofs.Common.{◌≡◌, ℕ, ◌+◌, ◌≤◌, true, false, eqb, List, [], ◌∷◌, ◌++◌, refl, ◌∙◌, append_assoc, arith}
use Rattle.std.proofs.ByRecursion.{All-weaker, All-push}
use Rattle.std.proofs.lemmas.Bool.Decides.{nat_tests}
use Rattle.model.specs.declared.types.Span.{Span}
use Rattle.model.specs.Nodes.{Node}
use Rattle.pieces.specs.declared.piece.Piece.{Piece}
use Rattle.pieces.specs.Found.{of_list, some_of}
use Rattle.pieces.specs.Indexed.{piece, Pieced, ends, goes}
use Rattle.pieces.proofs.Kept.{behind_last}
use Rattle.tables.specs.declared.queue.Named.{Named}
use Rattle.lists_pass.specs.Parts.{Walked}
use Rattle.lists_pass.specs.ListPieces.{Puts, OthersStay, PiecesSoFar}

none_of : (ps : List Piece) → some_of ps ≡ false → ps ≡ []
none_of [] e = refl
none_of (p ∷ ps) e = absurd cc

pub pieces_none : (b : List ℕ) (id row : ℕ) (ps : List Piece) → some_of (of_list id ps) ≡ false → PiecesSoFar b id row 0 [] [] ps ps
pieces_none b id row ps e =
    let none = none_of (of_list id ps) e in
    record {
      goes = λ g gs ms rs d. rw none d;
      low = rw none tt;
      others = λ other n. refl;
    }

own_more : {b : List ℕ} {id row k : ℕ} {f : Span} {fs : List Span} {ns : List Node} {ps qs ts : List Piece} → PiecesSoFar b id row k fs ns ps qs → Puts (piece id k row f) qs ts
    → of_list id ts ≡ of_list id qs ++ (piece id k row f ∷ [])
own_more {id = id} {row} {k} {f} {qs = qs} s put =
    let same : eqb id id ≡ true = grind (arith, nat_tests) in
    put.rows id ∙ rw same (behind_last (piece id k row f) (of_list id qs) s.low)

pub others_stay : {b : List ℕ} {id row k : ℕ} {f : Span} {fs : List Span} {ns : List Node} {ps qs ts : List Piece} → PiecesSoFar b id row k fs ns ps qs → Puts (piece id k row f) qs ts
    → OthersStay id ps ts
others_stay s put other n = put.rows other ∙ rw n (s.others other n)

-- the last fragment's nodes were read
pub pieces_whole : {b : List ℕ} {id row k left m free : ℕ} {f : Span} {fs : List Span} {ns : List Node} {ps qs ts : List Piece} {was is : List Named} → PiecesSoFar b id row k fs ns ps qs
    → (w : Walked b left id f m free was is) → Puts (piece id k row f) qs ts → Pieced b id row 0 (fs ++ (f ∷ [])) (ns ++ w.nodes) (of_list id ts)
pieces_whole {id = id} {row} {k} {free = free} {f} s w put = rw (own_more s put) (s.goes f [] w.nodes (piece id k row f ∷ []) (ends free w.stand))

-- another fragment follows
pub pieces_more : {b : List ℕ} {id row k left m free : ℕ} {f : Span} {fs : List Span} {ns : List Node} {ps qs ts : List Piece} {was is : List Named} → PiecesSoFar b id row k fs ns ps qs
    → (w : Walked b left id f m free was is) → Puts (piece id k row f) qs ts → PiecesSoFar b id row (k + m) (fs ++ (f ∷ [])) (ns ++ w.nodes) ps ts
pieces_more {id = id} {row} {k} {m = m} {free} {f} {fs} {ns} {qs = qs} s w put =
    let own = own_more s put in
    let p = piece id k row f in
    record {
      goes = λ g gs rest rs d.
          rw (own, append_assoc fs (f ∷ []) (g ∷ gs), append_assoc ns w.nodes rest, append_assoc (of_list id qs) (p ∷ []) rs)
          (s.goes f (g ∷ gs) (w.nodes ++ rest) (p ∷ rs) (goes w.nodes rest free w.stand (rw w.number at d) refl));
      low = rw own (All-push (λ (q : Piece). q.from ≤ k + m) (of_list id qs) p
          (All-weaker (λ (q : Piece). q.from ≤ k) (λ q. q.from ≤ k + m) (λ q l. omega arith) (of_list id qs) s.low) (omega arith));
      others = others_stay s put;
    }
