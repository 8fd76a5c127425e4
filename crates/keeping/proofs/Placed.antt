-- The fragments of a list with those that a draft made, and the nodes in them.
use Rattle.std.proofs.Common.{◌≡◌, ℕ, suc, ◌+◌, ◌≤◌, eqb, List, [], ◌∷◌, ◌++◌, map, length, refl, ap, ◌∙◌, sym, subst, inl, inr, append_assoc, append-nil, arith}
use Rattle.std.specs.List.{AllByRecursion}
use Rattle.std.proofs.ByRecursion.{All-weaker}
use Rattle.std.proofs.lemmas.Bool.{cases_Bool}
use Rattle.std.proofs.lemmas.Bool.Decides.{nat_tests}
use Rattle.model.specs.declared.types.Span.{Span}
use Rattle.model.specs.Nodes.{Node}
use Rattle.model.specs.ListFragments.{nodes_from, nodes_to}
use Rattle.model.specs.Means.{Apart, Pairwise, Inside, Spread, within, across}
use Rattle.meaning.proofs.Base.{all_front}
use Rattle.commits.specs.Parts.{Part, part, parts_of, Parted}
use Rattle.commits.specs.Parts.{ends as part_ends, goes as part_goes}
use Rattle.commits.proofs.Parting.{nodes_back, same_split}
use Rattle.pieces.specs.declared.piece.Piece.{Piece}
use Rattle.pieces.specs.Found.{of_list, behind}
use Rattle.pieces.specs.Indexed.{piece, Pieced, ends, goes}
use Rattle.pieces.proofs.Kept.{behind_last}
use Rattle.drafts.specs.Lays.{part_of}
use Rattle.keeping.specs.Pieces.{put_all}

-- with and without bytes -----------------------------------------------------------------------------------------------------

pub pieced_parted : {b : List ℕ} {id row from : ℕ} {fs : List Span} {ns : List Node} {ps : List Piece} → Pieced b id row from fs ns ps → Parted id from fs ns (map part_of ps)
pieced_parted {b} (ends {f = f} {ns = ns} q w) = part_ends q (nodes_back b (nodes_to f) (nodes_from f) ns q w)
pieced_parted {b} (goes {f = f} ns ms p w more e) = part_goes ns ms p (nodes_back b (nodes_to f) (nodes_from f) ns p w) (pieced_parted more) e

pub pieced_rows : {b : List ℕ} {id row from : ℕ} {fs : List Span} {ns : List Node} {ps : List Piece} → Pieced b id row from fs ns ps → AllByRecursion (λ p. p.row ≡ row) ps
pieced_rows (ends q w) = (refl, tt)
pieced_rows (goes ns ms p w more e) = (refl, pieced_rows more)

pub parted_some : {id from : ℕ} {fs : List Span} {ns : List Node} {ps : List Part} → Parted id from fs ns ps → (length ps ≡ length fs) × (1 ≤ length fs)
parted_some (part_ends q w) = (refl, omega arith)
parted_some (part_goes ns ms p w more e) = let (x, y) = parted_some more in (ap suc x, omega arith)

piece_is : (id from row : ℕ) (f : Span) (p : Piece) → part_of p ≡ part id from f → p.row ≡ row → p ≡ piece id from row f
piece_is id from row f p e r =
    let a : p.list ≡ id = ap (λ (x : Part). x.list) e in
    let c : p.from ≡ from = ap (λ (x : Part). x.from) e in
    let d : p.fragment ≡ f = ap (λ (x : Part). x.fragment) e in
    rw (← a, ← c, ← d, ← r) refl

-- a list that stands in c has its nodes where they are parted
pub parted_pieced : (c : List ℕ) (end id row : ℕ) {from : ℕ} {fs : List Span} {ns : List Node} {ps : List Part} {q : ℕ} → Spread c fs ns q → Pairwise Apart fs → AllByRecursion (Inside 36 end) fs
    → Parted id from fs ns ps → (qs : List Piece) → ps ≡ map part_of qs → AllByRecursion (λ p. p.row ≡ row) qs → Pieced c id row from fs ns qs
parted_pieced c end id row {from} (within {f = f} {ns = ns} {q = q} w) a i (part_ends p k) [] e r = absurd cc
parted_pieced c end id row {from} (within {f = f} {ns = ns} {q = q} w) a i (part_ends p k) (x ∷ []) e (r, _) =
    let h : part_of x ≡ part id from f = cc in
    subst (λ z. Pieced c id row from (f ∷ []) ns (z ∷ [])) (sym (piece_is id from row f x h r)) (ends q w)
parted_pieced c end id row {from} (within {f = f} {ns = ns} {q = q} w) a i (part_ends p k) (x ∷ (y ∷ qs)) e r = absurd cc
parted_pieced c end id row {from} (across {f = f} {g = g} {gs = gs} {all = all} {q = q} ns ms p h o v t u) a i (part_goes ns' ms' p' k t' u') [] e r = absurd cc
parted_pieced c end id row {from} (across {f = f} {g = g} {gs = gs} {all = all} {q = q} ns ms p h o v t u) (a, as') ((i0, i1), is) (part_goes {ps = ps} ns' ms' p' k t' u') (x ∷ qs) e (r, rs) =
    let e0 : part_of x ≡ part id from f = cc in
    let e1 : ps ≡ map part_of qs = cc in
    let (y, z) = same_split c end id f (g ∷ gs) (nodes_from f) ns ns' ms ms' p p' q (omega arith) (omega arith) h k t t' (sym u ∙ u') a is i0 in
    let more : Pieced c id row (from + length ns') (g ∷ gs) ms' qs = parted_pieced c end id row (subst (λ z. Spread c (g ∷ gs) z q) z t) as' is t' qs e1 rs in
    let more1 : Pieced c id row (from + length ns) (g ∷ gs) ms qs
    = subst (λ n. Pieced c id row (from + length n) (g ∷ gs) ms qs) (sym y) (subst (λ n. Pieced c id row (from + length ns') (g ∷ gs) n qs) (sym z) more) in
    subst (λ z. Pieced c id row from (f ∷ (g ∷ gs)) all (z ∷ qs)) (sym (piece_is id from row f x e0 r)) (goes ns ms p h more1 u)

-- put in one after the other -----------------------------------------------------------------------------------------------

abbrev pub Ascend : List Piece → Type 0
Ascend ps = Pairwise (λ p q. p.from ≤ q.from) ps

pieced_from : {b : List ℕ} {id row from : ℕ} {fs : List Span} {ns : List Node} {ps : List Piece} → Pieced b id row from fs ns ps → AllByRecursion (λ p. from ≤ p.from) ps
pieced_from (ends {from = from} q w) = (omega arith, tt)
pieced_from (goes {from = from} {ps = ps} ns ms p w more e) =
    (omega arith, All-weaker (λ (p : Piece). from + length ns ≤ p.from) (λ p. from ≤ p.from) (λ p l. omega arith) ps (pieced_from more))

pub pieced_ascend : {b : List ℕ} {id row from : ℕ} {fs : List Span} {ns : List Node} {ps : List Piece} → Pieced b id row from fs ns ps → Ascend ps
pieced_ascend (ends q w) = (tt, tt)
pieced_ascend (goes {from = from} {ps = ps} ns ms p w more e) =
    (All-weaker (λ (p : Piece). from + length ns ≤ p.from) (λ p. from ≤ p.from) (λ p l. omega arith) ps (pieced_from more), pieced_ascend more)

pub put_all_is : (ps : List Piece) (id : ℕ) (qs : List Piece) → Ascend (qs ++ of_list id ps) → put_all ps id qs ≡ qs ++ of_list id ps
unfolding put_all
put_all_is [] id qs a = sym (append-nil qs)
put_all_is (p ∷ ps) id qs a = elim (cases_Bool (eqb p.list id)) [
  | inl e ↦
      let a1 : Ascend (qs ++ (p ∷ of_list id ps)) = rw e at a in
      let last : behind p qs ≡ qs ++ (p ∷ []) = behind_last p qs (low qs (of_list id ps) p a1) in
      let one = append_assoc qs (p ∷ []) (of_list id ps) in
      rw (e, last) (put_all_is ps id (qs ++ (p ∷ [])) (subst (λ z. Ascend z) (sym one) a1) ∙ one)
  | inr e ↦ rw e (put_all_is ps id qs (rw e at a))
]
  where
    low : (qs rs : List Piece) (p : Piece) → Ascend (qs ++ (p ∷ rs)) → AllByRecursion (λ q. q.from ≤ p.from) qs
    low [] rs p a = tt
    low (q ∷ qs) rs p (x, a) = let (u, v) = all_front (λ (r : Piece). q.from ≤ r.from) qs (p ∷ rs) x in (v.0, low qs rs p a)

-- of one list ----------------------------------------------------------------------------------------------------------------

pub parts_are : (id : ℕ) (ps : List Piece) → parts_of id (map part_of ps) ≡ map part_of (of_list id ps)
parts_are id [] = refl
parts_are id (p ∷ ps) = elim (cases_Bool (eqb p.list id)) [
  | inl e ↦ rw e (ap (λ qs. part_of p ∷ qs) (parts_are id ps))
  | inr e ↦ rw e (parts_are id ps)
]

-- what holds of all fragments holds of a list's
pub all_of : (P Q : Piece → Type 0) (id : ℕ) (ps : List Piece) → ((p : Piece) → P p → p.list ≡ id → Q p) → AllByRecursion P ps → AllByRecursion Q (of_list id ps)
all_of P Q id [] k a = tt
all_of P Q id (p ∷ ps) k (x, a) = elim (cases_Bool (eqb p.list id)) [
  | inl e ↦ rw e (k p x (grind (arith, nat_tests)), all_of P Q id ps k a)
  | inr e ↦ rw e (all_of P Q id ps k a)
]
