-- The fragment that is found for an index of a list, and the node in it.
use Rattle.std.proofs.Common.{◌≡◌, ℕ, ◌+◌, ◌-◌, ◌^◌, ◌<◌, ◌≤◌, true, false, eqb, leb, List, [], ◌∷◌, ◌++◌, length, get_or, Some, Option, filter, refl, ap, ap₂, ◌∙◌, sym, subst, inl, inr, arith}
use Rattle.std.specs.List.{AllByRecursion}
use Rattle.std.proofs.lemmas.List.{length-append, get_or_append_left, get_or-append-add}
use Rattle.std.proofs.lemmas.Bool.{cases_Bool, cases_lt, le-leb, lt-leb}
use Rattle.std.proofs.lemmas.Bool.Decides.{nat_tests}
use Rattle.model.specs.declared.types.Span.{Span}
use Rattle.model.specs.References.{end_of}
use Rattle.model.specs.Nodes.{Node}
use Rattle.model.specs.ListFragments.{nodes_from, nodes_to}
use Rattle.model.specs.Section.{NodeList}
use Rattle.model.specs.OpenedLists.{taken}
use Rattle.model.specs.Means.{Inside, Good, Nodes}
use Rattle.model.specs.Looks.{no_node, nodes_of}
use Rattle.pieces.specs.declared.piece.Piece.{Piece}
use Rattle.pieces.specs.Found.{last_piece, last_from}
use Rattle.pieces.specs.Indexed.{piece, Pieced, ends, goes}

-- the node n has an index in its list, and stands in a fragment
pub record Placed (b : List ℕ) (end index : ℕ) (n : Node) (p : Piece) : Type 0 where
  pub inside : Inside 36 end p.fragment
  pub nodes : List Node
  pub behind : ℕ
  pub stand : Nodes b (nodes_to p.fragment) (nodes_from p.fragment) nodes behind
  pub below : index - p.from < length nodes
  pub node : n ≡ get_or nodes (index - p.from) no_node

-- the fragment found for the index is that one
abbrev pub PlacedBy : List ℕ → ℕ → ℕ → Node → Option Piece → Type 0
PlacedBy b end index n found = (p : Piece) × (found ≡ Some p) × Placed b end index n p

-- fragments with more nodes before them are left out
left_out : {b : List ℕ} {id row from : ℕ} {fs : List Span} {ns : List Node} {ps : List Piece} (index : ℕ) → Pieced b id row from fs ns ps → index < from → filter (λ p. leb p.from index) ps ≡ []
left_out {from = from} index (ends q w) h = let t : leb from index ≡ false = lt-leb from index h in rw t
left_out {from = from} index (goes ns ms p w rest e) h = let t : leb from index ≡ false = lt-leb from index h in rw t (left_out index rest (omega arith))

-- a node of the first fragment, and one behind it
in_front : (all ns ms : List Node) (i : ℕ) → all ≡ ns ++ ms → i < length ns → get_or all i no_node ≡ get_or ns i no_node
in_front all ns ms i e h = ap (λ xs. get_or xs i no_node) e ∙ get_or_append_left ns ms no_node i h

behind_front : (all ns ms : List Node) (i j : ℕ) → all ≡ ns ++ ms → i ≡ length ns + j → get_or all i no_node ≡ get_or ms j no_node
behind_front all ns ms i j e h = ap₂ (λ xs m. get_or xs m no_node) e h ∙ get_or-append-add ns ms j no_node

pub placed : (b : List ℕ) (id row from end index : ℕ) (fs : List Span) (ns : List Node) (ps : List Piece) → Pieced b id row from fs ns ps → AllByRecursion (Inside 36 end) fs → from ≤ index → index < from + length ns
    → PlacedBy b end index (get_or ns (index - from) no_node) (last_from index ps)
unfolding last_piece
placed b id row from end index (f ∷ []) ns ps (ends q w) (inside, _) lo hi =
    let t : leb from index ≡ true = le-leb from index lo in
    let x : Placed b end index (get_or ns (index - from) no_node) (piece id from row f) = record { inside = inside; nodes = ns; behind = q; stand = w; below = omega arith; node = refl } in
    (piece id from row f, rw t, x)
placed b id row from end index [] ns ps x _ lo hi = elim x [ ]
placed b id row from end index (f ∷ (g ∷ gs)) all [] x _ lo hi = elim x [ ]
placed b id row from end index (f ∷ (g ∷ gs)) all (p ∷ ps) (goes ns ms q w rest e) (inside, more) lo hi =
    let t : leb from index ≡ true = le-leb from index lo in
    let long : length all ≡ length ns + length ms = ap length e ∙ length-append ns ms in
    elim (cases_lt index (from + length ns)) [
      | inl h ↦
          let none = left_out index rest h in
          let x : Placed b end index (get_or all (index - from) no_node) (piece id from row f)
          = record { inside = inside; nodes = ns; behind = q; stand = w; below = omega arith; node = in_front all ns ms (index - from) e (omega arith) } in
          (piece id from row f, rw (t, none), x)
      | inr h ↦
          let (y, is, x) = placed b id row (from + length ns) end index (g ∷ gs) ms ps rest more h (omega arith) in
          let at : get_or all (index - from) no_node ≡ get_or ms (index - (from + length ns)) no_node = behind_front all ns ms (index - from) (index - (from + length ns)) e (omega arith) in
          let z : Placed b end index (get_or all (index - from) no_node) y = record { inside = x.inside; nodes = x.nodes; behind = x.behind; stand = x.stand; below = x.below; node = at ∙ x.node } in
          (y, rw (t, is), z)
    ]

-- a walk in its fragment reaches the node
pub walked : (b : List ℕ) (end index : ℕ) (n : Node) (p : Piece) (first i place : ℕ) → Placed b end index n p → end ≤ 2 ^ 40 → (end_of p.fragment ≤ 2 ^ 40 → first ≡ nodes_from p.fragment) → i ≡ index - p.from
    → ((stop q : ℕ) (ns : List Node) → stop ≤ 2 ^ 40 → i < length ns → Nodes b stop first ns q → Good b stop place (get_or ns i no_node)) → Good b (nodes_to p.fragment) place n
walked b end index n p first i place w few start at good =
    let (least, last) = w.inside in
    let from : first ≡ nodes_from p.fragment = start (omega arith) in
    let is_node : get_or w.nodes i no_node ≡ n = ap (λ j. get_or w.nodes j no_node) at ∙ sym w.node in
    subst (λ z. Good b (nodes_to p.fragment) place z) is_node (good (nodes_to p.fragment) w.behind w.nodes (omega arith) (omega (arith, w.below)) (subst (λ z. Nodes b (nodes_to p.fragment) z w.nodes w.behind) (sym from) w.stand))

-- a list that is reached, as it stands and as it is found again
pub record Reaches (P Q : NodeList → Type 0) (ls : List NodeList) (id : ℕ) : Type 0 where
  pub list : NodeList
  pub named : list.id ≡ id
  pub nodes : nodes_of ls id ≡ list.nodes
  pub first : P list
  pub second : Q list

pub reaches : (P Q : NodeList → Type 0) (ls : List NodeList) (id : ℕ) → AllByRecursion P ls → AllByRecursion Q ls → taken id ls ≡ true → Reaches P Q ls id
unfolding nodes_of
reaches P Q [] id p q t = absurd (grind arith)
reaches P Q (l ∷ ls) id (p, ps) (q, qs) t = elim (cases_Bool (eqb l.id id)) [
  | inl e ↦ record {
    list = l;
    named = grind (arith, nat_tests);
    nodes = rw e;
    first = p;
    second = q;
  }
  | inr e ↦
      let x = reaches P Q ls id ps qs (rw e at t) in
      record {
        list = x.list;
        named = x.named;
        nodes = let y = x.nodes in rw (e, y);
        first = x.first;
        second = x.second;
      }
]
