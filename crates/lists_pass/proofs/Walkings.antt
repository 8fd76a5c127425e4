-- The walk over a fragment's nodes, step by step: what is left to read gives what the whole gives.
use Rattle.std.proofs.Common.{◌≡◌, ℕ, ◌+◌, ◌-◌, ◌<◌, true, false, ◌&&◌, eqb, List, [], ◌∷◌, ◌++◌, sym, refl, ◌∙◌, inl, inr, append_assoc, append-nil, arith}
use Rattle.std.proofs.lemmas.List.{map-append, length-append}
use Rattle.std.proofs.lemmas.Bool.{cases_Bool}
use Rattle.std.proofs.lemmas.Bool.Decides.{nat_tests}
use Rattle.model.specs.declared.types.Span.{Span}
use Rattle.model.specs.Bytes.{le}
use Rattle.model.specs.Faults.{fault, refused}
use Rattle.model.specs.References.{present}
use Rattle.model.specs.Nodes.{Node, node_at, field_of, hands_over, referring}
use Rattle.model.specs.ListFragments.{nodes_from, nodes_to}
use Rattle.model.specs.OpenedLists.{nodes_at}
use Rattle.format.specs.declared.nodes.Head.{Head}
use Rattle.format.specs.Heads.{head_of}
use Rattle.tables.specs.declared.queue.Named.{Named}
use Rattle.node_walk.specs.Walks.{bad_head}
use Rattle.tables.specs.Queues.{Names, names_of, name_of}
use Rattle.lists_pass.specs.Parts.{Walking, Walked}
use Rattle.meaning.proofs.GoodNodes.{passes}
use Rattle.meaning.proofs.Growth.{nodes_push}
use Rattle.node_walk.proofs.NodeSteps.{bad_is, walk_over, walk_bad, walk_on, walk_end}
use Rattle.tables.proofs.Queued.{names_none, names_more}

names_of_one : (m : Node) → names_of (m ∷ []) ≡ name_of m.place m.base m.reference
unfolding referring
names_of_one m = elim (cases_Bool (eqb m.base 2 && present m.reference)) [ inl a ↦ rw a | inr a ↦ rw a ]

pub names_of_none : names_of [] ≡ []
unfolding referring
names_of_none = refl

pub referring_both : (base : ℕ) (ns ms : List Node) → referring base (ns ++ ms) ≡ referring base ns ++ referring base ms
unfolding referring
referring_both base [] ms = refl
referring_both base (n ∷ ns) ms = let ih = referring_both base ns ms in grind arith

-- what two rows of nodes name
pub names_of_both : (ns ms : List Node) → names_of (ns ++ ms) ≡ names_of ns ++ names_of ms
names_of_both ns ms = rw (referring_both 2 ns ms) (map-append (λ n. (field_of n, n.reference)) (referring 2 ns) (referring 2 ms))

pub walking_none : (b : List ℕ) (left list : ℕ) (f : Span) (from : ℕ) (was : List Named) → from ≡ nodes_from f → Walking b left list f 0 from was was
walking_none b left list f from was e = record {
  nodes = [];
  number = refl;
  names = rw names_of_none (names_none was);
  stand = sym e;
  goes = λ ns. let z : left - 0 ≡ left = omega arith in rw (z, append-nil ns, e);
}

-- one node more
pub walking_more : {b : List ℕ} {left list : ℕ} {f : Span} {k place : ℕ} {was is : List Named} (stop : ℕ) (after : List Named) (h : Head) (r : Span)
    → stop ≡ nodes_to f → Walking b left list f k place was is → k < left → hands_over (le 4 b place) stop place ≡ false → h ≡ head_of (le 4 b place)
    → r ≡ (node_at b place).reference → false ≡ bad_head h stop place → Names is (name_of place h.base r) after
    → Walking b left list f (k + 1) (place + h.size) was after
walking_more {b} {left} {list} {f} {k} {place} {was} {is} stop after h r t w l o e u d n =
    let m = node_at b place in
    let q : left - k - 1 ≡ left - (k + 1) = omega arith in
    record {
      nodes = w.nodes ++ (m ∷ []);
      number = omega (arith, length-append w.nodes (m ∷ []), w.number);
      names = rw (names_of_both w.nodes (m ∷ []), names_of_one m) (names_more was is after (names_of w.nodes) (name_of place m.base m.reference) w.names (rw (e, u) at n));
      stand = rw e (nodes_push b (nodes_to f) (nodes_from f) w.nodes place m w.stand
          (passes b (nodes_to f) place (rw t at (sym o)) (rw t at d ∙ bad_is h (le 4 b place) (nodes_to f) place e)));
      goes = λ ns. w.goes ns
          ∙ walk_on (left - k) b list (nodes_to f) place (ns ++ w.nodes) (omega arith) (rw t at o) (sym (bad_is h (le 4 b place) (nodes_to f) place e) ∙ rw t at (sym d))
          ∙ rw (q, e, append_assoc);
    }

-- the fragment hands over, a node is wrong, or the count is reached
pub walked_over : (b : List ℕ) (left list : ℕ) (f : Span) (stop k place : ℕ) (was is : List Named) → stop ≡ nodes_to f
    → Walking b left list f k place was is → k < left → hands_over (le 4 b place) stop place ≡ true → Walked b left list f k place was is
walked_over b left list f stop k place was is t w l o =
    let e : eqb k left ≡ false = grind (arith, nat_tests) in
    record {
      nodes = w.nodes;
      number = w.number;
      names = w.names;
      stand = w.stand;
      gives = λ ns. w.goes ns ∙ walk_over (left - k) b list (nodes_to f) place (ns ++ w.nodes) (omega arith) (rw t at o) ∙ rw e;
    }

pub walked_bad : {b : List ℕ} {left list : ℕ} {f : Span} {stop k place : ℕ} {was is : List Named} (h : Head) → stop ≡ nodes_to f
    → Walking b left list f k place was is → k < left → hands_over (le 4 b place) stop place ≡ false → h ≡ head_of (le 4 b place)
    → true ≡ bad_head h stop place → (ns : List Node) → nodes_at left b list (nodes_to f) (nodes_from f) ns ≡ refused (fault 9 3 place list)
walked_bad {b} {left} {list} {f} {stop} {k} {place} h t w l o e d ns =
    w.goes ns
    ∙ walk_bad (left - k) b list (nodes_to f) place (ns ++ w.nodes) (omega arith) (rw t at o) (sym (bad_is h (le 4 b place) (nodes_to f) place e) ∙ rw t at (sym d))

pub walked_end : (b : List ℕ) (left list : ℕ) (f : Span) (k place : ℕ) (was is : List Named) → Walking b left list f k place was is → k ≡ left → Walked b left list f left place was is
walked_end b left list f k place was is w l =
    let e : eqb left left ≡ true = grind (arith, nat_tests) in
    record {
      nodes = w.nodes;
      number = sym l ∙ w.number;
      names = w.names;
      stand = w.stand;
      gives = λ ns. w.goes ns ∙ walk_end (left - k) b list (nodes_to f) place (ns ++ w.nodes) (omega arith) ∙ rw e;
    }
