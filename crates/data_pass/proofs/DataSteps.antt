-- The walk over a fragment's nodes for their data, step by step.
use Rattle.std.proofs.Common.{◌≡◌, ℕ, zero, suc, ◌+◌, ◌-◌, ◌<◌, true, false, ◌&&◌, eqb, ltb, List, [], ◌∷◌, ◌++◌, length, IsErrAnd, Some, None, Ok, Err, Result, sym, refl, ap, ◌∙◌, ap₂, inl, inr, append_assoc, append-nil, arith}
use Rattle.std.proofs.lemmas.List.{length-append}
use Rattle.std.proofs.lemmas.Bool.{cases_Bool}
use Rattle.model.specs.declared.types.Span.{Span}
use Rattle.model.specs.Bytes.{le}
use Rattle.model.specs.Faults.{fault, Check, Outcome, done, refused}
use Rattle.model.specs.References.{present, end_of}
use Rattle.model.specs.Nodes.{Node, node_at, size_bits, field_of, hands_over, bad_node, referring}
use Rattle.model.specs.OpenedLog.{overlaps}
use Rattle.model.specs.OpenedLists.{NodePart, counted, uncounted, nodes_at}
use Rattle.model.specs.Opened.{data_checks}
use Rattle.format.specs.declared.nodes.Head.{Head}
use Rattle.format.specs.declared.nodes.NodeHead.{NodeHead}
use Rattle.refusals.specs.declared.faults.InList.{InList}
use Rattle.refusals.specs.Refusals.{list_told}
use Rattle.node_walk.specs.Walks.{Before, bad_head}
use Rattle.refusals.specs.Checked.{told_by}
use Rattle.data_pass.specs.DataWalks.{node_checks, part_nodes, Scanned, Scans}
use Rattle.node_walk.proofs.NodeSteps.{bad_is, walk_over, walk_bad, walk_on, walk_end}
use Rattle.refusals.proofs.Told.{told_more, told_on}
use Rattle.lists_pass.proofs.Walkings.{referring_both}

data_both : (end : ℕ) (fs : List Span) (id : ℕ) (ns ms : List Node) → data_checks end fs id (ns ++ ms) ≡ data_checks end fs id ns ++ data_checks end fs id ms
data_both end fs id [] ms = refl
data_both end fs id (n ∷ ns) ms =
    ap (λ cs. (ltb end (end_of n.reference), fault 5 3 (field_of n) id) ∷ (overlaps n.reference fs, fault 11 3 (field_of n) id) ∷ cs) (data_both end fs id ns ms)

data_one : (end : ℕ) (fs : List Span) (id : ℕ) (m : Node) → data_checks end fs id (referring 1 (m ∷ [])) ≡ node_checks end fs id m.place m.base m.reference
unfolding referring
data_one end fs id m = elim (cases_Bool (eqb m.base 1 && present m.reference)) [ inl a ↦ rw a | inr a ↦ rw a ]

-- the checks of some nodes and of others behind them
pub data_apart : (end : ℕ) (fs : List Span) (id : ℕ) (ns ms : List Node)
    → data_checks end fs id (referring 1 (ns ++ ms)) ≡ data_checks end fs id (referring 1 ns) ++ data_checks end fs id (referring 1 ms)
data_apart end fs id ns ms = ap (data_checks end fs id) (referring_both 1 ns ms) ∙ data_both end fs id (referring 1 ns) (referring 1 ms)

abbrev of : Outcome NodePart → List Node
of (done p) = part_nodes p
of (refused f) = []

-- the nodes that a walk gives begin with those it had
extends : (n : ℕ) (b : List ℕ) (id stop p : ℕ) (ns : List Node) (q : NodePart) → nodes_at n b id stop p ns ≡ done q → (rest : List Node) × (part_nodes q ≡ ns ++ rest)
extends zero b id stop p ns q e = ([], sym (ap of (sym (walk_end zero b id stop p ns refl) ∙ e)) ∙ sym (append-nil ns))
extends (suc n) b id stop p ns q e = elim (cases_Bool (hands_over (le 4 b p) stop p)) [
  | inl a ↦ ([], sym (ap of (sym (walk_over (suc n) b id stop p ns (omega arith) a) ∙ e)) ∙ sym (append-nil ns))
  | inr a ↦ elim (cases_Bool (bad_node (le 4 b p) stop p)) [
    | inl d ↦ absurd (let y = sym (walk_bad (suc n) b id stop p ns (omega arith) a d) ∙ e in cc)
    | inr d ↦
        let k : suc n - 1 ≡ n = omega arith in
        let y : nodes_at n b id stop (p + size_bits (le 4 b p)) (ns ++ (node_at b p ∷ [])) ≡ done q
        = ap (λ j. nodes_at j b id stop (p + size_bits (le 4 b p)) (ns ++ (node_at b p ∷ []))) (sym k) ∙ sym (walk_on (suc n) b id stop p ns (omega arith) a d) ∙ e in
        let (rest, x) = extends n b id stop (p + size_bits (le 4 b p)) (ns ++ (node_at b p ∷ [])) q y in
        (node_at b p ∷ rest, x ∙ append_assoc ns (node_at b p ∷ []) rest)
  ]
]

pub scanned_none : (b : List ℕ) (end : ℕ) (fs : List Span) (left list stop from to first : ℕ) → stop ≡ to → from ≡ first
    → Scanned b end fs left list (nodes_at left b list to first []) stop 0 from
unfolding referring
scanned_none b end fs left list stop from to first e f = record {
  nodes = [];
  number = refl;
  none = refl;
  goes = let z : left - 0 ≡ left = omega arith in rw (z, e, f);
}

module _ (b : List ℕ) (end : ℕ) (fs : List Span) (left list : ℕ) (whole : Outcome NodePart) (stop k place : ℕ) (w : Scanned b end fs left list whole stop k place) where
  abbrev checks : List Node → List Check
  checks ns = data_checks end fs list (referring 1 ns)

  -- where the walk ends, its nodes are those so far
  ended : (p q : NodePart) → nodes_at (left - k) b list stop place w.nodes ≡ done q → part_nodes q ≡ w.nodes → whole ≡ done p
      → (told_by (checks (part_nodes p)) ≡ None) × (left - k ≡ left - length (part_nodes p))
  ended p q walk are e =
      let n : w.nodes ≡ part_nodes p = sym are ∙ ap of (sym walk ∙ sym w.goes ∙ e) in
      (ap (λ ns. told_by (checks ns)) (sym n) ∙ w.none, ap (λ j. left - j) (w.number ∙ ap length n))

  pub scanned_end : (p : NodePart) → k ≡ left → whole ≡ done p → Scans end fs list left (part_nodes p) (Ok 0)
  scanned_end p l e =
      let (none, number) = ended p (counted w.nodes place) (walk_end (left - k) b list stop place w.nodes (omega arith)) refl e in
      (none, omega arith)

  module _ (l : k < left) where
    -- the fragment hands over: the nodes are those that the walk gives
    pub scanned_over : (p : NodePart) → hands_over (le 4 b place) stop place ≡ true → whole ≡ done p → Scans end fs list left (part_nodes p) (Ok (left - k))
    scanned_over p o e = ended p (uncounted w.nodes) (walk_over (left - k) b list stop place w.nodes (omega arith) o) refl e

    module _ (node : NodeHead) (is : Before b place stop (Some node)) where
      bad : bad_head node.head stop place ≡ bad_node (le 4 b place) stop place
      bad = bad_is node.head (le 4 b place) stop place is.1

      -- no node is wrong where the walk gives nodes
      pub scanned_bad : (p : NodePart) → true ≡ bad_head node.head stop place → whole ≡ done p → ⊥
      scanned_bad p d q =
          let y : refused (fault 9 3 place list) ≡ done p = sym (walk_bad (left - k) b list stop place w.nodes (omega arith) is.0 (sym bad ∙ sym d)) ∙ sym w.goes ∙ q in
          cc

      module _ (good : false ≡ bad_head node.head stop place) where
        more : List Node
        more = w.nodes ++ (node_at b place ∷ [])

        on : whole ≡ nodes_at (left - k - 1) b list stop (place + size_bits (le 4 b place)) more
        unfolding more
        on = w.goes ∙ walk_on (left - k) b list stop place w.nodes (omega arith) is.0 (sym bad ∙ sym good)

        told : told_by (checks more) ≡ told_by (node_checks end fs list place node.head.base node.reference)
        unfolding more
        told =
            let m = node_at b place in
            ap told_by (data_apart end fs list w.nodes (m ∷ [])) ∙ told_on (checks w.nodes) (checks (m ∷ [])) w.none ∙ ap told_by (data_one end fs list m)
            ∙ ap₂ (λ x y. told_by (node_checks end fs list place x y)) (sym (ap (λ (h : Head). h.base) is.1)) (sym is.2)

        pub scanned_more : told_by (node_checks end fs list place node.head.base node.reference) ≡ None → Scanned b end fs left list whole stop (k + 1) (place + node.head.size)
        unfolding more
        scanned_more t =
            let s : node.head.size ≡ size_bits (le 4 b place) = ap (λ (h : Head). h.size) is.1 in
            let q : left - k - 1 ≡ left - (k + 1) = omega arith in
            record {
              nodes = more;
              number = omega (arith, length-append w.nodes (node_at b place ∷ []), w.number);
              none = told ∙ t;
              goes = on ∙ rw (q, s);
            }

        pub scanned_err : (p : NodePart) (x : Result ℕ InList) (i : InList) → IsErrAnd x (λ y. y ≡ i) → told_by (node_checks end fs list place node.head.base node.reference) ≡ Some (list_told i)
            → whole ≡ done p → Scans end fs list left (part_nodes p) x
        scanned_err p (Ok u) i g t q = absurd g
        scanned_err p (Err y) i g t q =
            let (rest, z) = extends (left - k - 1) b list stop (place + size_bits (le 4 b place)) more p (sym on ∙ q) in
            ap (λ ns. told_by (checks ns)) z ∙ ap told_by (data_apart end fs list more rest)
            ∙ told_more (checks more) (checks rest) (list_told y) (told ∙ t ∙ ap (λ v. Some (list_told v)) (sym g))
