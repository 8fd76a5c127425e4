-- What looking for a node answers.
use Rattle.std.proofs.Common.{◌≡◌, ℕ, zero, suc, ◌-◌, ◌^◌, ◌<◌, ◌≤◌, true, false, not, ◌&&◌, ◌||◌, eqb, leb, List, [], ◌∷◌, length, get_or, Some, None, IsErrAnd, Ok, Err, Option, Result, sym, ap, ap₂, ◌∙◌, subst, inl, inr, arith}
use Rattle.std.specs.List.{AllByRecursion}
use Rattle.std.proofs.lemmas.List.{append-nil}
use Rattle.std.proofs.lemmas.Bool.{cases_Bool}
use Rattle.std.proofs.lemmas.Bool.Decides.{nat_tests}
use Rattle.model.specs.declared.types.Header.{Header}
use Rattle.model.specs.Faults.{fault, Outcome, done, refused}
use Rattle.model.specs.References.{end_of, present}
use Rattle.model.specs.Nodes.{Node, referring}
use Rattle.model.specs.ListFragments.{nodes_from, nodes_to}
use Rattle.model.specs.Section.{Section, flat, count_in, count_at}
use Rattle.model.specs.OpenedLists.{taken}
use Rattle.model.specs.Means.{Rising, Good, Nodes, Stands, Means}
use Rattle.model.specs.Looks.{no_node, nodes_of, node_of, data_of}
use Rattle.meaning.proofs.Base.{references}
use Rattle.meaning.proofs.OpensMeans.{opens_means}
use Rattle.commits.proofs.Contents.{nodes_data}
use Rattle.commits.proofs.LooksGrow.{count_most}
use Rattle.pieces.specs.declared.piece.Piece.{Piece}
use Rattle.pieces.specs.Found.{of_list, last_piece, last_from}
use Rattle.tables.specs.declared.room.Room.{Room}
use Rattle.tables.specs.Kept.{Found}
use Rattle.refusals.specs.declared.calls.LookFault.{LookFault}
use Rattle.refusals.specs.CallRefusals.{look_told}
use Rattle.looks.specs.declared.found.FoundNode.{FoundNode}
use Rattle.looks.specs.Answers.{Opens}
use Rattle.looks.specs.Finds.{Shows, Finds, future}
use Rattle.looks.proofs.Counting.{same_future}
use Rattle.looks.proofs.Placing.{Placed, PlacedBy, placed, walked, reaches}

-- data that stands before an end, of a node at any index
data_ends : (end : ℕ) (ns : List Node) (i : ℕ) → AllByRecursion (λ r. end_of r ≤ end) (references ns) → end_of (data_of (get_or ns i no_node)) ≤ end
unfolding referring
data_ends end [] i a = omega arith
data_ends end (n ∷ ns) zero a = elim (cases_Bool (eqb n.base 1 && present n.reference)) [
  | inl e ↦ rw e (rw e at a).0
  | inr e ↦ rw e (omega arith)
]
data_ends end (n ∷ ns) (suc i) a = elim (cases_Bool (eqb n.base 1 && present n.reference)) [
  | inl e ↦ data_ends end ns i (rw e at a).1
  | inr e ↦ data_ends end ns i (rw e at a)
]

module _ (b : List ℕ) (room : Room) (h : Header) (s : Section) (o : Opens b room h s) (k list index : ℕ) where
  m : Means b s
  m = (opens_means b s o.section).0

  abbrev node : Node
  node = get_or (nodes_of s.lists list) index no_node

  -- a node that the list had at k has its fragment
  found_placed : taken list s.lists ≡ true → index < count_at s.log k list → PlacedBy b s.header.end index node (last_from index (of_list list room.pieces.rows))
  found_placed t h =
      let x = reaches (Stands b s.header s.log) (Found b room.lists room.pieces.rows) s.lists list m.lists o.kept.lists.each t in
      let l = x.list in
      let rise : Rising [] (flat s.log.transactions) = subst (λ z. Rising [] z) (append-nil (flat s.log.transactions)) m.log.part.rising in
      let most = count_most s.log.transactions k list rise in
      let long : length l.nodes ≡ count_in s.log.transactions list = x.first.counted ∙ ap (λ z. count_in s.log.transactions z) x.named in
      let y = placed b l.id x.second.at 0 s.header.end index l.fragments l.nodes (of_list l.id room.pieces.rows) x.second.pieces x.first.part.inside (omega arith) (omega arith) in
      let start : index - 0 ≡ index = omega arith in
      let same : get_or l.nodes (index - 0) no_node ≡ node = ap₂ (λ ns j. get_or ns j no_node) (sym x.nodes) start in
      subst (λ z. PlacedBy b s.header.end index z (last_from index (of_list list room.pieces.rows))) same
      (subst (λ z. PlacedBy b s.header.end index (get_or l.nodes (index - 0) no_node) (last_from index (of_list z room.pieces.rows))) x.named y)

  -- a list that is not reached has no fragment
  found_none : taken list s.lists ≡ false → last_from index (of_list list room.pieces.rows) ≡ None
  unfolding last_piece
  found_none t = let none = o.kept.lists.none list t in rw none

  -- its data stands in the file
  data_within : end_of (data_of node) ≤ s.header.end
  data_within = data_ends s.header.end (nodes_of s.lists list) index (nodes_data (λ r. end_of r ≤ s.header.end) s.lists list m.data_inside)

  module _ (noted : ℕ) (known : future h.count k ≡ false) (counted : noted ≡ count_at s.log k list) where
    past : future s.header.count k ≡ false
    past = same_future b room h s o k ∙ known

    not_there : (not (taken list s.lists) || leb (count_at s.log k list) index) ≡ true → node_of s k list index ≡ refused (fault 26 5 0 0)
    not_there t = rw (past, t)

    -- the index is not below the list's count
    pub finds_above : (x : Result FoundNode LookFault) (y : LookFault) → IsErrAnd x (λ z. z ≡ y) → noted ≤ index → look_told y ≡ fault 26 5 0 0 → Finds b x (node_of s k list index)
    finds_above (Ok x) y g h told = absurd g
    finds_above (Err z) y g h told =
        let e : leb (count_at s.log k list) index ≡ true = grind (arith, nat_tests, counted) in
        not_there (elim (cases_Bool (taken list s.lists)) [ inl t ↦ rw (t, e) | inr t ↦ rw t ]) ∙ ap {B = Outcome Node} (λ f. refused f) (sym (ap look_told g ∙ told))

    module _ (j : ℕ) (is : j ≡ index) (below : index < noted) where
      abbrev piece_of : Option Piece
      piece_of = last_from j (of_list list room.pieces.rows)

      same_piece : piece_of ≡ last_from index (of_list list room.pieces.rows)
      same_piece = ap (λ i. last_from i (of_list list room.pieces.rows)) is

      none_is : taken list s.lists ≡ true → None ≡ piece_of → ⊥
      none_is t f =
          let (p, is, w) = found_placed t (omega (arith, counted)) in
          let e : None ≡ Some p = f ∙ same_piece ∙ is in
          cc

      -- no fragment was found
      pub finds_none : None ≡ piece_of → node_of s k list index ≡ refused (fault 26 5 0 0)
      finds_none f = elim (cases_Bool (taken list s.lists)) [
        | inl t ↦ absurd (none_is t f)
        | inr t ↦ not_there (rw t)
      ]

      -- the list is reached where a fragment was found
      reached : (p : Piece) → Some p ≡ piece_of → taken list s.lists ≡ true
      reached p f = elim (cases_Bool (taken list s.lists)) [
        | inl t ↦ t
        | inr t ↦ absurd (let e : Some p ≡ None = f ∙ same_piece ∙ found_none t in cc)
      ]

      found_done : taken list s.lists ≡ true → node_of s k list index ≡ done node
      found_done t = let e : leb (count_at s.log k list) index ≡ false = grind (arith, nat_tests, counted) in rw (past, t, e)

      pub finds_node : (p : Piece) (first i place : ℕ) (x : FoundNode) → Some p ≡ piece_of → (end_of p.fragment ≤ 2 ^ 40 → first ≡ nodes_from p.fragment) → i ≡ j - p.from
          → ((stop q : ℕ) (ns : List Node) → stop ≤ 2 ^ 40 → i < length ns → Nodes b stop first ns q → Good b stop place (get_or ns i no_node))
          → ((stop : ℕ) (n : Node) → stop ≤ 2 ^ 40 → stop ≤ length b → Good b stop place n → Shows b x n) → Finds b (Ok x) (node_of s k list index)
      finds_node p first i place x f start at good shows =
          let t = reached p f in
          let (q, found, v) = found_placed t (omega (arith, counted)) in
          let e : Some p ≡ Some q = f ∙ same_piece ∙ found in
          let same : q ≡ p = cc in
          let w : Placed b s.header.end index node p = subst (λ z. Placed b s.header.end index node z) same v in
          let (least, last) = w.inside in
          let stored = m.header.stored in
          let most = m.header.most in
          let within = data_within in
          let here = walked b s.header.end index node p first i place w most start (at ∙ ap (λ z. z - p.from) is) good in
          (node, found_done t, shows (nodes_to p.fragment) node (omega arith) (omega arith) here, omega arith)
