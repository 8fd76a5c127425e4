-- The walk over a list's fragments for their data, step by step.
use Rattle.std.proofs.Common.{◌≡◌, ℕ, zero, suc, ◌+◌, ◌-◌, ◌^◌, ◌<◌, ◌≤◌, true, min, List, [], ◌∷◌, ◌++◌, length, get_or, take, drop, slice_range, IsErrAnd, Some, None, Ok, Err, Result, sym, refl, ap, ap₂, ◌∙◌, subst, arith}
use Rattle.std.proofs.lemmas.List.{append_assoc, append-nil, length-append, drop_all, drop_more}
use Rattle.std.specs.List.{AllByRecursion}
use Rattle.std.proofs.Math.Seq.{take-append_seam, drop-append_seam}
use Rattle.std.proofs.ByRecursion.{All-get_or}
use Rattle.model.specs.declared.types.Span.{Span}
use Rattle.model.specs.Bytes.{le}
use Rattle.model.specs.Faults.{Check, done}
use Rattle.model.specs.Nodes.{Node, hands_over, referring}
use Rattle.model.specs.ListFragments.{nodes_from, nodes_to}
use Rattle.model.specs.Section.{NodeList}
use Rattle.model.specs.OpenedLists.{NodePart, counted, uncounted, nodes_at}
use Rattle.model.specs.Opened.{data_checks}
use Rattle.model.specs.Means.{Inside, Spread, within, across}
use Rattle.meaning.proofs.ReadList.{nodes_through}
use Rattle.refusals.specs.declared.faults.InList.{InList}
use Rattle.refusals.specs.Refusals.{list_told}
use Rattle.refusals.specs.Checked.{told_by, Checked}
use Rattle.refusals.proofs.Told.{told_more, told_on}
use Rattle.node_walk.proofs.NodeSteps.{walk_over, walk_end}
use Rattle.tables.specs.declared.room.Row.{Row}
use Rattle.data_pass.specs.DataWalks.{part_nodes, Scans}
use Rattle.data_pass.specs.ListWalks.{Lies, Remains, Passing, list_data}
use Rattle.data_pass.proofs.DataSteps.{data_apart}

-- a fragment read again gives its nodes, and the others stand in the fragments behind it
record Read (b : List ℕ) (id : ℕ) (f : Span) (fs : List Span) (ns : List Node) (q : ℕ) : Type 0 where
  part : NodePart
  more : List Node
  gives : nodes_at (length ns) b id (nodes_to f) (nodes_from f) [] ≡ done part
  split : ns ≡ part_nodes part ++ more
  remains : Remains b fs more q

-- at a hand-over the walk ends, also where the count is reached
ends : (n : ℕ) (b : List ℕ) (id stop p : ℕ) (ns : List Node) → hands_over (le 4 b p) stop p ≡ true → (part : NodePart) × (nodes_at n b id stop p ns ≡ done part) × (part_nodes part ≡ ns)
ends zero b id stop p ns h = (counted ns p, walk_end zero b id stop p ns refl, refl)
ends (suc n) b id stop p ns h = (uncounted ns, walk_over (suc n) b id stop p ns (omega arith) h, refl)

reads : (b : List ℕ) (id : ℕ) (f : Span) (fs : List Span) (ns : List Node) (q : ℕ) → Spread b (f ∷ fs) ns q → Read b id f fs ns q
reads b id f [] ns q (within w) = record {
  part = counted ns q;
  more = [];
  gives = nodes_through (length ns) b id (nodes_to f) (nodes_from f) [] ns q w (omega arith) ∙ walk_end (length ns - length ns) b id (nodes_to f) q ns (omega arith);
  split = sym (append-nil ns);
  remains = refl;
}
reads b id f (g ∷ gs) ns q (across ks ms p w h e s split) =
    let long : length ns ≡ length ks + length ms = ap length split ∙ length-append ks ms in
    let (part, gives, are) = ends (length ns - length ks) b id (nodes_to f) p ks h in
    record {
      part = part;
      more = ms;
      gives = nodes_through (length ns) b id (nodes_to f) (nodes_from f) [] ks p w (omega arith) ∙ gives;
      split = split ∙ ap (λ xs. xs ++ ms) (sym are);
      remains = s;
    }

remains_all : (b : List ℕ) (fs : List Span) (ns : List Node) (q : ℕ) → Spread b fs ns q → Remains b fs ns q
remains_all b [] ns q s = elim s [ ]
remains_all b (f ∷ fs) ns q s = s

-- the spans at a row's indices are the fragments of its list
pub passing_none : (b : List ℕ) (end : ℕ) (all : List Span) (row : Row) (l : NodeList) (last : ℕ) (given spans : List Span) → Lies b end row all l → length all ≤ 2048
    → last ≡ min (row.first + row.fragments) (2 ^ 64 - 1) → given ≡ all → spans ≡ slice_range given row.first last → Passing b end all row l spans 0 row.nodes
unfolding referring
passing_none b end all row l last given spans x few e same is =
    let first : row.first ≡ length x.before = ap (λ (r : Row). r.first) x.row_is in
    let count : row.fragments ≡ length l.fragments = ap (λ (r : Row). r.fragments) x.row_is in
    let long : length all ≡ length x.before + length (l.fragments ++ x.after) = ap length x.fragments_are ∙ length-append x.before (l.fragments ++ x.after) in
    let size : last - row.first ≡ length l.fragments = omega (arith, length-append l.fragments x.after) in
    let s : spans ≡ l.fragments
    = is ∙ ap₂ take size (ap₂ drop first (same ∙ x.fragments_are) ∙ drop-append_seam x.before (l.fragments ++ x.after)) ∙ take-append_seam l.fragments x.after in
    record {
      id = ap (λ (r : Row). r.id) x.row_is;
      inside = subst (λ fs. AllByRecursion (Inside 36 end) fs) (sym s) x.inside;
      passed = [];
      rest = l.nodes;
      whole = refl;
      none = refl;
      remains = subst (λ fs. Remains b fs l.nodes l.free) (sym s) (remains_all b l.fragments l.nodes l.free x.spread);
      number = ap (λ (r : Row). r.nodes) x.row_is;
    }

-- what checking a fragment's nodes answers
abbrev pub Answers : List ℕ → ℕ → List Span → ℕ → ℕ → Span → Result ℕ InList → Type 0
Answers b end all id left f r = (p : NodePart) → nodes_at left b id (nodes_to f) (nodes_from f) [] ≡ done p → Scans end all id left (part_nodes p) r

module _ (b : List ℕ) (end : ℕ) (all : List Span) (row : Row) (l : NodeList) (spans : List Span) (i left : ℕ) (w : Passing b end all row l spans i left) where
  abbrev checks : List Node → List Check
  checks ns = data_checks end all row.id (referring 1 ns)

  told_of : (ns : List Node) → l.nodes ≡ ns → told_by (list_data end all l) ≡ told_by (checks ns)
  told_of ns e = ap₂ (λ id xs. told_by (data_checks end all id (referring 1 xs))) (sym w.id) e

  pub passing_end : length spans ≤ i → told_by (list_data end all l) ≡ None
  passing_end le =
      let none : w.rest ≡ [] = subst (λ fs. Remains b fs w.rest l.free) (drop_all i spans le) w.remains in
      told_of w.passed (w.whole ∙ ap (λ xs. w.passed ++ xs) none ∙ append-nil w.passed) ∙ w.none

  -- the next fragment, and its nodes
  module _ (d : Span) (lt : i < length spans) where
    abbrev f : Span
    f = get_or spans i d

    -- it lies in the file, so it is not passed over
    pub stays : Inside 36 end f
    stays = All-get_or (λ (x : Span). Inside 36 end x) spans i d lt w.inside

    next : Read b row.id f (drop (i + 1) spans) w.rest l.free
    next = reads b row.id f (drop (i + 1) spans) w.rest l.free (subst (λ fs. Remains b fs w.rest l.free) (drop_more spans i d lt) w.remains)

    abbrev ns : List Node
    ns = part_nodes next.part

    whole : l.nodes ≡ w.passed ++ (ns ++ next.more)
    whole = w.whole ∙ ap (λ xs. w.passed ++ xs) next.split

    scans : (r : Result ℕ InList) → Answers b end all row.id left f r → Scans end all row.id left ns r
    scans r a = a next.part (ap (λ k. nodes_at k b row.id (nodes_to f) (nodes_from f) []) w.number ∙ next.gives)

    pub passing_more : (n : ℕ) → Answers b end all row.id left f (Ok n) → Passing b end all row l spans (i + 1) n
    passing_more n a =
        let (none, number) = scans (Ok n) a in
        record {
          id = w.id;
          inside = w.inside;
          passed = w.passed ++ ns;
          rest = next.more;
          whole = whole ∙ sym (append_assoc w.passed ns next.more);
          none = ap told_by (data_apart end all row.id w.passed ns) ∙ told_on (checks w.passed) (checks ns) w.none ∙ none;
          remains = next.remains;
          number = omega (arith, number, w.number, ap length next.split, length-append ns next.more);
        }

    pub passing_err : (y : InList) (r : Result (Unit {0}) InList) → Answers b end all row.id left f (Err y) → IsErrAnd r (λ z. z ≡ y) → Checked (list_data end all l) r
    passing_err y (Ok u) a g = absurd g
    passing_err y (Err z) a g =
        told_of (w.passed ++ (ns ++ next.more)) whole ∙ ap told_by (data_apart end all row.id w.passed (ns ++ next.more))
        ∙ told_on (checks w.passed) (checks (ns ++ next.more)) w.none ∙ ap told_by (data_apart end all row.id ns next.more)
        ∙ told_more (checks ns) (checks next.more) (list_told y) (scans (Err y) a) ∙ ap (λ v. Some (list_told v)) (sym g)
