-- What the tables keep of a file they keep of any bytes that mean the same: a node tells its place, so it is the node at that place there too.
use Rattle.std.proofs.Common.{◌≡◌, ℕ, ◌+◌, List, [], ◌∷◌, subst, sym, ap}
use Rattle.std.specs.List.{AllByRecursion}
use Rattle.std.proofs.ByRecursion.{All-append}
use Rattle.model.specs.declared.types.Span.{Span}
use Rattle.model.specs.Nodes.{Node}
use Rattle.model.specs.Section.{NodeList, Section}
use Rattle.model.specs.Means.{Good, Nodes, Spread, within, across, Stands, Means}
use Rattle.meaning.proofs.Base.{all_front}
use Rattle.pieces.specs.declared.piece.Piece.{Piece}
use Rattle.pieces.specs.Indexed.{Pieced, ends, goes}
use Rattle.tables.specs.declared.room.Room.{Room}
use Rattle.tables.specs.declared.room.Row.{Row}
use Rattle.tables.specs.Kept.{Found, Kept}

module _ (b c : List ℕ) where
  -- a node of the bytes c, at its own place
  abbrev Stays : Node → Type 0
  Stays n = (stop : ℕ) × Good c stop n.place n

  good_stays : (stop p : ℕ) (n : Node) → Good c stop p n → Stays n
  good_stays stop p n g = (stop, subst (λ q. Good c stop q n) (sym (ap (λ (m : Node). m.place) g.fields)) g)

  nodes_stay : (stop p q : ℕ) (ns : List Node) → Nodes c stop p ns q → AllByRecursion Stays ns
  nodes_stay stop p q [] w = tt
  nodes_stay stop p q (n ∷ ns) (g, w) = (good_stays stop p n g, nodes_stay stop (p + n.size) q ns w)

  spread_stays : {fs : List Span} {ns : List Node} {q : ℕ} → Spread c fs ns q → AllByRecursion Stays ns
  spread_stays {q = q} (within {f = f} {ns = ns} w) = nodes_stay _ _ q ns w
  spread_stays (across ns ms p w h g s e) = subst (AllByRecursion Stays) (sym e) (All-append Stays ns ms (nodes_stay _ _ p ns w) (spread_stays s))

  good_again : (stop p : ℕ) (n : Node) → Good b stop p n → Stays n → Good c stop p n
  good_again stop p n g (other, h) =
      let at : n.place ≡ p = ap (λ (m : Node). m.place) g.fields in
      let k : Good c other p n = subst (λ q. Good c other q n) at h in
      record { fields = k.fields; named = k.named; no_terminator = k.no_terminator; top = k.top; base = k.base; parts = k.parts; ends = g.ends }

  nodes_again : (stop p q : ℕ) (ns : List Node) → Nodes b stop p ns q → AllByRecursion Stays ns → Nodes c stop p ns q
  nodes_again stop p q [] w a = w
  nodes_again stop p q (n ∷ ns) (g, w) (x, a) = (good_again stop p n g x, nodes_again stop (p + n.size) q ns w a)

  pieced_again : {id row from : ℕ} {fs : List Span} {ns : List Node} {ps : List Piece} → Pieced b id row from fs ns ps → AllByRecursion Stays ns → Pieced c id row from fs ns ps
  pieced_again {ns = ns} (ends q w) a = ends q (nodes_again _ _ q ns w a)
  pieced_again (goes ns ms p w rest e) a =
      let (x, y) = all_front Stays ns ms (subst (AllByRecursion Stays) e a) in
      goes ns ms p (nodes_again _ _ p ns w x) (pieced_again rest y) e

  found_again : (rows : List Row) (ps : List Piece) (l : NodeList) → Found b rows ps l → AllByRecursion Stays l.nodes → Found c rows ps l
  found_again rows ps l f a = record { at = f.at; row = f.row; there = f.there; is_row = f.is_row; pieces = pieced_again f.pieces a }

  module _ (s : Section) (m : Means c s) where
    all_again : (rows : List Row) (ps : List Piece) (ls : List NodeList) → AllByRecursion (Found b rows ps) ls → AllByRecursion (Stands c s.header s.log) ls → AllByRecursion (Found c rows ps) ls
    all_again rows ps [] f w = tt
    all_again rows ps (l ∷ ls) (f, fs) (w, ws) = (found_again rows ps l f (spread_stays w.part.spread), all_again rows ps ls fs ws)

    pub kept_again : (room : Room) → Kept b s room → Kept c s room
    kept_again room k =
        let i = k.lists in
        record {
          changes = k.changes;
          finished = k.finished;
          lists = record { each = all_again room.lists room.pieces.rows s.lists i.each m.lists; none = i.none; number = i.number };
        }
