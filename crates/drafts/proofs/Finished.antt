-- The finished tail of a list, from the tables of an opened file.
use Rattle.std.proofs.Common.{◌≡◌, ℕ, ◌-◌, ◌≤◌, true, false, ◌||◌, eqb, List, [], ◌∷◌, ◌++◌, map, length, slice_get, Some, None, Option, refl, ap, subst, sym, ◌∙◌, inl, inr, arith}
use Rattle.std.specs.List.{AllByRecursion}
use Rattle.std.proofs.lemmas.Bool.{cases_Bool}
use Rattle.std.proofs.lemmas.List.{length-append}
use Rattle.std.proofs.lemmas.Option.{slice_get_within}
use Rattle.model.specs.declared.types.Span.{Span}
use Rattle.model.specs.Faults.{done}
use Rattle.model.specs.References.{span}
use Rattle.model.specs.Nodes.{Node}
use Rattle.model.specs.Section.{NodeList, Section, last_of, list_fragments}
use Rattle.model.specs.OpenedLists.{taken}
use Rattle.model.specs.Opened.{opened}
use Rattle.model.specs.Layouts.{tail, tail_of, member, find_tail}
use Rattle.meaning.proofs.Base.{all_front}
use Rattle.meaning.proofs.OpensMeans.{opened_means}
use Rattle.commits.proofs.Layouts.{found}
use Rattle.pieces.specs.declared.piece.Piece.{Piece}
use Rattle.pieces.specs.Found.{of_list, last_piece}
use Rattle.pieces.specs.Indexed.{piece, Pieced, ends, goes}
use Rattle.tables.specs.declared.room.Room.{Room}
use Rattle.tables.specs.declared.room.Row.{Row}
use Rattle.tables.specs.Kept.{Kept, Found}
use Rattle.writing.specs.declared.tails.Tail.{Tail}
use Rattle.drafts.specs.Looked.{Finished, RowKnown}

pub taken_member : (id : ℕ) (ls : List NodeList) → taken id ls ≡ member id (map (λ t. t.id) (map tail_of ls))
taken_member id [] = refl
taken_member id (l ∷ ls) = ap (λ b. eqb l.id id || b) (taken_member id ls)

-- the last of a list's fragments is the last that is found
last_pieced : {b : List ℕ} {id row from : ℕ} {fs : List Span} {ns : List Node} {ps : List Piece} → Pieced b id row from fs ns ps → (d : Span)
    → (k : ℕ) × (last_piece ps ≡ Some (piece id k row (last_of d fs)))
unfolding last_piece
last_pieced (ends {from} q n) d = (from, refl)
last_pieced (goes {f} ns ms p n more e) d = let (k, x) = last_pieced more f in (k, rw x refl)

some_fragments : {b : List ℕ} {id row from : ℕ} {fs : List Span} {ns : List Node} {ps : List Piece} → Pieced b id row from fs ns ps → 1 ≤ length fs
some_fragments (ends q n) = omega arith
some_fragments (goes ns ms p n more e) = omega arith

of_all : (pre : List NodeList) (l : NodeList) (post : List NodeList) → length l.fragments ≤ length (list_fragments (pre ++ (l ∷ post)))
of_all [] l post = let n = length-append l.fragments (list_fragments post) in omega arith
of_all (k ∷ pre) l post = let n = length-append k.fragments (list_fragments (pre ++ (l ∷ post))) in let ih = of_all pre l post in omega arith

-- a reached list, as the tables have it
pub record Stands (b : List ℕ) (s : Section) (room : Room) (id : ℕ) : Type 0 where
  pub list : NodeList
  pub own : list.id ≡ id
  pub tail' : find_tail (map tail_of s.lists) id ≡ tail_of list
  pub there : Found b room.lists room.pieces.rows list
  pub few : length list.fragments ≤ length (list_fragments s.lists)

pub stands : (b : List ℕ) (s : Section) (room : Room) (id : ℕ) → Kept b s room → taken id s.lists ≡ true → Stands b s room id
stands b s room id k t =
    let f = found s.lists id (sym (taken_member id s.lists) ∙ t) in
    let each = subst (λ ls. AllByRecursion (Found b room.lists room.pieces.rows) ls) f.split k.lists.each in
    let (u, v) = all_front (Found b room.lists room.pieces.rows) f.pre (f.list ∷ f.post) each in
    let l : NodeList = f.list in
    record { list = l; own = f.same; tail' = f.tail'; there = v.0; few = subst (λ ls. length l.fragments ≤ length (list_fragments ls)) (sym f.split) (of_all f.pre l f.post) }

-- its fragment that is found last, and its row
pub record Ended (b : List ℕ) (s : Section) (room : Room) (id : ℕ) (p : Piece) : Type 0 where
  pub stands : Stands b s room id
  pub fragment : p.fragment ≡ last_of (span 0 0) stands.list.fragments
  pub row : p.row ≡ stands.there.at
  pub some : 1 ≤ length stands.list.fragments

ended_at : (b : List ℕ) (s : Section) (room : Room) (id : ℕ) (p : Piece) → (t : Stands b s room id) → Some p ≡ last_piece (of_list id room.pieces.rows) → Ended b s room id p
ended_at b s room id p t e =
    let at = subst (λ i. Pieced b t.list.id t.there.at 0 t.list.fragments t.list.nodes (of_list i room.pieces.rows)) t.own t.there.pieces in
    let (k, x) = last_pieced at (span 0 0) in
    let y : p ≡ piece t.list.id k t.there.at (last_of (span 0 0) t.list.fragments) = cc in
    record { stands = t; fragment = ap (λ (q : Piece). q.fragment) y; row = ap (λ (q : Piece). q.row) y; some = some_fragments at }

none_found : (b : List ℕ) (s : Section) (room : Room) (id : ℕ) → Kept b s room → None ≡ last_piece (of_list id room.pieces.rows) → taken id s.lists ≡ false
none_found b s room id k e = elim (cases_Bool (taken id s.lists)) [
  | inl t ↦
      let x = stands b s room id k t in
      let at = subst (λ i. Pieced b x.list.id x.there.at 0 x.list.fragments x.list.nodes (of_list i room.pieces.rows)) x.own x.there.pieces in
      let (j, y) = last_pieced at (span 0 0) in absurd cc
  | inr t ↦ t
]

some_found : (b : List ℕ) (s : Section) (room : Room) (id : ℕ) → Kept b s room → (p : Piece) → Some p ≡ last_piece (of_list id room.pieces.rows) → Ended b s room id p × (taken id s.lists ≡ true)
unfolding last_piece
some_found b s room id k p e = elim (cases_Bool (taken id s.lists)) [
  | inl t ↦ (ended_at b s room id p (stands b s room id k t) e, t)
  | inr t ↦ let x = k.lists.none id t in absurd (let y : last_piece (of_list id room.pieces.rows) ≡ None = rw x refl in cc)
]

few_in : (b : List ℕ) (s : Section) → opened b ≡ done s → length (list_fragments s.lists) ≤ 2048
few_in b s o =
    let m = ((opened_means b s).0 o).0 in
    let few = m.few_fragments in
    let n = length-append s.log.fragments (list_fragments s.lists) in omega arith

same_tail : (l : NodeList) {id n free nodes : ℕ} {f : Span} → id ≡ l.id → f ≡ last_of (span 0 0) l.fragments → n ≡ length l.fragments - 1 → free ≡ l.free → nodes ≡ length l.nodes
    → tail id f n free nodes ≡ tail_of l
same_tail l a b c d e = rw (a, b, c, d, e) refl

-- what the look-up finds, step by step
pub no_piece : (b : List ℕ) (s : Section) (room : Room) (id : ℕ) → Kept b s room → None ≡ last_piece (of_list id room.pieces.rows) → (o : Option Tail) → o ≡ None → Finished s.lists id o
no_piece b s room id k e o n = rw n (none_found b s room id k e)

module _ (b : List ℕ) (s : Section) (room : Room) (id : ℕ) (k : Kept b s room) (p : Piece) (e : Some p ≡ last_piece (of_list id room.pieces.rows)) where
  pub no_row : slice_get room.lists p.row ≡ None → ⊥
  no_row n =
      let (x, t) = some_found b s room id k p e in
      let there = x.stands.there.there in
      let i = x.row in cc

  module _ (r : Row) (g : slice_get room.lists p.row ≡ Some r) where
    pub fragments_of_row : (1 ≤ r.fragments) × (opened b ≡ done s → r.fragments ≤ 2048)
    fragments_of_row =
        let (x, t) = some_found b s room id k p e in
        let there = x.stands.there.there in
        let i = x.row in
        let same : r ≡ x.stands.there.row = cc in
        let f : r.fragments ≡ length x.stands.list.fragments = ap (λ (q : Row). q.fragments) same ∙ x.stands.there.is_row.fragments in
        let some = x.some in
        let few = x.stands.few in
        (omega arith, λ o. let z = few_in b s o in omega arith)

    pub finished : (n : ℕ) → n ≡ r.fragments - 1 → Finished s.lists id (Some (record { list = id; row = p.row; fragment = p.fragment; number = n; free = r.free; count = r.nodes }))
    finished n h =
        let (x, t) = some_found b s room id k p e in
        let there = x.stands.there.there in
        let i = x.row in
        let same : r ≡ x.stands.there.row = cc in
        let is = x.stands.there.is_row in
        let f : r.fragments ≡ length x.stands.list.fragments = ap (λ (q : Row). q.fragments) same ∙ is.fragments in
        let free : r.free ≡ x.stands.list.free = ap (λ (q : Row). q.free) same ∙ is.free in
        let nodes : r.nodes ≡ length x.stands.list.nodes = ap (λ (q : Row). q.nodes) same ∙ is.nodes in
        (t, same_tail x.stands.list (sym x.stands.own) x.fragment (h ∙ ap (λ m. m - 1) f) free nodes ∙ sym x.stands.tail')

    pub own_row : (n : ℕ) → RowKnown room.lists id (Some (record { list = id; row = p.row; fragment = p.fragment; number = n; free = r.free; count = r.nodes }))
    own_row n =
        let (x, t) = some_found b s room id k p e in
        let there = x.stands.there.there in
        let i = x.row in
        let same : r ≡ x.stands.there.row = cc in
        let own : r.id ≡ id = ap (λ (q : Row). q.id) same ∙ x.stands.there.is_row.id ∙ x.stands.own in
        (refl, slice_get_within room.lists p.row r g, record { row = r; there = g; own = own })
