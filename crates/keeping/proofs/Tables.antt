-- The tables after a commit: each list has its row, and its fragments name it.
use Rattle.std.proofs.Common.{◌≡◌, ℕ, ◌+◌, ◌-◌, ◌<◌, ◌≤◌, true, false, ◌||◌, eqb, ◌≢◌, List, [], ◌∷◌, ◌++◌, map, length, slice_get, Some, None, Option, refl, ap, ap₂, ◌∙◌, sym, subst, inl, inr, arith}
use Rattle.std.specs.List.{AllByRecursion}
use Rattle.std.proofs.ByRecursion.{All-weaker, All-append}
use Rattle.std.proofs.lemmas.List.{length-append, length-map, map-append}
use Rattle.std.proofs.lemmas.List.Elements.{filter-append}
use Rattle.std.proofs.lemmas.Option.{slice_get_within}
use Rattle.std.proofs.lemmas.Bool.{cases_Bool}
use Rattle.std.proofs.lemmas.Bool.Decides.{nat_tests}
use Rattle.model.specs.Section.{NodeList, Section, list_fragments}
use Rattle.model.specs.OpenedLists.{taken}
use Rattle.model.specs.Means.{Apart, Pairwise, Stands as StandsIn, Means}
use Rattle.model.specs.Layouts.{Add, Tail, Layout, tail_of, member, find_tail, blank}
use Rattle.model.specs.Saving.{layout}
use Rattle.meaning.proofs.Base.{pairs_split}
use Rattle.meaning.proofs.Members.{In, all_in, all_from_in, in_from_has, in_unmap}
use Rattle.commits.specs.Parts.{parts, parts_of, Parted, Grown, longer, made, Leaves}
use Rattle.commits.proofs.CommitLeaves.{fragments_apart}
use Rattle.commits.proofs.CommitReads.{taken_in, in_taken}
use Rattle.commits.proofs.Rows.{all_both}
use Rattle.pieces.specs.declared.piece.Piece.{Piece}
use Rattle.pieces.specs.Found.{of_list}
use Rattle.pieces.specs.Indexed.{Pieced}
use Rattle.tables.specs.declared.room.Room.{Room}
use Rattle.tables.specs.declared.room.Row.{Row}
use Rattle.tables.specs.Kept.{RowOf, Found, Indexed, Kept}
use Rattle.writing.specs.declared.tails.Tail.{Tail as CodeTail}
use Rattle.writing.specs.Tails.{as_tail}
use Rattle.drafts.specs.declared.layout.DraftLayout.{DraftLayout}
use Rattle.drafts.specs.Lays.{Lays, part_of}
use Rattle.drafts.specs.Looked.{tail_for}
use Rattle.drafts.specs.Rowed.{OwnRow, row_in, Rowed}
use Rattle.drafts.proofs.Finished.{stands}
use Rattle.drafts.proofs.Looked.{ids_known, row_in_for}
use Rattle.drafts.proofs.Rows.{row_none}
use Rattle.drafts.proofs.Tails.{lists_of, tail_for_in}
use Rattle.drafts.proofs.Tails.{In as LookedIn}
use Rattle.keeping.specs.Rows.{row_for, with_rows}
use Rattle.keeping.specs.Pieces.{put_all}
use Rattle.keeping.proofs.Counted.{ids_of, in_ids, one_row, as_many}
use Rattle.keeping.proofs.Placed.{Ascend, pieced_parted, pieced_rows, parted_some, parted_pieced, pieced_ascend, put_all_is, parts_are, all_of}
use Rattle.keeping.proofs.Rows.{After, rows_after, rows_differ}
use Rattle.keeping.proofs.Touched.{touched_differ, tail_for_touched, not_touched}

-- the row of a list, and the draft's fragments of the list name it
record HasRow (rows : List Row) (added : List Piece) (l : NodeList) : Type 0 where
  at : ℕ
  row : Row
  there : slice_get rows at ≡ Some row
  is_row : RowOf l row
  new : AllByRecursion (λ p. p.row ≡ at) (of_list l.id added)

abbrev differ_ids : List NodeList → Type 0
differ_ids ls = Pairwise (λ l m. l.id ≢ m.id) ls

ids_differ : (ls : List NodeList) → differ_ids ls → Pairwise (λ x y. x ≢ y) (map (λ l. l.id) ls)
ids_differ [] p = tt
ids_differ (l ∷ ls) (a, p) = (all_ids ls a, ids_differ ls p)
  where
    all_ids : (ms : List NodeList) → AllByRecursion (λ m. l.id ≢ m.id) ms → AllByRecursion (λ x. l.id ≢ x) (map (λ m. m.id) ms)
    all_ids [] a = tt
    all_ids (m ∷ ms) (n, a) = (n, all_ids ms a)

-- fragments of lists that are touched are none of another's
none_added : (ts : List CodeTail) (id : ℕ) (ps : List Piece) → row_in ts id ≡ None → AllByRecursion (λ p. row_in ts p.list ≡ Some p.row) ps → of_list id ps ≡ []
none_added ts id [] n a = refl
none_added ts id (p ∷ ps) n (e, a) = elim (cases_Bool (eqb p.list id)) [
  | inl f ↦ let g : p.list ≡ id = grind (arith, nat_tests) in let h : Some p.row ≡ None = sym e ∙ ap (row_in ts) g ∙ n in absurd cc
  | inr f ↦ rw f (none_added ts id ps n a)
]

-- the list of a tail is that of its row
owned_at : (rows : List Row) (u : CodeTail) (at : ℕ) (q : Row) → slice_get rows at ≡ Some q → (u.row < length rows → OwnRow rows u) → u.row ≡ at → u.list ≡ q.id
owned_at rows u at q e o z =
    let w = o (subst (λ j. j < length rows) (sym z) (slice_get_within rows at q e)) in
    let f : Some w.row ≡ Some q = sym w.there ∙ ap (slice_get rows) z ∙ e in
    let same : w.row ≡ q = cc in
    sym w.own ∙ ap (λ (j : Row). j.id) same

-- a list with the tail of another, as its row says
row_like : (l m : NodeList) (r : Row) → tail_of l ≡ tail_of m → 1 ≤ length l.fragments → 1 ≤ length m.fragments → RowOf m r → RowOf l r
row_like l m r e some some' is =
    let n : length l.fragments - 1 ≡ length m.fragments - 1 = ap (λ (t : Tail). t.number) e in
    record {
      id = is.id ∙ sym (ap (λ (t : Tail). t.id) e);
      fragments = omega (arith, is.fragments);
      nodes = is.nodes ∙ sym (ap (λ (t : Tail). t.count) e);
      free = is.free ∙ sym (ap (λ (t : Tail). t.free) e);
    }

row_told : (l : NodeList) (first : ℕ) (t : CodeTail) → as_tail t ≡ tail_of l → 1 ≤ length l.fragments → RowOf l (row_for first t)
row_told l first t e some =
    let n : t.number ≡ length l.fragments - 1 = ap (λ (u : Tail). u.number) e in
    record { id = ap (λ (u : Tail). u.id) e; fragments = omega arith; nodes = ap (λ (u : Tail). u.count) e; free = ap (λ (u : Tail). u.free) e }

module _ (b c : List ℕ) (s : Section) (adds : List Add) (t : Section) (room : Room) (d : DraftLayout)
    (mc : Means c t) (k : Kept b s room) (h : Lays s adds d) (r : Rowed room.lists d) (v : Leaves s adds t) where
  abbrev y : Layout
  y = layout s adds

  abbrev ps : List Piece
  ps = room.pieces.rows

  abbrev rows : List Row
  rows = with_rows d.touched room.lists

  abbrev base : List Tail
  base = map tail_of s.lists

  abbrev both : ℕ → List Piece
  both id = of_list id ps ++ of_list id d.added

  after : After d.touched room.lists rows d.lists
  after =
      let few = mc.few_lists in
      let n = v.lists in
      let m = h.lists in
      rows_after (length room.lists) d.touched room.lists d.lists (omega arith) r.made (omega arith)

  known_id : (id : ℕ) → taken id t.lists ≡ (member id (lists_of d.touched) || taken id s.lists)
  known_id id = v.ids id ∙ ids_known s y (parts (blank s) adds) d id h

  -- where a list's nodes stand, with the fragments that the draft made
  made_parts : (id : ℕ) → parts_of id (parts (blank s) adds) ≡ map part_of (of_list id d.added)
  made_parts id = ap (parts_of id) (sym h.parts) ∙ parts_are id d.added

  all_parts : (id : ℕ) → map part_of (of_list id ps) ++ parts_of id (parts (blank s) adds) ≡ map part_of (both id)
  all_parts id = ap (λ z. map part_of (of_list id ps) ++ z) (made_parts id) ∙ sym (map-append part_of (of_list id ps) (of_list id d.added))

  parted : (l : NodeList) → Grown s.lists (parts (blank s) adds) l → Parted l.id 0 l.fragments l.nodes (map part_of (both l.id))
  parted l (longer m i e f) =
      let found = all_in (Found b room.lists ps) s.lists m k.lists.each (in_from_has s.lists m i) in
      let own : Parted l.id 0 m.fragments m.nodes (map part_of (of_list l.id ps)) = subst (λ z. Parted z 0 m.fragments m.nodes (map part_of (of_list z ps))) e (pieced_parted found.pieces) in
      subst (λ z. Parted l.id 0 l.fragments l.nodes z) (all_parts l.id) (f (map part_of (of_list l.id ps)) own)
  parted l (made n p) =
      let none : of_list l.id ps ≡ [] = k.lists.none l.id n in
      subst (λ z. Parted l.id 0 l.fragments l.nodes z) (made_parts l.id ∙ sym (ap (λ z. map part_of (z ++ of_list l.id d.added)) none)) p

  module _ (l : NodeList) (i : In l t.lists) where
    parted_one : Parted l.id 0 l.fragments l.nodes (map part_of (both l.id))
    parted_one = parted l (all_in (Grown s.lists (parts (blank s) adds)) t.lists l v.parts i)

    some : 1 ≤ length l.fragments
    some = (parted_some parted_one).1

    own_tail : tail_of l ≡ find_tail y.tails l.id
    own_tail = all_in (λ m. tail_of m ≡ find_tail y.tails m.id) t.lists l v.tails i

    is_known : (member l.id (lists_of d.touched) || taken l.id s.lists) ≡ true
    is_known = sym (known_id l.id) ∙ in_taken t.lists l l.id i refl

    -- its row
    row_touched : (u : CodeTail) → tail_for l.id d.touched ≡ Some u → LookedIn d.touched base l.id (Some u) → HasRow rows d.added l
    row_touched u e (m, f, g) =
        let own : as_tail u ≡ tail_of l = f ∙ sym (h.tails l.id) ∙ sym own_tail in
        let n = touched_differ s adds (parts (blank s) adds) d h in
        let (first, there) = after.own u (tail_for_touched l.id d.touched u e) (rows_differ room.lists (length room.lists) (length room.lists) d.touched d.lists (omega arith) r.made r.own n) in
        let at : row_in d.touched l.id ≡ Some u.row = row_in_for d.touched l.id ∙ rw e refl in
        record {
          at = u.row;
          row = row_for first u;
          there = there;
          is_row = row_told l first u own some;
          new = all_of (λ p. row_in d.touched p.list ≡ Some p.row) (λ p. p.row ≡ u.row) l.id d.added (λ p x z. let w : Some p.row ≡ Some u.row = sym x ∙ ap (row_in d.touched) z ∙ at in cc) r.pieces;
        }

    row_kept : LookedIn d.touched base l.id None → HasRow rows d.added l
    row_kept (m, f) =
        let old : taken l.id s.lists ≡ true = rw m at is_known in
        let x = stands b s room l.id k old in
        let found = x.there in
        let there = found.there in
        let same : tail_of l ≡ tail_of x.list = own_tail ∙ h.tails l.id ∙ f ∙ x.tail' in
        let id : found.row.id ≡ l.id = found.is_row.id ∙ x.own in
        let away : AllByRecursion (λ u. u.row ≢ found.at) d.touched
        = all_both (λ (u : CodeTail). u.list ≢ l.id) (λ u. u.row < length room.lists → OwnRow room.lists u) (λ u. u.row ≢ found.at) d.touched
        (λ u n o z. n (owned_at room.lists u found.at found.row there o z ∙ id)) (not_touched l.id d.touched m) r.own in
        record {
          at = found.at;
          row = found.row;
          there = after.stays found.at found.row away there;
          is_row = row_like l x.list found.row same some (parted_some (pieced_parted found.pieces)).1 found.is_row;
          new = let none = none_added d.touched l.id d.added (row_none d.touched l.id m) r.pieces in rw none tt;
        }

    has_row : HasRow rows d.added l
    has_row = by (tail_for l.id d.touched) refl (tail_for_in d.touched base l.id)
      where
        by : (o : Option CodeTail) → tail_for l.id d.touched ≡ o → LookedIn d.touched base l.id o → HasRow rows d.added l
        by None e x = row_kept x
        by (Some u) e x = row_touched u e x

  -- one row for each list
  one_for_each : (i j : ℕ) (q w : Row) → slice_get rows i ≡ Some q → slice_get rows j ≡ Some w → q.id ≡ w.id → i ≡ j
  one_for_each =
      let ids : List ℕ = map (λ (l : NodeList). l.id) t.lists in
      let n : length ids ≡ length t.lists = length-map t.lists (λ (l : NodeList). l.id) in
      let m = after.number in
      let x = v.lists in
      let z = h.lists in
      one_row ids rows (ids_differ t.lists mc.ids_differ) (λ id i.
      let (l, j, e) = in_unmap (λ (l : NodeList). l.id) t.lists id i in
      let w = has_row l j in
      subst (λ g. In g (ids_of rows)) (w.is_row.id ∙ e) (in_ids rows w.at w.row w.there)) (omega arith)

  module _ (l : NodeList) (i : In l t.lists) where
    -- the fragments that the list had name the same row
    old_rows : AllByRecursion (λ p. p.row ≡ (has_row l i).at) (of_list l.id ps)
    old_rows = elim (cases_Bool (taken l.id s.lists)) [
      | inr e ↦ let none = k.lists.none l.id e in rw none tt
      | inl e ↦
          let x = stands b s room l.id k e in
          let found = x.there in
          let w = has_row l i in
          let named : AllByRecursion (λ u. u.row ≡ found.at → u.list ≡ found.row.id) d.touched
          = All-weaker (λ (u : CodeTail). u.row < length room.lists → OwnRow room.lists u) (λ u. u.row ≡ found.at → u.list ≡ found.row.id) (λ u o z. owned_at room.lists u found.at found.row found.there o z) d.touched r.own in
          let (q, there, id) = after.keeps found.at found.row named found.there in
          let at : found.at ≡ w.at = one_for_each found.at w.at q w.row there w.there (id ∙ found.is_row.id ∙ x.own ∙ sym w.is_row.id) in
          let own : AllByRecursion (λ p. p.row ≡ found.at) (of_list l.id ps) = subst (λ z. AllByRecursion (λ (p : Piece). p.row ≡ found.at) (of_list z ps)) x.own (pieced_rows found.pieces) in
          All-weaker (λ (p : Piece). p.row ≡ found.at) (λ p. p.row ≡ w.at) (λ p z. z ∙ at) (of_list l.id ps) own
    ]

    pieced : Pieced c l.id (has_row l i).at 0 l.fragments l.nodes (both l.id)
    pieced =
        let part = (all_in (StandsIn c t.header t.log) t.lists l mc.lists i).part in
        let (x, z, w) = pairs_split Apart t.log.fragments (list_fragments t.lists) mc.fragments_apart.1 in
        let g = has_row l i in
        parted_pieced c t.header.end l.id g.at part.spread (fragments_apart t.lists l z i) part.inside (parted_one l i) (both l.id) refl
        (All-append (λ p. p.row ≡ g.at) (of_list l.id ps) (of_list l.id d.added) old_rows g.new)

  -- there are no others
  none_else : (id : ℕ) → taken id t.lists ≡ false → both id ≡ []
  none_else id e =
      let f : (member id (lists_of d.touched) || taken id s.lists) ≡ false = sym (known_id id) ∙ e in
      let m : member id (lists_of d.touched) ≡ false = grind arith in
      let n : taken id s.lists ≡ false = rw m at f in
      ap₂ (λ (xs zs : List Piece). xs ++ zs) (k.lists.none id n) (none_added d.touched id d.added (row_none d.touched id m) r.pieces)

  split : (id : ℕ) → of_list id (ps ++ d.added) ≡ both id
  split id = filter-append (λ (p : Piece). eqb p.list id) ps d.added

  -- so there is room for the new ones
  roomy : length ps + length d.added ≤ 2048
  roomy =
      let each : AllByRecursion (λ l. length (of_list l.id (ps ++ d.added)) ≡ length l.fragments) t.lists
      = all_from_in (λ (l : NodeList). length (of_list l.id (ps ++ d.added)) ≡ length l.fragments) t.lists (λ l i. ap length (split l.id) ∙ sym (length-map (both l.id) part_of) ∙ (parted_some (parted_one l i)).0) in
      let n = as_many t.lists (ps ++ d.added) mc.ids_differ each (λ id e. split id ∙ none_else id e) in
      let few = mc.few_fragments in
      let m = length-append ps d.added in
      let w = length-append t.log.fragments (list_fragments t.lists) in
      omega arith

  ascend : (id : ℕ) → Ascend (both id)
  ascend id = elim (cases_Bool (taken id t.lists)) [
    | inl e ↦ let (l, i, g) = taken_in t.lists id e in subst (λ z. Ascend (both z)) g (pieced_ascend (pieced l i))
    | inr e ↦ let none = none_else id e in rw none tt
  ]

  pub indexed : (after' : List Row) → after' ≡ rows → (qs : List Piece) → (length ps + length d.added ≤ 2048 → (id : ℕ) → of_list id qs ≡ put_all d.added id (of_list id ps)) → Indexed c t.lists after' qs
  indexed after' is qs put =
      let all : (id : ℕ) → of_list id qs ≡ both id = λ id. put roomy id ∙ put_all_is d.added id (of_list id ps) (ascend id) in
      record {
        each = all_from_in (Found c after' qs) t.lists (λ l i.
            let w = has_row l i in
            record {
              at = w.at;
              row = w.row;
              there = ap (λ z. slice_get z w.at) is ∙ w.there;
              is_row = w.is_row;
              pieces = subst (λ z. Pieced c l.id w.at 0 l.fragments l.nodes z) (sym (all l.id)) (pieced l i);
            });
        none = λ id e. all id ∙ none_else id e;
        number = ap length is ∙ after.number ∙ h.lists ∙ sym v.lists;
      }
