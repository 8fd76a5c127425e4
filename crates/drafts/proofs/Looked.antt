-- The tail of a list in a draft: the draft's own, or the finished one.
use Rattle.std.proofs.Common.{◌≡◌, ℕ, ◌||◌, eqb, List, [], ◌∷◌, map, Some, None, Option, refl, ap, sym, ◌∙◌, inl, inr}
use Rattle.std.proofs.lemmas.Bool.{cases_Bool}
use Rattle.model.specs.Section.{Section}
use Rattle.model.specs.OpenedLists.{taken}
use Rattle.model.specs.Layouts.{Layout, tail_of, member}
use Rattle.commits.specs.Parts.{Part}
use Rattle.tables.specs.declared.room.Row.{Row}
use Rattle.writing.specs.declared.tails.Tail.{Tail}
use Rattle.drafts.specs.declared.layout.DraftLayout.{DraftLayout}
use Rattle.drafts.specs.Lays.{Holds}
use Rattle.drafts.specs.Rowed.{row_in}
use Rattle.drafts.specs.Looked.{tail_for, Finished, TailOf, RowKnown, RowOf}
use Rattle.drafts.proofs.Begun.{ids_tails}
use Rattle.drafts.proofs.Finished.{taken_member}
use Rattle.drafts.proofs.Tails.{In, tail_for_in, lists_of}

-- what a draft knows of a list: it is touched, or finished, or neither
pub ids_known : (s : Section) (y : Layout) (ps : List Part) (d : DraftLayout) (id : ℕ) → Holds s y ps d
    → member id (map (λ t. t.id) y.tails) ≡ (member id (lists_of d.touched) || taken id s.lists)
ids_known s y ps d id h =
    let e : member id (map (λ l. l.id) s.lists) ≡ taken id s.lists = sym (ap (member id) (ids_tails s.lists)) ∙ sym (taken_member id s.lists) in
    h.known id ∙ rw (h.touched, e) refl

touched_one : (s : Section) (y : Layout) (ps : List Part) (d : DraftLayout) (id : ℕ) → Holds s y ps d
    → (t : Tail) → In d.touched (map tail_of s.lists) id (Some t) → TailOf y id (Some t)
touched_one s y ps d id h t (m, e, l) = (ids_known s y ps d id h ∙ rw m refl, e ∙ sym (h.tails id))

finished_one : (s : Section) (y : Layout) (ps : List Part) (d : DraftLayout) (id : ℕ) → Holds s y ps d → In d.touched (map tail_of s.lists) id None
    → (o : Option Tail) → Finished s.lists id o → TailOf y id o
finished_one s y ps d id h (m, e) None f = ids_known s y ps d id h ∙ rw (m, f) refl
finished_one s y ps d id h (m, e) (Some t) (f, g) = (ids_known s y ps d id h ∙ rw (m, f) refl, g ∙ sym (h.tails id ∙ e))

-- the tail that is looked up: the draft's own, else the one of the finished list
module _ (s : Section) (y : Layout) (ps : List Part) (d : DraftLayout) (id : ℕ) (h : Holds s y ps d) where
  pub tail_touched : (t : Tail) → Some t ≡ tail_for id d.touched → TailOf y id (Some t)
  tail_touched t e = touched_one s y ps d id h t (rw (sym e) at (tail_for_in d.touched (map tail_of s.lists) id))

  pub tail_finished : None ≡ tail_for id d.touched → (o : Option Tail) → Finished s.lists id o → TailOf y id o
  tail_finished e o f = finished_one s y ps d id h (rw (sym e) at (tail_for_in d.touched (map tail_of s.lists) id)) o f

pub row_in_for : (ts : List Tail) (id : ℕ) → row_in ts id ≡ elim (tail_for id ts) [ Some t ↦ Some t.row | None ↦ None ]
row_in_for [] id = refl
row_in_for (t ∷ ts) id = elim (cases_Bool (eqb t.list id)) [ inl e ↦ rw e refl | inr e ↦ rw e (row_in_for ts id) ]

module _ (rows : List Row) (ts : List Tail) (id : ℕ) where
  pub row_touched : (t : Tail) → Some t ≡ tail_for id ts → RowOf rows ts id (Some t)
  row_touched t e =
      let (m, x, i) = rw (sym e) at (tail_for_in ts [] id) in
      let n : row_in ts id ≡ Some t.row = row_in_for ts id ∙ rw (sym e) refl in
      (i, inl (rw i n))

  pub row_finished : None ≡ tail_for id ts → (o : Option Tail) → RowKnown rows id o → RowOf rows ts id o
  row_finished e None k = k
  row_finished e (Some t) (i, l, g) = let n : row_in ts id ≡ None = row_in_for ts id ∙ rw (sym e) refl in (i, inr (rw i n, l, g))
