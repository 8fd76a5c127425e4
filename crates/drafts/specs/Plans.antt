-- What a plan says: the first broken rule, or the step that the rules plan.
use Rattle.std.specs.Prelude.{◌≡◌, ℕ, ◌+◌, ◌^◌, ◌≤◌, Bool, true, false, not, ◌&&◌, ◌||◌, List, [], ◌∷◌, ◌++◌, map, length, Some, None, Ok, Err, Option, Result, IfOk, is_some, nat_le, nat_lt}
use Rattle.std.specs.List.{AllByRecursion}
use Rattle.model.specs.Faults.{Outcome, refused, Check, unless}
use Rattle.model.specs.Layouts.{Add, plain, with_data, branch, Layout, member, touch, find_tail, touching}
use Rattle.model.specs.Saving.{planned}
use Rattle.model.specs.Calls.{Effect, saving, list_of, past_ceiling, add_checks}
use Rattle.commits.specs.Parts.{new_parts}
use Rattle.pieces.specs.declared.piece.Piece.{Piece}
use Rattle.refusals.specs.CallRefusals.{save_told}
use Rattle.refusals.specs.declared.calls.SaveFault.{SaveFault}
use Rattle.writing.specs.declared.tails.Tail.{Tail}
use Rattle.writing.specs.Tails.{as_tail, InReach}
use Rattle.drafts.specs.declared.step.Step.{Step}
use Rattle.drafts.specs.Lays.{part_of}
use Rattle.drafts.specs.Steps.{one, first_piece, pieces_of}
use Rattle.drafts.specs.Looked.{tail_for}

-- a list that is made in the list `parent` is touched after it, and its tail comes behind the others
abbrev pub made_touched : ℕ → Option Tail → List ℕ → List ℕ
made_touched parent None ids = ids
made_touched parent (Some m) ids = touch m.list (touch parent ids)

abbrev pub made_tails : Option Tail → List Rattle.model.specs.Layouts.Tail → List Rattle.model.specs.Layouts.Tail
made_tails None ts = ts
made_tails (Some m) ts = ts ++ (as_tail m ∷ [])

-- the layout that a step makes
abbrev pub stepped : Layout → Step → Layout
stepped y p =
    touching (as_tail p.tail) (record {
      end = p.end;
      fragments = p.fragments;
      lists = p.lists;
      touched = made_touched p.tail.list p.made y.touched;
      tails = made_tails p.made y.tails;
      highest = p.highest;
    })

-- a list that is made has the next ID and the next row, and one fragment
abbrev pub Makes : ℕ → ℕ → Step → Option Tail → Type 0
Makes highest lists p None = (p.highest ≡ highest) × (p.lists ≡ lists)
Makes highest lists p (Some m) = (m.list ≡ highest + 1) × (m.row ≡ lists) × (p.highest ≡ highest + 1) × (p.lists ≡ lists + 1)

-- a fragment more is one of the list with this tail
abbrev pub Spills : Tail → Option Piece → Type 0
Spills t None = Unit {0}
Spills t (Some q) = (q.list ≡ t.list) × (q.row ≡ t.row)

-- an add makes a list
abbrev pub branches : Add → Bool
branches (plain list id payload) = false
branches (with_data list id payload content) = false
branches (branch list id payload first_id first_payload) = true

-- the step p is what the rules plan for the add a over the layout y
pub record Plans (y : Layout) (a : Add) (p : Step) : Type 0 where
  pub known : member (list_of a) (map (λ t. t.id) y.tails) ≡ true
  pub before : as_tail p.before ≡ find_tail y.tails (list_of a)
  pub reach : InReach y.end p.before
  pub layout : (planned y a).layout ≡ stepped y p
  pub parts : new_parts y a ≡ map part_of (pieces_of p)
  pub fragments : p.fragments ≡ y.fragments + length (pieces_of p)
  pub list : p.tail.list ≡ list_of a
  pub same : p.tail.list ≡ p.before.list
  pub row : p.tail.row ≡ p.before.row
  pub branch' : is_some p.made ≡ branches a
  pub makes : Makes y.highest y.lists p p.made
  pub first : p.made_piece ≡ first_piece p.made
  pub spills : Spills p.tail p.piece
  -- there is room for what it touches and makes
  pub few_touched : length (planned y a).layout.touched ≤ 16
  pub few_fragments : p.fragments ≤ 2048

-- a draft with this step touches a 17th list
abbrev pub touches_more : List Tail → Step → Bool
touches_more touched p = nat_lt 16 (length touched + one (not (is_some (tail_for p.tail.list touched))) + one (is_some p.made))

-- the list's count or the new list's ID would outgrow 4 bytes
abbrev pub outgrows : ℕ → Step → Bool
outgrows highest p = nat_le (2 ^ 32) (p.before.count + 1) || (is_some p.made && nat_le (2 ^ 32) (highest + 1))

-- the checks that need the step p, over a draft that ends at `end`
abbrev pub step_checks : (end highest ceiling : ℕ) → List Tail → Step → List Check
step_checks end highest ceiling touched p =
    (touches_more touched p, saving 20)
    ∷ (nat_lt 1024 p.lists || nat_lt 2048 p.fragments, saving 13)
    ∷ (outgrows highest p, saving 23)
    ∷ (past_ceiling end ceiling p.end, saving 24)
    ∷ []

-- no rule is broken, or the first broken one is told
abbrev pub Says : {T : Type 0} → List Check → Result T SaveFault → Type 0
Says cs (Ok x) = AllByRecursion (λ c. c.0 ≡ false) cs
Says cs (Err e) = (rest : Outcome Effect) → unless cs rest ≡ refused (save_told e)

-- the first broken rule is told; an add that passes its checks is planned
abbrev pub Tells : ℕ → Layout → Add → Result Step SaveFault → Type 0
Tells ceiling y a r = Says (add_checks ceiling y a) r × IfOk r (Plans y a)
