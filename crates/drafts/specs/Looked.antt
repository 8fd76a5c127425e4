-- A list's tail, looked up in the tables of an opened file and in a draft.
use Rattle.std.specs.Prelude.{◌≡◌, ℕ, ◌<◌, true, false, cond, List, [], ◌∷◌, map, length, Some, None, Option, IfSome, ◌==◌}
use Rattle.std.specs.List.{find}
use Rattle.model.specs.Section.{NodeList}
use Rattle.model.specs.OpenedLists.{taken}
use Rattle.model.specs.Layouts.{Layout, tail_of, member, find_tail}
use Rattle.tables.specs.declared.room.Row.{Row}
use Rattle.writing.specs.declared.tails.Tail.{Tail}
use Rattle.writing.specs.Tails.{as_tail}
use Rattle.drafts.specs.Rowed.{OwnRow, RowFor}

-- the tail of the list `id`, if it is touched
abbrev pub tail_for : ℕ → List Tail → Option Tail
tail_for id ts = find (λ t. t.list == id) ts

-- the tail t, if the list is touched; else t goes behind the others
abbrev pub put_tail : Tail → List Tail → List Tail
put_tail t [] = t ∷ []
put_tail t (u ∷ us) = cond (u.list == t.list) (t ∷ us) (u ∷ put_tail t us)

-- the finished tail of the list `id`, if that is reached
abbrev pub Finished : List NodeList → ℕ → Option Tail → Type 0
Finished ls id None = taken id ls ≡ false
Finished ls id (Some t) = (taken id ls ≡ true) × (as_tail t ≡ find_tail (map tail_of ls) id)

-- the tail of the list `id` in a layout, if it has one
abbrev pub TailOf : Layout → ℕ → Option Tail → Type 0
TailOf y id None = member id (map (λ t. t.id) y.tails) ≡ false
TailOf y id (Some t) = (member id (map (λ t. t.id) y.tails) ≡ true) × (as_tail t ≡ find_tail y.tails id)

-- the tail of a list that was looked up is its own, and names its row
abbrev pub RowKnown : List Row → ℕ → Option Tail → Type 0
RowKnown rows id o = IfSome o (λ t. (t.list ≡ id) × (t.row < length rows) × OwnRow rows t)

-- the same of a list that a draft may have touched
abbrev pub RowOf : List Row → List Tail → ℕ → Option Tail → Type 0
RowOf rows ts id o = IfSome o (λ t. (t.list ≡ id) × RowFor rows ts t)

-- the tails of a draft with that of a list made, if one was made
abbrev pub put_made : Option Tail → List Tail → List Tail
put_made None ts = ts
put_made (Some m) ts = put_tail m ts
