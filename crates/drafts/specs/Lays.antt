-- What the draft of the code says of the layout.
use Rattle.std.specs.Prelude.{◌≡◌, ℕ, ◌^◌, ◌<◌, ◌≤◌, true, cond, ◌||◌, List, [], ◌∷◌, map, length, ◌==◌}
use Rattle.std.specs.List.{AllByRecursion}
use Rattle.model.specs.Means.{Inside}
use Rattle.model.specs.Section.{Section}
use Rattle.model.specs.Layouts.{Add, tail_of, member, find_tail, Layout, blank}
use Rattle.model.specs.Saving.{layout}
use Rattle.commits.specs.Parts.{Part, part, parts}
use Rattle.pieces.specs.declared.piece.Piece.{Piece}
use Rattle.writing.specs.declared.tails.Tail.{Tail}
use Rattle.writing.specs.Tails.{as_tail}
use Rattle.drafts.specs.declared.layout.DraftLayout.{DraftLayout}

-- a list's tail: the draft's, if it touched the list, else the finished one
abbrev pub tail_in : List Tail → List Rattle.model.specs.Layouts.Tail → ℕ → Rattle.model.specs.Layouts.Tail
tail_in [] base id = find_tail base id
tail_in (t ∷ ts) base id = cond (t.list == id) (as_tail t) (tail_in ts base id)

abbrev pub part_of : Piece → Part
part_of p = part p.list p.from p.fragment

-- the draft d, over s, is the layout y, and made the fragments ps
pub record Holds (s : Section) (y : Layout) (ps : List Part) (d : DraftLayout) : Type 0 where
  pub end' : d.end ≡ y.end
  pub fragments : d.fragments ≡ y.fragments
  pub lists : d.lists ≡ y.lists
  pub highest : d.highest ≡ y.highest
  pub touched : map (λ t. t.list) d.touched ≡ y.touched
  pub tails : (id : ℕ) → find_tail y.tails id ≡ tail_in d.touched (map tail_of s.lists) id
  pub known : (id : ℕ) → member id (map (λ t. t.id) y.tails) ≡ (member id y.touched || member id (map (λ l. l.id) s.lists))
  pub parts : map part_of d.added ≡ ps
  -- no list has a higher ID, and each new fragment is counted
  pub below : (id : ℕ) → member id (map (λ t. t.id) y.tails) ≡ true → id ≤ y.highest
  pub few : length d.added ≤ d.fragments

-- the draft d is the layout of these adds over s
abbrev pub Lays : Section → List Add → DraftLayout → Type 0
Lays s adds d = Holds s (layout s adds) (parts (blank s) adds) d

-- the numbers of a layout that its checks let through
pub record Bounds (y : Layout) : Type 0 where
  pub end' : y.end ≤ 2 ^ 40
  pub highest : y.highest < 2 ^ 32
  pub fragments : y.fragments ≤ 2048
  pub lists : y.lists ≤ 1024
  pub touched : length y.touched ≤ 16
  pub tails : AllByRecursion (λ t. Inside 36 (2 ^ 40) t.fragment × (t.free ≤ 2 ^ 40) × (t.number < 2048) × (t.count < 2 ^ 32)) y.tails
