-- What one add makes of a draft, by the draft's numbers, the list's tail, and the ID of the list that a branch makes.
use Rattle.std.specs.Prelude.{ℕ, ◌+◌, ◌-◌, ◌%◌, ◌^◌, min, Bool, cond, not, List, [], ◌∷◌, ◌++◌, length, Some, None, Option, is_some, nat_le}
use Rattle.model.specs.References.{span}
use Rattle.model.specs.ListFragments.{nodes_to}
use Rattle.model.specs.Layouts.{Add, plain, with_data, branch}
use Rattle.pieces.specs.declared.piece.Piece.{Piece}
use Rattle.writing.specs.declared.tails.Tail.{Tail}
use Rattle.drafts.specs.declared.step.Step.{Step}

abbrev pub one : Bool → ℕ
one b = cond b 1 0

-- a number of four bytes, or the highest of them
abbrev pub capped : ℕ → ℕ
capped n = min n (2 ^ 32 - 1)

-- the next place divisible by 8
abbrev pub next_eight : ℕ → ℕ
next_eight place = place + (8 - place % 8) % 8

-- how many bytes the node takes
abbrev pub node_size : Add → ℕ
node_size (plain list id payload) = 4 + length payload
node_size (with_data list id payload content) = 16 + length payload
node_size (branch list id payload first_id first_payload) = 16 + length payload

-- the place behind the data or the branch's fragment, which come before the node
abbrev pub first_end : ℕ → Add → ℕ
first_end end (plain list id payload) = end
first_end end (with_data list id payload content) = next_eight (end + length content)
first_end end (branch list id payload first_id first_payload) = next_eight (end + 1024)

-- a node of this size goes behind the last of its list
abbrev pub fits : Tail → ℕ → Bool
fits t size = nat_le (t.free + size) (nodes_to t.fragment)

-- the draft's end then; where the node does not fit, a new fragment stands at `at`
abbrev pub end_behind : Tail → ℕ → ℕ → ℕ
end_behind t at size = cond (fits t size) at (next_eight (at + 1024))

-- the list's tail then, with its new count
abbrev pub moved : Tail → ℕ → ℕ → ℕ → Tail
moved t at size count =
    cond (fits t size)
    (record { list = t.list; row = t.row; fragment = t.fragment; number = t.number; free = t.free + size; count = count })
    (record { list = t.list; row = t.row; fragment = span at 1024; number = t.number + 1; free = at + 16 + size; count = count })

abbrev pub spilt : Tail → ℕ → ℕ → Option Piece
spilt t at size = cond (fits t size) None (Some (record { list = t.list; from = t.count; row = t.row; fragment = span at 1024 }))

-- the tail of the list that a branch makes, with this row and ID, and its fragment
abbrev pub made_tail : ℕ → ℕ → ℕ → Add → Option Tail
made_tail end row id (plain list node payload) = None
made_tail end row id (with_data list node payload content) = None
made_tail end row id (branch list node payload first_id first_payload) =
    Some (record { list = id; row = row; fragment = span end 1024; number = 0; free = end + 16 + (4 + length first_payload); count = 1 })

abbrev pub first_piece : Option Tail → Option Piece
first_piece None = None
first_piece (Some m) = Some (record { list = m.list; from = 0; row = m.row; fragment = m.fragment })

abbrev pub highest_with : ℕ → Option Tail → ℕ
highest_with highest None = highest
highest_with highest (Some m) = m.list

-- the step, over the numbers that the draft has once a list was made, if one is; the node goes to the list with the tail t
abbrev pub step_with : (at fragments lists highest size count : ℕ) → Option Tail → Tail → Step
step_with at fragments lists highest size count made t =
    record {
      before = t;
      end = end_behind t at size;
      fragments = fragments + one (not (fits t size));
      lists = lists;
      highest = highest;
      tail = moved t at size count;
      made = made;
      made_piece = first_piece made;
      piece = spilt t at size;
    }

-- the same over the draft's own numbers; a list that is made has the ID `id`
unfoldable pub step_of : (end fragments lists highest id count : ℕ) → Tail → Add → Step
step_of end fragments lists highest id count t a =
    let made = made_tail end lists id a in
    step_with (first_end end a) (fragments + one (is_some made)) (lists + one (is_some made)) (highest_with highest made) (node_size a) count made t

-- the fragments that a step makes, in order
abbrev pub maybe : {X : Type 0} → Option X → List X
maybe None = []
maybe (Some x) = x ∷ []

abbrev pub pieces_of : Step → List Piece
pieces_of p = maybe p.made_piece ++ maybe p.piece
