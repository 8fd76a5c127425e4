-- Fragments of a file node list: marks, list ID, number in the list, nodes, next reference.
use Rattle.std.specs.Prelude.{ℕ, ◌+◌, ◌-◌, Bool, not, ◌||◌, List, ◌++◌, length, replicate, ◌==◌}
use Rattle.model.specs.declared.types.Span.{Span}
use Rattle.model.specs.Bytes.{le, digits}
use Rattle.model.specs.References.{end_of, nil, span_bytes}

abbrev pub first_mark : ℕ
first_mark = 0xA4567AB1F5F7F4C4

abbrev pub last_mark : ℕ
last_mark = 0x8BC215C38233BA4B

-- a fragment holds the first mark, the list's ID, its number in the list from 0 on, nodes, the next reference and the last mark
abbrev pub owner : List ℕ → Span → ℕ
owner b f = le 4 b (f.start + 8)

abbrev pub unmarked : List ℕ → Span → Bool
unmarked b f = not (le 8 b f.start == first_mark) || not (le 8 b (end_of f - 8) == last_mark)

abbrev pub sequence : List ℕ → Span → ℕ
sequence b f = le 4 b (f.start + 12)

-- where its nodes begin, and where they must end: there stands the next reference
abbrev pub nodes_from : Span → ℕ
nodes_from f = f.start + 16

abbrev pub nodes_to : Span → ℕ
nodes_to f = end_of f - 20

-- a new fragment has 1,024 bytes, with room for a node of 988: nil for the next, zeros elsewhere
abbrev pub new_fragment : ℕ → ℕ → List ℕ → List ℕ
new_fragment id number node =
    digits 8 first_mark ++ (digits 4 id ++ (digits 4 number ++ (node ++ (replicate (988 - length node) 0 ++ (span_bytes nil ++ digits 8 last_mark)))))
