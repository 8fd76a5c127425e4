-- The checks of a list's fragment in the order of the code.
use Rattle.std.specs.Prelude.{ℕ, Bool, not, ◌||◌, List, [], ◌∷◌, ◌++◌, length, ◌==◌, nat_le, nat_lt}
use Rattle.model.specs.declared.types.Span.{Span}
use Rattle.model.specs.Faults.{fault, Check}
use Rattle.model.specs.References.{span_at}
use Rattle.model.specs.ListFragments.{owner, unmarked, sequence, nodes_to}
use Rattle.model.specs.OpenedLog.{outside, overlaps}
use Rattle.counts.specs.declared.changes.Change.{Change}
use Rattle.counts.specs.Noted.{noted}
use Rattle.tables.specs.declared.queue.Named.{Named}
use Rattle.pieces.specs.declared.piece.Piece.{Piece}
use Rattle.pieces.specs.Found.{of_list, some_of}

-- the place of a fragment behind all that were taken in; 13 full: there are 2,048
abbrev pub place_checks : ℕ → List Span → ℕ → Span → ℕ → List Check
place_checks end all field f told =
    (outside 36 end f, fault 5 3 field told) ∷ (nat_le 2048 (length all), fault 13 3 field told) ∷ (overlaps f all, fault 11 3 field told) ∷ []

-- a mark, the number in the list or the list ID is wrong, or the ID is under 16
abbrev pub mislabelled : List ℕ → Span → ℕ → ℕ → Bool
mislabelled b f id n = unmarked b f || not (sequence b f == n) || not (owner b f == id) || nat_lt id 16

abbrev pub label_checks : List ℕ → Span → ℕ → ℕ → ℕ → List Check
label_checks b f id n told = (mislabelled b f id n, fault 8 3 f.start told) ∷ []

-- at a list's first fragment: a list read before has its ID, and so there are pieces of it; or the log does not count it
abbrev pub first_checks : List Piece → ℕ → ℕ → Span → List Check
first_checks ps count id f = (some_of (of_list id ps), fault 12 3 f.start id) ∷ ((count == 0), fault 10 3 f.start id) ∷ []

-- all checks of a list's first fragment, behind the fragments `all`
abbrev pub begin_checks : List ℕ → ℕ → List Span → List Piece → List Change → Named → List Check
begin_checks b end all ps cs q =
    let id = owner b q.span in
    place_checks end all q.field q.span 0 ++ (label_checks b q.span id 0 0 ++ first_checks ps (noted cs id) id q.span)

-- all checks of the fragment that follows f in its list, the n-th from 0 on
abbrev pub next_checks : List ℕ → ℕ → List Span → ℕ → ℕ → Span → List Check
next_checks b end all id n f =
    let g = span_at b (nodes_to f) in
    place_checks end all (nodes_to f) g id ++ label_checks b g id n id
