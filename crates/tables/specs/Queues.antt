-- The queue of lists that were named. No list past the 1,025th is ever reached, so the queue holds only so many.
use Rattle.std.specs.Prelude.{◌≡◌, ℕ, ◌+◌, cond, ◌&&◌, List, [], ◌∷◌, ◌++◌, map, take, ◌==◌}
use Rattle.model.specs.declared.types.Span.{Span}
use Rattle.model.specs.References.{present}
use Rattle.model.specs.Nodes.{Node, field_of, referring}
use Rattle.tables.specs.declared.queue.Named.{Named}

-- a name in the definitions' form: the place of the reference's field, and the reference
abbrev pub pair_of : Named → ℕ × Span
pair_of n = (n.field, n.span)

-- the queue holds the first 1,025 of all names
abbrev pub Held : List Named → List (ℕ × Span) → Type 0
Held queue all = map pair_of queue ≡ take 1025 all

-- the queue `is` has the names of `was`, and then `more`
abbrev pub Names : List Named → List (ℕ × Span) → List Named → Type 0
Names was more is = (all : List (ℕ × Span)) → Held was all → Held is (all ++ more)

-- the lists that nodes refer to
abbrev pub names_of : List Node → List (ℕ × Span)
names_of ns = map (λ n. (field_of n, n.reference)) (referring 2 ns)

-- the list that a node at a place refers to, by its BaseType and its reference
abbrev pub name_of : ℕ → ℕ → Span → List (ℕ × Span)
name_of place base r = cond (base == 2 && present r) ((place + 4, r) ∷ []) []
