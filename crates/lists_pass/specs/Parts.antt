-- What is read of a list: a fragment's nodes, in the definitions' words.
use Rattle.std.specs.Prelude.{◌≡◌, ℕ, ◌-◌, cond, List, ◌++◌, length, Ok, Err, Result, ◌==◌}
use Rattle.model.specs.declared.types.Span.{Span}
use Rattle.model.specs.Faults.{done, refused}
use Rattle.model.specs.Nodes.{Node}
use Rattle.model.specs.ListFragments.{nodes_from, nodes_to}
use Rattle.model.specs.Means.{Nodes}
use Rattle.model.specs.OpenedLists.{counted, uncounted, nodes_at}
use Rattle.tables.specs.declared.queue.Named.{Named}
use Rattle.refusals.specs.declared.faults.InList.{InList}
use Rattle.lists_pass.specs.declared.Part.{Part}
use Rattle.refusals.specs.Refusals.{list_told}
use Rattle.tables.specs.Queues.{Names, names_of}

-- k nodes of the fragment f were read, and `place` is behind the last of them: behind any nodes ns, the walk goes on there
pub record Walking (b : List ℕ) (left list : ℕ) (f : Span) (k place : ℕ) (was is : List Named) : Type 0 where
  pub nodes : List Node
  pub number : k ≡ length nodes
  pub names : Names was (names_of nodes) is
  pub stand : Nodes b (nodes_to f) (nodes_from f) nodes place
  pub goes : (ns : List Node) → nodes_at left b list (nodes_to f) (nodes_from f) ns ≡ nodes_at (left - k) b list (nodes_to f) place (ns ++ nodes)

-- a fragment's k nodes were read: the count is reached by the last of them, or the fragment hands over
pub record Walked (b : List ℕ) (left list : ℕ) (f : Span) (k free : ℕ) (was is : List Named) : Type 0 where
  pub nodes : List Node
  pub number : k ≡ length nodes
  pub names : Names was (names_of nodes) is
  pub stand : Nodes b (nodes_to f) (nodes_from f) nodes free
  pub gives : (ns : List Node) →
      nodes_at left b list (nodes_to f) (nodes_from f) ns ≡ done (cond (k == left) (counted (ns ++ nodes) free) (uncounted (ns ++ nodes)))

-- the answer to reading a fragment's nodes
abbrev pub Walks : List ℕ → ℕ → ℕ → Span → List Named → List Named → Result Part InList → Type 0
Walks b left list f was is (Ok p) = Walked b left list f p.nodes p.free was is
Walks b left list f was is (Err e) = (ns : List Node) → nodes_at left b list (nodes_to f) (nodes_from f) ns ≡ refused (list_told e)
