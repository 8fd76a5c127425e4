-- The lists of a file with a draft in it: what Means says of them, but for the counts, for bytes that a draft has grown.
use Rattle.std.specs.Prelude.{◌≡◌, ℕ, ◌<◌, ◌≤◌, ◌≢◌, List, [], ◌∷◌, ◌++◌, map, length}
use Rattle.std.specs.List.{ContainsAt, AllByRecursion}
use Rattle.model.specs.declared.types.Span.{Span}
use Rattle.model.specs.declared.types.Header.{Header}
use Rattle.model.specs.References.{end_of}
use Rattle.model.specs.Headers.{header_span}
use Rattle.model.specs.Nodes.{Node}
use Rattle.model.specs.ListFragments.{nodes_from}
use Rattle.model.specs.Section.{NodeList, list_fragments, first_of}
use Rattle.model.specs.Means.{Apart, Pairwise, PartOfList, named_in, Reached, data_spans}
use Rattle.model.specs.Laws.{last_fragment}

-- a list is right, and its last node stands in its last fragment
pub record Right (b : List ℕ) (h : Header) (l : NodeList) : Type 0 where
  pub part : PartOfList b h l.id l.fragments l.nodes l.free
  pub ends : nodes_from (last_fragment l.fragments) < l.free

-- the lists ls in b, as far as bytes go; gs are the log's fragments
pub record Body (b : List ℕ) (h : Header) (gs : List Span) (ls : List NodeList) : Type 0 where
  pub whole : h.end ≤ length b
  pub least : 1024 ≤ h.end
  pub lists : AllByRecursion (Right b h) ls
  pub ids_differ : Pairwise (λ l m. l.id ≢ m.id) ls
  pub log_inside : AllByRecursion (λ f. end_of f ≤ h.end) gs
  pub apart : Pairwise Apart (header_span ∷ (gs ++ list_fragments ls))
  pub data_inside : AllByRecursion (λ r. end_of r ≤ h.end) (data_spans ls)
  pub data_apart : AllByRecursion (λ r. AllByRecursion (Apart r) (header_span ∷ (gs ++ list_fragments ls))) (data_spans ls)

-- the lists are the reached ones, and each is named once; no bytes
pub record Tied (h : Header) (ls : List NodeList) : Type 0 where
  pub reached : AllByRecursion (λ l. Reached h ls (first_of l)) ls
  pub named : AllByRecursion (λ q. ContainsAt (map first_of ls) q.1) (named_in h ls)
  pub once : length (named_in h ls) ≡ length ls

-- a list with one node more, at its end, in its last fragment or in a new one
abbrev pub with_one : NodeList → Node → ℕ → NodeList
with_one l n q = record { id = l.id; fragments = l.fragments; nodes = l.nodes ++ (n ∷ []); free = q }

abbrev pub with_fragment : NodeList → Span → Node → ℕ → NodeList
with_fragment l f n q = record { id = l.id; fragments = l.fragments ++ (f ∷ []); nodes = l.nodes ++ (n ∷ []); free = q }

-- a header with another end
abbrev pub up_to : Header → ℕ → Header
up_to h e = record { count = h.count; end = e; generation = h.generation; version = h.version; hashed = h.hashed; log = h.log; root = h.root }
