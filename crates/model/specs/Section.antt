-- What an opened file holds.
use Rattle.std.specs.Prelude.{ℕ, cond, List, [], ◌∷◌, ◌++◌, map, take, ◌==◌, slice_index_or}
use Rattle.model.specs.declared.types.Span.{Span}
use Rattle.model.specs.declared.types.Entry.{Entry}
use Rattle.model.specs.declared.types.Header.{Header}
use Rattle.model.specs.References.{span}
use Rattle.model.specs.Nodes.{Node}

-- the finished log: its fragments up to the one with the last finished sentinel, the transactions without their sentinels,
-- and how many entries of the last fragment are used, that sentinel included
pub record Log : Type 0 where
  pub fragments : List Span
  pub transactions : List (List Entry)
  pub used : ℕ

-- a list: its fragments up to the one with its last counted node, its counted nodes, and the place behind the last of them
pub record NodeList : Type 0 where
  pub id : ℕ
  pub fragments : List Span
  pub nodes : List Node
  pub free : ℕ

-- the lists stand in the order of opening
pub record Section : Type 0 where
  pub header : Header
  pub log : Log
  pub lists : List NodeList

-- lists one after the other
abbrev pub flat : {A : Type 0} → List (List A) → List A
flat [] = []
flat (xs ∷ xss) = xs ++ flat xss

abbrev pub last_of : {A : Type 0} → A → List A → A
last_of a [] = a
last_of a (x ∷ xs) = last_of x xs

-- the last number that entries give for a list, else n
unfoldable pub latest : ℕ → ℕ → List Entry → ℕ
latest id n [] = n
latest id n (e ∷ es) = latest id (cond (e.source == id) e.number n) es

-- a list's count after some transactions
abbrev pub count_in : List (List Entry) → ℕ → ℕ
count_in ts id = latest id 0 (flat ts)

-- a list's count at k: its last number in the first k transactions, else 0
abbrev pub count_at : Log → ℕ → ℕ → ℕ
count_at log k id = count_in (take k log.transactions) id

abbrev pub list_fragments : List NodeList → List Span
list_fragments ls = flat (map (λ l. l.fragments) ls)

-- every fragment, the log's first
abbrev pub fragments_of : Section → List Span
fragments_of s = s.log.fragments ++ list_fragments s.lists

-- a list is named by the reference to its first fragment
abbrev pub first_of : NodeList → Span
first_of l = slice_index_or l.fragments 0 (span 0 0)
