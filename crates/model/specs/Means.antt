-- What an accepted file is: a relation between bytes and what they hold. Nothing here walks, queues or refuses.
use Rattle.std.specs.Prelude.{◌≡◌, ℕ, zero, suc, ◌+◌, ◌-◌, ◌^◌, ◌<◌, ◌≤◌, true, ◌≢◌, List, [], ◌∷◌, ◌++◌, map, length}
use Rattle.std.specs.List.{ContainsAt, AllByRecursion}
use Rattle.model.specs.declared.types.Span.{Span}
use Rattle.model.specs.declared.types.Entry.{Entry}
use Rattle.model.specs.declared.types.Header.{Header}
use Rattle.model.specs.Bytes.{le, piece}
use Rattle.model.specs.References.{span, end_of, span_at}
use Rattle.model.specs.Headers.{header_span, file_type, file_format, header_at}
use Rattle.model.specs.Nodes.{Node, top_bit, reference_width, node_at, hands_over, referring}
use Rattle.model.specs.ListFragments.{first_mark, last_mark, owner, sequence, nodes_from, nodes_to}
use Rattle.model.specs.LogFragments.{entry_at, sentinel, entries_in, entry_place, log_next}
use Rattle.model.specs.Section.{Log, NodeList, Section, flat, last_of, latest, count_in, fragments_of, first_of}
use Rattle.model.specs.OpenedLists.{Named, named_by, named_first}

-- ---- ranges

abbrev pub Within : Span → ℕ → Type 0
Within r i = (r.start ≤ i) × (i < end_of r)

-- two ranges share no byte
abbrev pub Apart : Span → Span → Type 0
Apart r s = (i : ℕ) → Within r i → Within s i → ⊥

-- R holds of each two of a list, the earlier first
abbrev pub Pairwise : {A : Type 0} → (A → A → Type 0) → List A → Type 0
Pairwise R [] = Unit {0}
Pairwise R (x ∷ xs) = AllByRecursion (R x) xs × Pairwise R xs

-- a fragment of the least size at least (so its reference is not absent), by the file's end
abbrev pub Inside : ℕ → ℕ → Span → Type 0
Inside least end f = (least ≤ f.size) × (end_of f ≤ end)

-- each fragment's next reference names the one behind it; the first is f
abbrev pub Chain : (Span → Span) → Span → List Span → Type 0
Chain next f [] = Unit {0}
Chain next f (g ∷ gs) = (g ≡ f) × Chain next (next g) gs

-- ---- header

pub record Headed (b : List ℕ) (h : Header) : Type 0 where
  pub fields : h ≡ header_at b
  pub whole : 1024 ≤ length b
  pub stored : h.end ≤ length b
  pub least : 1024 ≤ h.end
  pub most : h.end ≤ 2 ^ 40
  pub type : piece b 0x00 16 ≡ file_type
  pub format : piece b 0x30 16 ≡ file_format
  pub readable : le 4 b 0x4C ≤ 0x2A
  pub counts : 1 ≤ h.count

-- ---- log

-- n entries of a fragment, from the i-th on
abbrev pub entries_of : List ℕ → Span → ℕ → ℕ → List Entry
entries_of b f i zero = []
entries_of b f i (suc n) = entry_at b (entry_place f i) ∷ entries_of b f (i + 1) n

-- all entries of a chain of fragments, of the last only so many
abbrev pub log_row : List ℕ → List Span → ℕ → List Entry
log_row b [] used = []
log_row b (f ∷ []) used = entries_of b f 0 used
log_row b (f ∷ (g ∷ gs)) used = entries_of b f 0 (entries_in f.size) ++ log_row b (g ∷ gs) used

-- a transaction, with the sentinel that ends it
abbrev pub closed : List Entry → List Entry
closed t = t ++ (sentinel t ∷ [])

abbrev pub CountsLists : List Entry → Type 0
CountsLists es = AllByRecursion (λ e. e.source ≢ 1) es

-- each entry's count is above the list's last in the entries before it, 0 at first
abbrev pub Rising : List Entry → List Entry → Type 0
Rising before [] = Unit {0}
Rising before (e ∷ es) = (latest e.source 0 before < e.number) × Rising (before ++ (e ∷ [])) es

-- a log as far as it is right: the fragments fs, of the last of which `used` entries are read, hold the transactions ts, whole and with right sums,
-- and then the entries `pending`
pub record PartOfLog (b : List ℕ) (h : Header) (fs : List Span) (used : ℕ) (ts : List (List Entry)) (pending : List Entry) : Type 0 where
  pub chain : Chain (λ f. span_at b (log_next f)) h.log fs
  pub inside : AllByRecursion (Inside 12 h.end) fs
  pub apart : Pairwise Apart (header_span ∷ fs)
  pub few : length fs ≤ 2048
  pub places : used ≤ entries_in (last_of (span 0 0) fs).size
  pub row : log_row b fs used ≡ flat (map closed ts) ++ pending
  pub lists : AllByRecursion CountsLists ts
  pub pending_lists : CountsLists pending
  pub rising : Rising [] (flat ts ++ pending)

-- the finished log: as many transactions as the header counts, the last of which ends in the last fragment
pub record Logs (b : List ℕ) (h : Header) (l : Log) : Type 0 where
  pub part : PartOfLog b h l.fragments l.used l.transactions []
  pub finished : length l.transactions ≡ h.count
  pub ends : 1 ≤ l.used

-- ---- lists

-- a node stands at p, before `stop`
pub record Good (b : List ℕ) (stop p : ℕ) (n : Node) : Type 0 where
  pub fields : n ≡ node_at b p
  pub named : 1 ≤ n.id
  pub no_terminator : n.id ≢ 0xFF
  pub top : 1 ≤ top_bit (le 4 b p)
  pub base : n.base ≤ 2
  pub parts : 4 + reference_width (le 4 b p) ≤ n.size
  pub ends : p + n.size ≤ stop

-- nodes stand back to back from p up to q
abbrev pub Nodes : List ℕ → ℕ → ℕ → List Node → ℕ → Type 0
Nodes b stop p [] q = p ≡ q
Nodes b stop p (n ∷ ns) q = Good b stop p n × Nodes b stop (p + n.size) ns q

-- nodes stand in a chain of fragments, in each back to back from its first place on, and before each hand-over is a terminator, or no room for one;
-- the last ends at q
pub data Spread (b : List ℕ) : List Span → List Node → ℕ → Type 0 where
  within : {f : Span} {ns : List Node} {q : ℕ} → Nodes b (nodes_to f) (nodes_from f) ns q → Spread b (f ∷ []) ns q
  across : {f g : Span} {gs : List Span} {all : List Node} {q : ℕ} (ns ms : List Node) (p : ℕ) → Nodes b (nodes_to f) (nodes_from f) ns p → hands_over (le 4 b p) (nodes_to f) p ≡ true
      → g ≡ span_at b (nodes_to f) → Spread b (g ∷ gs) ms q → all ≡ ns ++ ms → Spread b (f ∷ (g ∷ gs)) all q

-- both marks, the list's ID and the number in the list
pub record Marked (b : List ℕ) (id number : ℕ) (f : Span) : Type 0 where
  pub first : le 8 b f.start ≡ first_mark
  pub last : le 8 b (end_of f - 8) ≡ last_mark
  pub list : owner b f ≡ id
  pub sequence_number : sequence b f ≡ number

-- fragments are those of a list, numbered from i on
abbrev pub Numbered : List ℕ → ℕ → ℕ → List Span → Type 0
Numbered b id i [] = Unit {0}
Numbered b id i (f ∷ fs) = Marked b id i f × Numbered b id (i + 1) fs

-- a list as far as it is right: its fragments, and the nodes in them, the last of which ends at q
pub record PartOfList (b : List ℕ) (h : Header) (id : ℕ) (fs : List Span) (ns : List Node) (q : ℕ) : Type 0 where
  pub inside : AllByRecursion (Inside 36 h.end) fs
  pub marks : Numbered b id 0 fs
  pub real : 16 ≤ id
  pub spread : Spread b fs ns q

-- a list: it has its count of nodes, at least one, and the last of them stands in its last fragment
pub record Stands (b : List ℕ) (h : Header) (log : Log) (l : NodeList) : Type 0 where
  pub part : PartOfList b h l.id l.fragments l.nodes l.free
  pub counted : length l.nodes ≡ count_in log.transactions l.id
  pub ends : nodes_from (last_of (span 0 0) l.fragments) < l.free

-- ---- which lists there are

-- the references to lists, with their places: the root, the hashed chunk list if present, and the present ones of BaseType 2 in the lists' counted nodes
abbrev pub named_in : Header → List NodeList → List Named
named_in h ls = named_first h ++ flat (map named_by ls)

-- a list is reached if the header names it, or a counted node of a list that is reached
pub data Reached (h : Header) (ls : List NodeList) : Span → Type 0 where
  by_header : {r : Span} → ContainsAt (map (λ q. q.1) (named_first h)) r → Reached h ls r
  by_node : {r : Span} {l : NodeList} → ContainsAt ls l → Reached h ls (first_of l) → ContainsAt (map (λ q. q.1) (named_by l)) r → Reached h ls r

abbrev pub data_spans : List NodeList → List Span
data_spans ls = flat (map (λ l. map (λ n. n.reference) (referring 1 l.nodes)) ls)

-- ---- the whole

-- the bytes b hold the section s; the order of its lists is left open
pub record Means (b : List ℕ) (s : Section) : Type 0 where
  pub header : Headed b s.header
  pub log : Logs b s.header s.log
  pub lists : AllByRecursion (Stands b s.header s.log) s.lists
  -- the lists are the reached ones, and each is named once
  pub reached : AllByRecursion (λ l. Reached s.header s.lists (first_of l)) s.lists
  pub named : AllByRecursion (λ q. ContainsAt (map first_of s.lists) q.1) (named_in s.header s.lists)
  pub once : length (named_in s.header s.lists) ≡ length s.lists
  pub ids_differ : Pairwise (λ l m. l.id ≢ m.id) s.lists
  pub fragments_apart : Pairwise Apart (header_span ∷ fragments_of s)
  pub data_inside : AllByRecursion (λ r. end_of r ≤ s.header.end) (data_spans s.lists)
  pub data_apart : AllByRecursion (λ r. AllByRecursion (Apart r) (header_span ∷ fragments_of s)) (data_spans s.lists)
  pub few_lists : length s.lists ≤ 1024
  pub few_fragments : length (fragments_of s) ≤ 2048

-- the lists stand in the order in which they are named: by the header, by the first list, by the second, and so on
abbrev pub InOrder : Header → List NodeList → Type 0
InOrder h ls = map first_of ls ≡ map (λ q. q.1) (named_in h ls)
