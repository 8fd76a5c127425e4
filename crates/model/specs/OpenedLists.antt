-- Opening the lists: each list that is reached, walked whole in the order in which the lists are named, or the first broken rule.
-- Each recursion goes down on a number that the format itself bounds: the nodes left of a list's count,
-- the fragments that may still come (2,048 in all), and the lists that may still come (1,024, likewise).
use Rattle.std.specs.Prelude.{ℕ, zero, suc, ◌+◌, ◌-◌, Bool, false, cond, not, ◌&&◌, ◌||◌, List, [], ◌∷◌, ◌++◌, map, length, ◌==◌, nat_eq, nat_lt}
use Rattle.model.specs.declared.types.Span.{Span}
use Rattle.model.specs.declared.types.Header.{Header}
use Rattle.model.specs.Bytes.{le}
use Rattle.model.specs.Faults.{fault, Outcome, done, refused, Check, unless, then}
use Rattle.model.specs.References.{absent, span_at}
use Rattle.model.specs.Nodes.{Node, node_at, hands_over, bad_node, field_of, referring}
use Rattle.model.specs.ListFragments.{owner, unmarked, sequence, nodes_from, nodes_to}
use Rattle.model.specs.Section.{Log, NodeList, count_in, list_fragments}
use Rattle.model.specs.OpenedLog.{outside, overlaps}

-- a fragment's nodes were read: the list's count was reached, and the last node ends at a place; or the list goes on in the next fragment
pub data NodePart : Type 0 where
  counted : List Node → ℕ → NodePart
  uncounted : List Node → NodePart

-- the nodes from p on of a fragment of the list id; ns were read, and n are left of the list's count
-- 9 node: no node begins there
unfoldable pub nodes_at : ℕ → List ℕ → ℕ → ℕ → ℕ → List Node → Outcome NodePart
nodes_at zero b id stop p ns = done (counted ns p)
nodes_at (suc n) b id stop p ns =
    let m = node_at b p in
    let more = nodes_at n b id stop (p + m.size) (ns ++ (m ∷ [])) in
    let here = unless ((bad_node (le 4 b p) stop p, fault 9 3 p id) ∷ []) more in
    cond (hands_over (le 4 b p) stop p) (done (uncounted ns)) here

-- an ID is that of a list read before
abbrev pub taken : ℕ → List NodeList → Bool
taken id [] = false
taken id (l ∷ ls) = l.id == id || taken id ls

-- the checks of a fragment f of the list id, whose reference stands at `field`; fs are the fragments read of it, ls the lists read before,
-- and `before` all fragments but fs
-- 8 fragment: a mark, the number in the list or the list ID is wrong, or the ID is under 16; 12 twice; 10 unlisted
-- The ID is told once the first fragment has passed 8.
abbrev pub list_checks : List ℕ → ℕ → ℕ → List NodeList → List Span → ℕ → ℕ → Span → List Span → List Check
list_checks b end count ls before id field f fs =
    let first = nat_eq (length fs) 0 in
    let told = cond first 0 id in
    let mislabelled = unmarked b f || not (sequence b f == length fs) || not (owner b f == id) || nat_lt id 16 in
    (outside 36 end f, fault 5 3 field told)
    ∷ (overlaps f (before ++ fs), fault 11 3 field told)
    ∷ (mislabelled, fault 8 3 f.start told)
    ∷ (first && taken id ls, fault 12 3 f.start id)
    ∷ (first && (count == 0), fault 10 3 f.start id)
    ∷ []

-- what follows the nodes of the fragment f: the list has its count, or `next` reads it from the next fragment on
abbrev pub list_goes : (ℕ → Span → List Span → List Node → Outcome NodeList) → List ℕ → ℕ → Span → List Span → NodePart → Outcome NodeList
list_goes next b id f fs (counted ns q) = done (record { id = id; fragments = fs ++ (f ∷ []); nodes = ns; free = q })
list_goes next b id f fs (uncounted ns) = next (nodes_to f) (span_at b (nodes_to f)) (fs ++ (f ∷ [])) ns

-- the list id from the fragment f on; fs and ns are what was read of it, and n fragments may still come
unfoldable pub list_from : ℕ → List ℕ → ℕ → ℕ → List NodeList → List Span → ℕ → ℕ → Span → List Span → List Node → Outcome NodeList
list_from zero b end count ls before id field f fs ns =
    let told = cond (length fs == 0) 0 id in
    unless ((outside 36 end f, fault 5 3 field told) ∷ []) (refused (fault 13 3 field told))
list_from (suc n) b end count ls before id field f fs ns =
    let rest = then (nodes_at (count - length ns) b id (nodes_to f) (nodes_from f) ns) (list_goes (list_from n b end count ls before id) b id f fs) in
    unless (list_checks b end count ls before id field f fs) rest

-- a reference to a list, with the place of its field
abbrev pub Named : Type 0
Named = ℕ × Span

-- the lists that a list's nodes refer to
abbrev pub named_by : NodeList → List Named
named_by l = map (λ n. (field_of n, n.reference)) (referring 2 l.nodes)

-- the lists that the header names: the root, and the hashed chunk list unless it is absent
abbrev pub named_first : Header → List Named
named_first h = (0xAC, h.root) ∷ cond (absent h.hashed) [] ((0x94, h.hashed) ∷ [])

-- the list that a reference names, read whole behind the lists ls
abbrev pub named_list : List ℕ → Header → Log → List NodeList → Named → ℕ → Outcome NodeList
named_list b h log ls q id =
    let before = log.fragments ++ list_fragments ls in
    list_from (2048 - length before) b h.end (count_in log.transactions id) ls before id q.0 q.1 [] []

-- the lists named, each walked whole before the next; what a list names goes behind all that were named before it; n may still come
unfoldable pub lists_from : ℕ → List ℕ → Header → Log → List Named → List NodeList → Outcome (List NodeList)
lists_from n b h log [] ls = done ls
lists_from zero b h log (q ∷ qs) ls = unless ((outside 36 h.end q.1, fault 5 3 q.0 0) ∷ []) (refused (fault 13 3 q.0 0))
lists_from (suc n) b h log (q ∷ qs) ls =
    then (named_list b h log ls q (owner b q.1)) (λ l. lists_from n b h log (qs ++ named_by l) (ls ++ (l ∷ [])))
