-- Which fragments the adds of a draft make, and where in their lists: what is needed to find the nodes in them again.
use Rattle.std.specs.Prelude.{◌≡◌, ℕ, ◌+◌, ◌-◌, false, cond, List, [], ◌∷◌, ◌++◌, map, length, filter, drop, nat_eq, nat_le, nat_lt}
use Rattle.std.specs.List.{ContainsAt, AllByRecursion}
use Rattle.model.specs.declared.types.Span.{Span}
use Rattle.model.specs.Bytes.{applied, behind, Bytes}
use Rattle.model.specs.Faults.{done}
use Rattle.model.specs.References.{span}
use Rattle.model.specs.Nodes.{Node, plain_node, referring_node}
use Rattle.model.specs.ListFragments.{nodes_from, nodes_to, new_fragment}
use Rattle.model.specs.LogFragments.{entries_in}
use Rattle.model.specs.Section.{NodeList, Section, last_of, fragments_of}
use Rattle.model.specs.OpenedLists.{taken}
use Rattle.model.specs.Opened.{opened}
use Rattle.model.specs.Layouts.{Add, plain, with_data, branch, tail, Layout, tail_of, member, find_tail, blank, ending_at, more_fragments, more_lists}
use Rattle.model.specs.Saving.{at_end, planned, layout}
use Rattle.model.specs.Committing.{new_entries, count_entries, logged, committing}
use Rattle.model.specs.Calls.{commit_checks}
use Rattle.model.specs.Laws.{DoneAdds, add_writes}
use Rattle.commits.specs.Extends.{Extends}

-- a fragment of the list with this ID, and how many of the list's nodes stand in the fragments before it
pub record Part : Type 0 where
  pub list : ℕ
  pub from : ℕ
  pub fragment : Span

abbrev pub part : ℕ → ℕ → Span → Part
part list from fragment = record { list = list; from = from; fragment = fragment }

-- ---- the fragments that adds make

-- a node that does not fit behind the last of its list makes one
abbrev pub node_part : Layout → ℕ → List ℕ → List Part
node_part y id new =
    let t = find_tail y.tails id in
    cond (nat_le (t.free + length new) (nodes_to t.fragment)) [] (part id t.count (span y.end 1024) ∷ [])

-- a branch makes one for the new list first
unfoldable pub new_parts : Layout → Add → List Part
new_parts y (plain list id payload) = node_part y list (plain_node id payload)
new_parts y (with_data list id payload content) =
    let piece = at_end y content in
    node_part (ending_at (behind piece) y) list (referring_node id 1 (span y.end (length content)) payload)
new_parts y (branch list id payload first_id first_payload) =
    let made = y.highest + 1 in
    let first = plain_node first_id first_payload in
    let fresh = span y.end 1024 in
    let piece = at_end y (new_fragment made 0 first) in
    let with_list = more_lists list (tail made fresh 0 (nodes_from fresh + length first) 1) (more_fragments (ending_at (behind piece) y)) in
    part made 0 fresh ∷ node_part with_list list (referring_node id 2 fresh payload)

unfoldable pub parts : Layout → List Add → List Part
parts y [] = []
parts y (a ∷ as') = new_parts y a ++ parts (planned y a).layout as'

-- those of one list
abbrev pub parts_of : ℕ → List Part → List Part
parts_of id ps = filter (λ p. nat_eq p.list id) ps

-- ---- where a list's nodes stand

-- nodes stand back to back from p up to q, by their places and sizes
abbrev pub BackToBack : ℕ → List Node → ℕ → Type 0
BackToBack p [] q = p ≡ q
BackToBack p (n ∷ ns) q = (n.place ≡ p) × BackToBack (p + n.size) ns q

-- the fragments fs of the list id hold the nodes ns behind `from` others; ps has each of them with the nodes before it
pub data Parted (id : ℕ) : ℕ → List Span → List Node → List Part → Type 0 where
  ends : {from : ℕ} {f : Span} {ns : List Node} (q : ℕ) → BackToBack (nodes_from f) ns q → Parted id from (f ∷ []) ns (part id from f ∷ [])
  goes : {from : ℕ} {f g : Span} {gs : List Span} {all : List Node} {ps : List Part} (ns ms : List Node) (q : ℕ) → BackToBack (nodes_from f) ns q
      → Parted id (from + length ns) (g ∷ gs) ms ps → all ≡ ns ++ ms → Parted id from (f ∷ (g ∷ gs)) all (part id from f ∷ ps)

-- ---- what a commit leaves

-- a list of the file after a commit: one that was there, with the fragments that the draft made behind its own; or one that the draft made
pub data Grown (ls : List NodeList) (ps : List Part) (l : NodeList) : Type 0 where
  longer : (m : NodeList) → ContainsAt ls m → m.id ≡ l.id
      → ((qs : List Part) → Parted l.id 0 m.fragments m.nodes qs → Parted l.id 0 l.fragments l.nodes (qs ++ parts_of l.id ps)) → Grown ls ps l
  made : taken l.id ls ≡ false → Parted l.id 0 l.fragments l.nodes (parts_of l.id ps) → Grown ls ps l

-- what the section t, after the commit of a draft over s, has in its log and in its lists
pub record Leaves (s : Section) (adds : List Add) (t : Section) : Type 0 where
  pub hashed : t.header.hashed ≡ s.header.hashed
  pub first_log : t.header.log ≡ s.header.log
  pub root : t.header.root ≡ s.header.root
  pub transactions : t.log.transactions ≡ s.log.transactions ++ (count_entries (layout s adds) ∷ [])
  -- the log ends where it ended, further on, or in the new fragment
  pub last : last_of (span 0 0) t.log.fragments
      ≡ cond (nat_lt (entries_in (last_of (span 0 0) s.log.fragments).size - s.log.used) (length (new_entries (layout s adds)))) (span (layout s adds).end 1024) (last_of (span 0 0) s.log.fragments)
  pub used : t.log.used
      ≡ cond (nat_lt (entries_in (last_of (span 0 0) s.log.fragments).size - s.log.used) (length (new_entries (layout s adds))))
      (length (drop (entries_in (last_of (span 0 0) s.log.fragments).size - s.log.used) (new_entries (layout s adds))))
      (s.log.used + length (new_entries (layout s adds)))
  pub fragments : length (fragments_of t) ≡ (logged s (layout s adds)).fragments
  -- those made since are of 1,024 bytes
  pub extended : Extends (fragments_of s) (fragments_of t)
  -- the lists are those of the draft, each with the tail that the draft has for it
  pub lists : length t.lists ≡ (layout s adds).lists
  pub ids : (id : ℕ) → taken id t.lists ≡ member id (map (λ u. u.id) (layout s adds).tails)
  pub tails : AllByRecursion (λ l. tail_of l ≡ find_tail (layout s adds).tails l.id) t.lists
  pub parts : AllByRecursion (Grown s.lists (parts (blank s) adds)) t.lists
  -- the highest ID known is the draft's
  pub highest : (blank t).highest ≡ (layout s adds).highest

abbrev pub CommitLeaves : Type 0
CommitLeaves = (b : List ℕ) (ceiling : ℕ) (s : Section) (adds : List Add) (guid : List ℕ) → Bytes b → Bytes guid → length guid ≡ 16
    → opened b ≡ done s → DoneAdds ceiling (blank s) adds → AllByRecursion (λ c. c.0 ≡ false) (commit_checks ceiling s adds guid)
    → (t : Section) → opened (applied (applied b (add_writes (blank s) adds)) (committing (applied b (add_writes (blank s) adds)) s adds guid)) ≡ done t
    → Leaves s adds t
