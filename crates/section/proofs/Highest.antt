-- The highest list ID of a file is the highest that its log counts: each list has a node, so the log counts it.
use Rattle.std.proofs.Common.{◌≡◌, ℕ, ◌≤◌, ◌<◌, List, [], ◌∷◌, map, length, inl, inr, arith}
use Rattle.std.proofs.lemmas.Bool.{cases_lt}
use Rattle.std.proofs.ByRecursion.{All-weaker}
use Rattle.model.specs.declared.types.Span.{Span}
use Rattle.model.specs.declared.types.Entry.{Entry}
use Rattle.model.specs.declared.types.Header.{Header}
use Rattle.model.specs.References.{span}
use Rattle.model.specs.ListFragments.{nodes_from}
use Rattle.model.specs.Section.{Log, NodeList, Section, flat, last_of, count_in}
use Rattle.model.specs.Means.{Spread, Stands, Means}
use Rattle.model.specs.Layouts.{greatest, blank}
use Rattle.meaning.proofs.ReadList.{spread_some}
use Rattle.commits.proofs.Bounds.{greatest_each, greatest_most}
use Rattle.commits.proofs.Counting.{latest_absent}

-- the highest ID that entries count
abbrev pub sources_most : List Entry → ℕ
sources_most es = greatest (map (λ e. e.source) es)

some_node : (b : List ℕ) (h : Header) (log : Log) (l : NodeList) → Stands b h log l → 1 ≤ length l.nodes
some_node b h log l s = some l.fragments s.part.spread s.ends
  where
    some : (fs : List Span) → Spread b fs l.nodes l.free → nodes_from (last_of (span 0 0) fs) < l.free → 1 ≤ length l.nodes
    some [] r e = elim r [ ]
    some (f ∷ fs) r e = spread_some b f fs l.nodes l.free r e

counted_id : (b : List ℕ) (h : Header) (log : Log) (l : NodeList) → Stands b h log l → l.id ≤ sources_most (flat log.transactions)
counted_id b h log l s =
    let most = sources_most (flat log.transactions) in
    elim (cases_lt most l.id) [
      | inl u ↦
          let each = greatest_each (λ (e : Entry). e.source) most (flat log.transactions) (omega arith) in
          let none : count_in log.transactions l.id ≡ 0 = latest_absent l.id most 0 (flat log.transactions) u each in
          absurd (omega (arith, some_node b h log l s, s.counted))
      | inr u ↦ u
    ]

pub highest_counted : (b : List ℕ) (s : Section) → Means b s → sources_most (flat s.log.transactions) ≡ (blank s).highest
highest_counted b s m =
    let most = sources_most (flat s.log.transactions) in
    let ids = greatest_most (λ (l : NodeList). l.id) most s.lists (All-weaker (Stands b s.header s.log) (λ l. l.id ≤ most) (counted_id b s.header s.log) s.lists m.lists) in
    omega arith
