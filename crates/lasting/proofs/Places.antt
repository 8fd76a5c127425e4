-- Where the last fragments of an accepted file stand, and what is used of them.
use Rattle.std.proofs.Common.{◌≡◌, ℕ, ◌<◌, ◌≤◌, List}
use Rattle.model.specs.declared.types.Span.{Span}
use Rattle.model.specs.Faults.{done}
use Rattle.model.specs.References.{span, end_of}
use Rattle.model.specs.ListFragments.{nodes_from, nodes_to}
use Rattle.model.specs.LogFragments.{entries_in}
use Rattle.model.specs.Section.{NodeList, Section, list_fragments, fragments_of}
use Rattle.model.specs.Opened.{opened}
use Rattle.model.specs.Means.{Inside, Stands, Means}
use Rattle.model.specs.Laws.{last_fragment}
use Rattle.meaning.proofs.Members.{In, in_right, in_flat, all_in}
use Rattle.meaning.proofs.Growth.{spread_fragment}
use Rattle.commits.proofs.PartKept.{spread_ends}
use Rattle.commits.proofs.LogAdded.{log_some}
use Rattle.meaning.proofs.OpensMeans.{opens_means}
use Rattle.lasting.proofs.Chains.{in_last_fragment}

pub meant : (b : List ℕ) (s : Section) → opened b ≡ done s → Means b s
meant b s e = (opens_means b s e).0

pub record ListEnd (s : Section) (l : NodeList) : Type 0 where
  pub last : In (last_fragment l.fragments) l.fragments
  pub size : 36 ≤ (last_fragment l.fragments).size
  pub to : end_of (last_fragment l.fragments) ≤ s.header.end
  pub free_from : nodes_from (last_fragment l.fragments) < l.free
  pub free_to : l.free ≤ nodes_to (last_fragment l.fragments)

pub record LogEnd (s : Section) : Type 0 where
  pub last : In (last_fragment s.log.fragments) s.log.fragments
  pub size : 12 ≤ (last_fragment s.log.fragments).size
  pub to : end_of (last_fragment s.log.fragments) ≤ s.header.end
  pub used_to : s.log.used ≤ entries_in (last_fragment s.log.fragments).size

pub in_fragments : (s : Section) (l : NodeList) (f : Span) → In l s.lists → In f l.fragments → In f (fragments_of s)
in_fragments s l f i j = in_right s.log.fragments (list_fragments s.lists) f (in_flat (λ (l : NodeList). l.fragments) s.lists l f i j)

module _ {b : List ℕ} {s : Section} (m : Means b s) where
  pub list_inside : (l : NodeList) (f : Span) → In l s.lists → In f l.fragments → Inside 36 s.header.end f
  list_inside l f i j = all_in (Inside 36 s.header.end) l.fragments f (all_in (Stands b s.header s.log) s.lists l m.lists i).part.inside j

  pub log_inside : (f : Span) → In f s.log.fragments → Inside 12 s.header.end f
  log_inside f j = all_in (Inside 12 s.header.end) s.log.fragments f m.log.part.inside j

  pub list_end : (l : NodeList) → In l s.lists → ListEnd s l
  list_end l i =
      let st = all_in (Stands b s.header s.log) s.lists l m.lists i in
      let f = last_fragment l.fragments in
      let j = in_last_fragment l.fragments (spread_fragment b st.part.spread) in
      let (x, y) = list_inside l f i j in
      record {
        last = j;
        size = x;
        to = y;
        free_from = st.ends;
        free_to = (spread_ends b s.header.end (span 0 0) st.part.spread st.part.inside).1;
      }

  pub log_end : LogEnd s
  log_end =
      let f = last_fragment s.log.fragments in
      let j = in_last_fragment s.log.fragments (log_some b s.header s.log m.log) in
      let (x, y) = log_inside f j in
      record {
        last = j;
        size = x;
        to = y;
        used_to = m.log.part.places;
      }
