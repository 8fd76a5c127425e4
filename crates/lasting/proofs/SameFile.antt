-- A row that has the bytes of an accepted file, on its footprint, opens as that file.
use Rattle.std.proofs.Common.{◌≡◌, ℕ, ◌+◌, ◌-◌, ◌*◌, ◌≤◌, List, [], ◌∷◌, length, get_or, sym, arith}
use Rattle.std.specs.List.{AllByRecursion}
use Rattle.model.specs.declared.types.Span.{Span}
use Rattle.model.specs.Bytes.{Same}
use Rattle.model.specs.Faults.{done}
use Rattle.model.specs.References.{span, end_of}
use Rattle.model.specs.Section.{NodeList, Section}
use Rattle.model.specs.Opened.{opened}
use Rattle.model.specs.Means.{Inside, Stands, Means}
use Rattle.model.specs.Laws.{in_header, in_log, in_list, but_last, last_fragment, list_footprint, log_footprint, Footprint}
use Rattle.meaning.proofs.Members.{In, has_from_in, all_in, all_from_in}
use Rattle.meaning.proofs.Local.{Agree, spread_local}
use Rattle.meaning.proofs.MeantOpens.{means_opens_in_order}
use Rattle.meaning.proofs.OpensMeans.{opens_means}
use Rattle.commits.proofs.Around.{Kept}
use Rattle.commits.proofs.PartKept.{EndsSame, numbered_same, kept_ends}
use Rattle.commits.proofs.LogAdded.{LogAgree}
use Rattle.commits.proofs.SameRow.{logs_agree, headed_same}
use Rattle.lasting.proofs.Places.{ListEnd, list_end}

module _ (b c : List ℕ) where
  -- ---- log

  log_agree : (fs : List Span) (used : ℕ) → AllByRecursion (Kept b c) (but_last fs) → Same b c (last_fragment fs).start ((last_fragment fs).start + 8 * used) → LogAgree b c fs used
  log_agree [] used a s = tt
  log_agree (f ∷ []) used a s = s
  log_agree (f ∷ (g ∷ gs)) used a s = (a.0, log_agree (g ∷ gs) used a.1 s)

  -- ---- lists

  ends_on : (end : ℕ) (fs : List Span) → AllByRecursion (Inside 36 end) fs → AllByRecursion (Kept b c) (but_last fs)
      → Same b c (last_fragment fs).start ((last_fragment fs).start + 16) → Kept b c (span (end_of (last_fragment fs) - 8) 8) → AllByRecursion (EndsSame b c) fs
  ends_on end [] n a s t = tt
  ends_on end (f ∷ []) n a s t =
      let k : 36 ≤ f.size = n.0.0 in
      ((s, λ j x y. t j x (omega arith)), tt)
  ends_on end (f ∷ (g ∷ gs)) n a s t = (kept_ends b c f n.0.0 a.0, ends_on end (g ∷ gs) n.1 a.1 s t)

  agree_on : (end : ℕ) (fs : List Span) (q : ℕ) → end ≤ length b → end ≤ length c → AllByRecursion (Inside 36 end) fs → AllByRecursion (Kept b c) (but_last fs)
      → Same b c (last_fragment fs).start q → q ≤ end → Agree b c fs q
  agree_on end [] q x y i a s l = tt
  agree_on end (f ∷ []) q x y i a s l = (s, omega arith, omega arith)
  agree_on end (f ∷ (g ∷ gs)) q x y i a s l =
      let (k, e) = i.0 in
      ((a.0, omega arith, omega arith, k), agree_on end (g ∷ gs) q x y i.1 a.1 s l)

  stands_same : (s : Section) (l : NodeList) → s.header.end ≤ length b → s.header.end ≤ length c → ListEnd s l → AllByRecursion (Kept b c) (list_footprint l)
      → Stands b s.header s.log l → Stands c s.header s.log l
  stands_same s l x y e (u, (t, a)) st =
      let p = st.part in
      let f = last_fragment l.fragments in
      let free_from = e.free_from in
      let free_to = e.free_to in
      let size = e.size in
      let to = e.to in
      record {
        part = record {
          inside = p.inside;
          marks = numbered_same b c s.header.end l.id 0 l.fragments p.inside (ends_on s.header.end l.fragments p.inside a (λ i j k. u i j (omega arith)) t) p.marks;
          real = p.real;
          spread = spread_local b c p.spread (agree_on s.header.end l.fragments l.free x y p.inside a (λ i j k. u i j (omega arith)) (omega arith));
        };
        counted = st.counted;
        ends = st.ends;
      }

  -- ---- the whole

  means_same : (s : Section) → s.header.end ≤ length c → ((i : ℕ) → Footprint s i → get_or c i 0 ≡ get_or b i 0) → Means b s → Means c s
  means_same s n h m =
      let stored = m.header.stored in
      let logs : AllByRecursion (Kept b c) (log_footprint s.log)
      = all_from_in (Kept b c) (log_footprint s.log) (λ r j i x y. sym (h i (in_log (has_from_in (log_footprint s.log) r j) (x, y)))) in
      let list : (l : NodeList) → In l s.lists → AllByRecursion (Kept b c) (list_footprint l)
      = λ l j. all_from_in (Kept b c) (list_footprint l) (λ r k i x y. sym (h i (in_list (has_from_in s.lists l j) (has_from_in (list_footprint l) r k) (x, y)))) in
      let stands : (l : NodeList) → In l s.lists → Stands c s.header s.log l
      = λ l j. stands_same s l stored n (list_end m l j) (list l j) (all_in (Stands b s.header s.log) s.lists l m.lists j) in
      record {
        header = headed_same b c s.header (λ i l k. sym (h i (in_header (l, k)))) n m.header;
        log = logs_agree b c s.header s.log (log_agree s.log.fragments s.log.used logs.1 logs.0) m.log;
        lists = all_from_in (Stands c s.header s.log) s.lists stands;
        reached = m.reached;
        named = m.named;
        once = m.once;
        ids_differ = m.ids_differ;
        fragments_apart = m.fragments_apart;
        data_inside = m.data_inside;
        data_apart = m.data_apart;
        few_lists = m.few_lists;
        few_fragments = m.few_fragments;
      }

  pub opened_same : (s : Section) → opened b ≡ done s → s.header.end ≤ length c → ((i : ℕ) → Footprint s i → get_or c i 0 ≡ get_or b i 0) → opened c ≡ done s
  opened_same s e n h = let (m, o) = opens_means b s e in means_opens_in_order c s (means_same s n h m) o
