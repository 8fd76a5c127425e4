-- A commit, over what is known of the file: its checks and writes are those of the rules, and what is known afterwards is right.
use Rattle.std.proofs.Common.{◌≡◌, ℕ, ◌+◌, ◌-◌, ◌^◌, ◌<◌, ◌≤◌, Bool, true, false, cond, ◌||◌, eqb, ltb, leb, List, [], ◌∷◌, length, drop, sym, refl, ap, ◌∙◌, subst, arith}
use Rattle.std.specs.List.{AllByRecursion}
use Rattle.std.proofs.lemmas.Bool.Decides.{nat_tests}
use Rattle.std.proofs.lemmas.List.{length-map, length-drop}
use Rattle.model.specs.declared.types.Span.{Span}
use Rattle.model.specs.declared.types.Header.{Header}
use Rattle.model.specs.Bytes.{Bytes}
use Rattle.model.specs.References.{span}
use Rattle.model.specs.LogFragments.{entries_in}
use Rattle.model.specs.Section.{Section, last_of, fragments_of}
use Rattle.model.specs.Means.{Inside}
use Rattle.model.specs.Layouts.{Add, Layout}
use Rattle.model.specs.Saving.{layout}
use Rattle.model.specs.Committing.{new_entries, logged, committing}
use Rattle.model.specs.Calls.{none_yet, commit_checks}
use Rattle.model.specs.Laws.{CommitsTo}
use Rattle.meaning.proofs.Base.{Clean}
use Rattle.meaning.proofs.Growth.{last_all}
use Rattle.meaning.proofs.OpensMeans.{opens_means}
use Rattle.commits.specs.Parts.{Leaves}
use Rattle.commits.proofs.Adds.{Fine}
use Rattle.commits.proofs.LogAdded.{log_some}
use Rattle.commits.proofs.Drafts.{draft_bounds}
use Rattle.commits.proofs.CommitReads.{commit_reads}
use Rattle.commits.proofs.CommitLeaves.{commit_leaves}
use Rattle.lasting.proofs.InDraft.{drafted_bytes, Drafting, committed_bytes, mid_same}
use Rattle.writing.specs.declared.tails.Tail.{Tail}
use Rattle.committing.specs.CommitWrites.{entries_for, places, runs_out, log_end, log_then, end_then, EndsLog, Sizes}
use Rattle.committing.proofs.Planned.{writes_planned}
use Rattle.tables.specs.declared.room.Room.{Room}
use Rattle.tables.specs.Kept.{Kept}
use Rattle.drafts.specs.declared.layout.DraftLayout.{DraftLayout}
use Rattle.drafts.specs.Lays.{Lays}
use Rattle.drafts.specs.Steps.{one}
use Rattle.section.specs.declared.access.Access.{Access}
use Rattle.section.specs.Keeping.{Keeps}
use Rattle.section.specs.Commits.{Sized, entries_of, fragments_then, file_end, checks_of, writes_by, header_then, access_then}
use Rattle.section.proofs.Checks.{entries_length}
use Rattle.section.proofs.Used.{sizes_of, used_more}
use Rattle.section.proofs.Touched.{none_touched, touched_once, entries_same}

-- ---- numbers

last_inside : (end : ℕ) (fs : List Span) → 1 ≤ length fs → AllByRecursion (Inside 12 end) fs → Inside 12 end (last_of (span 0 0) fs)
last_inside end [] some a = absurd (omega arith)
last_inside end (f ∷ fs) some a = last_all (Inside 12 end) (span 0 0) f fs a

numbers : (m n : ℕ) → leb (2 ^ 32) m || leb (2 ^ 64) n ≡ false → (m < 2 ^ 32) × (n < 2 ^ 64)
numbers m n e = (grind (arith, nat_tests), grind (arith, nat_tests))

one_more : (b : Bool) (n : ℕ) → n + one b ≡ cond b (n + 1) n
one_more true n = refl
one_more false n = omega arith

-- ---- the log's end

then_fragment : (r : Bool) (f g : Span) (m n : ℕ) → (cond r (log_end f m) (log_end g n)).fragment ≡ cond r f g
then_fragment true f g m n = refl
then_fragment false f g m n = refl

then_used : (r : Bool) (f g : Span) (m n : ℕ) → (cond r (log_end f m) (log_end g n)).used ≡ cond r m n
then_used true f g m n = refl
then_used false f g m n = refl

header_is : (h t : Header) (end : ℕ) (guid : List ℕ) → t.count ≡ h.count + 1 → t.end ≡ end → t.generation ≡ h.generation + 1 → t.version ≡ guid
    → t.hashed ≡ h.hashed → t.log ≡ h.log → t.root ≡ h.root → header_then h end guid ≡ t
header_is h t end guid c e g v x l r = rw (sym c, sym e, sym g, sym v, sym x, sym l, sym r) refl

-- ---- an open draft, of which the code has the layout

module _ {most : ℕ} {start now : List ℕ} {s : Section} {adds : List Add} {room : Room} (x : Drafting most start s adds) (d : DraftLayout) (a : Access)
    (lays : Lays s adds d) (keeps : Keeps now s room a) where
  header : a.header ≡ s.header
  header = keeps.header

  ends : EndsLog s a.log
  ends = keeps.log

  abbrev y : Layout
  y = layout s adds

  bounds : Fine y
  bounds = (draft_bounds start most s adds x.are_bytes x.opens x.dones).0

  entries : entries_for d.touched ≡ new_entries y
  entries = entries_same s adds d lays (touched_once start most s adds x.are_bytes x.opens x.dones)

  number : entries_of d ≡ length (new_entries y)
  number = sym (entries_length d.touched) ∙ ap length entries

  touched_number : length d.touched ≡ length y.touched
  touched_number = sym (length-map d.touched (λ (t : Tail). t.list)) ∙ ap length lays.touched

  log_inside : Inside 12 (2 ^ 40) a.log.fragment
  log_inside =
      let m = (opens_means start s x.opens).0 in
      let (p, q) = last_inside s.header.end s.log.fragments (log_some start s.header s.log m.log) m.log.part.inside in
      let top = m.header.most in
      subst (Inside 12 (2 ^ 40)) (sym ends.fragment) (p, omega arith)

  pub sized : Sized d a
  sized =
      let m = (opens_means start s x.opens).0 in
      let few = bounds.touched in
      let end = bounds.end in
      let end_is = lays.end' in
      let fragments = bounds.fragments in
      let fragments_are = lays.fragments in
      let n = entries_length d.touched in
      let t = touched_number in
      let used = keeps.used in
      let sizes = sizes_of start s m in
      record {
        log = record { fragment = log_inside; used = rw (ends.fragment, ends.used) m.log.part.places; end' = omega arith; few = omega arith };
        fragments = omega arith;
        used = omega arith;
      }

  -- ---- the checks

  abbrev more : Bool
  more = ltb (entries_in (last_of (span 0 0) s.log.fragments).size - s.log.used) (length (new_entries y))

  runs_same : runs_out a.log (entries_of d) ≡ more
  runs_same = rw (ends.fragment, ends.used, number) refl

  fragments_same : fragments_then d a ≡ (logged s y).fragments
  fragments_same = ap (λ b. d.fragments + one b) runs_same ∙ ap (λ n. n + one more) lays.fragments ∙ one_more more y.fragments

  end_same : file_end d a ≡ (logged s y).end
  unfolding file_end
  end_same = ap (λ n. end_then a.log n (entries_for d.touched)) lays.end' ∙ ap (end_then a.log y.end) entries ∙ sym (writes_planned [] s adds [] a.log ends).1

  none_same : eqb (length d.touched) 0 ≡ none_yet adds
  none_same = ap (λ n. eqb n 0) touched_number ∙ none_touched s adds

  pub checks_same : (guid : List ℕ) → checks_of most d a guid ≡ commit_checks most s adds guid
  unfolding checks_of
  checks_same guid = rw (none_same, fragments_same, end_same, header, lays.end') refl

  -- ---- the writes

  pub writes_same : (b guid : List ℕ) → writes_by b d a guid ≡ committing b s adds guid
  writes_same b guid = rw (header, entries, lays.end') (sym (writes_planned b s adds guid a.log ends).0)

  pub sizes : (b guid : List ℕ) → b ≡ drafted_bytes start s adds → length guid ≡ 16 → Clean (commit_checks most s adds guid) → Sizes b a.header a.log d.end d.touched guid
  sizes b guid e g c =
      let m = (opens_means (drafted_bytes start s adds) s (mid_same x).opens).0 in
      let (count, generation) = numbers (s.header.count + 1) (s.header.generation + 1) c.1.1.1.0 in
      let few = bounds.touched in
      let t = touched_number in
      record {
        header = rw e m.header.whole;
        count = rw header count;
        generation = rw header generation;
        fragment = sized.log.fragment;
        used = sized.log.used;
        end' = sized.log.end';
        few = omega arith;
        version = g;
      }

  -- where the log ends then
  last_fragment : (log_then a.log d.end (entries_of d)).fragment ≡ cond more (span y.end 1024) (last_of (span 0 0) s.log.fragments)
  last_fragment =
      then_fragment (runs_out a.log (entries_of d)) (span d.end 1024) a.log.fragment (entries_of d - places a.log) (a.log.used + entries_of d)
      ∙ rw (runs_same, lays.end', ends.fragment) refl

  last_used : (log_then a.log d.end (entries_of d)).used
      ≡ cond more (length (drop (entries_in (last_of (span 0 0) s.log.fragments).size - s.log.used) (new_entries y))) (s.log.used + length (new_entries y))
  last_used =
      let left : entries_of d - places a.log ≡ length (drop (entries_in (last_of (span 0 0) s.log.fragments).size - s.log.used) (new_entries y))
      = rw (ends.fragment, ends.used, number) (sym (length-drop _ (new_entries y))) in
      let on : a.log.used + entries_of d ≡ s.log.used + length (new_entries y) = rw (ends.used, number) refl in
      then_used (runs_out a.log (entries_of d)) (span d.end 1024) a.log.fragment (entries_of d - places a.log) (a.log.used + entries_of d)
      ∙ rw (runs_same, left, on) refl

  -- ---- what is known after it

  module _ (guid : List ℕ) (guid_bytes : Bytes guid) (guid_length : length guid ≡ 16) (c : Clean (commit_checks most s adds guid)) where
    pub reads : CommitsTo start s adds (committed_bytes start s adds guid) guid
    reads = commit_reads start most s adds guid x.are_bytes guid_bytes guid_length x.opens x.dones c

    pub leaves : Leaves s adds reads.section
    leaves = commit_leaves start most s adds guid x.are_bytes guid_bytes guid_length x.opens x.dones c reads.section reads.opens

    header_after : header_then a.header (file_end d a) guid ≡ reads.section.header
    header_after =
        let r = reads in
        let l = leaves in
        ap (λ h. header_then h (file_end d a) guid) header
        ∙ header_is s.header r.section.header (file_end d a) guid r.count (r.end ∙ sym end_same) r.generation r.version l.hashed l.first_log l.root

    log_after : EndsLog reads.section (log_then a.log d.end (entries_of d))
    log_after = record { fragment = last_fragment ∙ sym leaves.last; used = last_used ∙ sym leaves.used }

    pub keeps_after : (new : Room) (bytes : List ℕ) → Kept bytes reads.section new → Keeps bytes reads.section new (access_then d a guid)
    keeps_after new bytes kept = record {
      header = header_after;
      log = log_after;
      fragments = fragments_same ∙ sym leaves.fragments;
      used = used_more (fragments_of s) (fragments_of reads.section) a.used a.fragments (fragments_then d a) keeps.used keeps.fragments (fragments_same ∙ sym leaves.fragments) leaves.extended;
      highest = lays.highest ∙ sym leaves.highest;
      kept = kept;
    }
