-- The commit of a draft: its transaction follows the finished log and counts its lists, and its writes make the whole.
use Rattle.std.proofs.Common.{◌≡◌, ℕ, ◌+◌, ◌^◌, ◌<◌, ◌≤◌, true, false, cond, ◌||◌, eqb, ltb, leb, ◌≢◌, List, [], ◌∷◌, ◌++◌, map, length, sym, refl, ap, ◌∙◌, subst, inl, inr, arith}
use Rattle.std.specs.List.{AllByRecursion}
use Rattle.std.proofs.lemmas.List.{length-append, length-map}
use Rattle.std.proofs.lemmas.Bool.{cases_Bool, ne_eqb}
use Rattle.std.proofs.lemmas.Bool.Decides.{nat_tests}
use Rattle.std.proofs.ByRecursion.{All-weaker}
use Rattle.model.specs.declared.types.Span.{Span}
use Rattle.model.specs.declared.types.Entry.{Entry}
use Rattle.model.specs.declared.types.Header.{Header}
use Rattle.model.specs.Bytes.{Write, applied}
use Rattle.model.specs.References.{span, end_of}
use Rattle.model.specs.Headers.{header_span}
use Rattle.model.specs.LogFragments.{entry, sentinel}
use Rattle.model.specs.Section.{Log, NodeList, Section, flat, last_of, count_in, list_fragments}
use Rattle.model.specs.Means.{Apart, Pairwise, Headed, data_spans, Means}
use Rattle.model.specs.Layouts.{Add, Tail, Layout, tail_of, member, find_tail}
use Rattle.model.specs.Saving.{layout}
use Rattle.model.specs.Committing.{count_entries, new_entries, logged, header_write, committing}
use Rattle.model.specs.Calls.{past_ceiling, commit_checks}
use Rattle.meaning.proofs.Base.{Clean}
use Rattle.commits.specs.Body.{Right, up_to}
use Rattle.commits.specs.Extends.{Extends}
use Rattle.commits.proofs.Store.{applied_row}
use Rattle.commits.proofs.Rows.{all_both}
use Rattle.commits.proofs.FragmentBack.{Small}
use Rattle.commits.proofs.Sums.{closed_small}
use Rattle.commits.proofs.HeadBack.{headed, head_rest}
use Rattle.commits.proofs.Ties.{tied_header}
use Rattle.commits.proofs.LogAdded.{Follows}
use Rattle.commits.proofs.Counting.{Counts, counted_after, rising_entries, counts_lists}
use Rattle.commits.proofs.Contents.{DataSame}
use Rattle.commits.proofs.Adds.{Drafted, Fine}
use Rattle.commits.proofs.LogWritten.{last_then, used_then, log_done}
use Rattle.commits.proofs.SameRow.{headed_same, heading_same}
use Rattle.commits.proofs.HeaderWritten.{head_kept, commit_head}
use Rattle.commits.proofs.Around.{other_same, Kept}

-- each list's tail is found by its ID
pub tails_own : (ls : List NodeList) → Pairwise (λ l m. l.id ≢ m.id) ls → AllByRecursion (λ l. find_tail (map tail_of ls) l.id ≡ tail_of l) ls
unfolding find_tail
tails_own [] p = tt
tails_own (m ∷ ls) (p, ps) =
    let q : eqb m.id m.id ≡ true = grind (arith, nat_tests) in
    let own : find_tail (map tail_of (m ∷ ls)) m.id ≡ tail_of m = ap (λ z. cond z (tail_of m) (find_tail (map tail_of ls) m.id)) q in (
      own,
      all_both (λ l. m.id ≢ l.id) (λ l. find_tail (map tail_of ls) l.id ≡ tail_of l) (λ l. find_tail (map tail_of (m ∷ ls)) l.id ≡ tail_of l) ls
          (λ l n e.
          let f = ne_eqb m.id l.id n in
          ap (λ z. cond z (tail_of m) (find_tail (map tail_of ls) l.id)) f ∙ e) p (tails_own ls ps),
    )

-- what holds of each list's ID holds of an ID among them
pub from_member : (P : ℕ → Type 0) (id : ℕ) (ls : List NodeList) → member id (map (λ l. l.id) ls) ≡ true → AllByRecursion (λ l. P l.id) ls → P id
from_member P id [] e a = absurd (grind arith)
from_member P id (l ∷ ls) e (p, a) = elim (cases_Bool (eqb l.id id)) [
  | inl x ↦ let q : l.id ≡ id = grind (arith, nat_tests) in subst P q p
  | inr x ↦ from_member P id ls (rw x at e) a
]

member_self : (ids : List ℕ) → AllByRecursion (λ x. member x ids ≡ true) ids
member_self [] = tt
member_self (x ∷ ids) =
    let q : eqb x x ≡ true = grind (arith, nat_tests) in (
      rw q,
      All-weaker (λ y. member y ids ≡ true) (λ y. member y (x ∷ ids) ≡ true) (λ y e. elim (cases_Bool (eqb x y)) [
        | inl z ↦ rw z
        | inr z ↦ rw z e
      ]) ids (member_self ids),
    )

-- the draft's transaction follows, and each list then has its count
pub draft_follows : (c : List ℕ) (s : Section) (y : Layout) (ls : List NodeList) → Drafted c s y ls
    → Follows s.log.transactions (count_entries y) × AllByRecursion (λ l. length l.nodes ≡ count_in (s.log.transactions ++ (count_entries y ∷ [])) l.id) ls
draft_follows c s y ls d =
    let ts = s.log.transactions in
    let T = y.touched in
    let count : ℕ → ℕ = λ id. (find_tail y.tails id).count in
    let k = d.counting in
    let each : AllByRecursion (λ l. count l.id ≡ length l.nodes) ls
    = subst (λ (z : List Tail). AllByRecursion (λ l. (find_tail z l.id).count ≡ length l.nodes) ls) (sym d.laid.tails)
    (All-weaker (λ l. find_tail (map tail_of ls) l.id ≡ tail_of l) (λ l. (find_tail (map tail_of ls) l.id).count ≡ length l.nodes) (λ l e. ap (λ (t : Tail). t.count) e) ls
    (tails_own ls d.laid.body.ids_differ)) in
    let rise : AllByRecursion (λ l. member l.id T ≡ true → count_in ts l.id < count l.id) ls
    = all_both (Counts ts T) (λ l. count l.id ≡ length l.nodes) (λ l. member l.id T ≡ true → count_in ts l.id < count l.id) ls (λ l u v w. above ts T count l u v w) k.counts each in
    let up : AllByRecursion (λ id. count_in ts id < count id) T
    = all_both (λ id. member id (map (λ l. l.id) ls) ≡ true) (λ id. member id T ≡ true) (λ id. count_in ts id < count id) T
    (λ id u v. from_member (λ x. member x T ≡ true → count_in ts x < count x) id ls u rise v) k.known (member_self T) in
    let real : AllByRecursion (λ id. 16 ≤ id) T = All-weaker (λ id. member id (map (λ l. l.id) ls) ≡ true) (λ id. 16 ≤ id) (λ id u. from_member (λ x. 16 ≤ x) id ls u (All-weaker (Right c (up_to s.header y.end)) (λ l. 16 ≤ l.id) (λ l r. r.part.real) ls d.laid.body.lists)) T k.known in
    (record { lists = counts_lists count T real; rising = rising_entries (flat ts) count T k.once up }, counted_after ts T count ls k.counts each)
  where
    above : (ts : List (List Entry)) (T : List ℕ) (count : ℕ → ℕ) (l : NodeList) → Counts ts T l → count l.id ≡ length l.nodes → member l.id T ≡ true → count_in ts l.id < count l.id
    above ts T count l (inl (e, u)) v w = omega arith
    above ts T count l (inr (e, u)) v w = absurd (grind arith)

-- what a commit leaves --------------------------------------------------------------------------------------------------

find_count : (ts : List Tail) (id : ℕ) → AllByRecursion (λ t. t.count < 2 ^ 32) ts → (find_tail ts id).count < 2 ^ 32
unfolding find_tail
find_count [] id a = omega arith
find_count (t ∷ ts) id (p, a) = elim (cases_Bool (eqb t.id id)) [
  | inl e ↦ rw e p
  | inr e ↦ rw e (find_count ts id a)
]

-- the numbers of a commit's entries take 4 bytes each
draft_small : (c : List ℕ) (s : Section) (y : Layout) (ls : List NodeList) → Drafted c s y ls → Fine y → AllByRecursion Small (new_entries y)
draft_small c s y ls d f =
    let top = f.highest in
    closed_small (count_entries y) (each y.touched (All-weaker (λ id. member id (map (λ l. l.id) ls) ≡ true) (λ id. id < 2 ^ 32) (λ id u. from_member (λ x. x < 2 ^ 32) id ls u (All-weaker (λ l. l.id ≤ y.highest) (λ l. l.id < 2 ^ 32) (λ l k. omega arith) ls d.laid.known)) y.touched d.counting.known))
  where
    each : (ids : List ℕ) → AllByRecursion (λ id. id < 2 ^ 32) ids → AllByRecursion Small (map (λ id. entry id (find_tail y.tails id).count) ids)
    each [] a = tt
    each (id ∷ ids) (p, a) = ((p, find_count y.tails id f.counts), each ids a)

-- what a commit's checks say of the numbers
record Bounded (s : Section) (y : Layout) : Type 0 where
  count : s.header.count + 1 < 2 ^ 32
  generation : s.header.generation + 1 < 2 ^ 64
  fragments : (logged s y).fragments ≤ 2048
  end : (logged s y).end ≤ 2 ^ 40

commit_bounds : (ceiling : ℕ) (s : Section) (adds : List Add) (guid : List ℕ) → (layout s adds).end ≤ 2 ^ 40 → Clean (commit_checks ceiling s adds guid) → Bounded s (layout s adds)
commit_bounds ceiling s adds guid h c =
    let (x, y) = numbers (s.header.count + 1) (s.header.generation + 1) c.1.1.1.0 in
    let k13 = c.1.1.0 in
    record { count = x; generation = y; fragments = few (logged s (layout s adds)).fragments k13; end = below (layout s adds).end ceiling (logged s (layout s adds)).end h c.1.1.1.1.0 }
  where
    numbers : (m n : ℕ) → leb (2 ^ 32) m || leb (2 ^ 64) n ≡ false → (m < 2 ^ 32) × (n < 2 ^ 64)
    numbers m n e = (grind (arith, nat_tests), grind (arith, nat_tests))

    few : (n : ℕ) → ltb 2048 n ≡ false → n ≤ 2048
    few n e = grind (arith, nat_tests)

    below : (old ceiling end : ℕ) → old ≤ 2 ^ 40 → past_ceiling old ceiling end ≡ false → end ≤ 2 ^ 40
    below old ceiling end h e = grind (arith, nat_tests)

-- the row c2 after a commit of the draft with the lists ls: it means the grown section, and has all data
pub record Committed (c c2 : List ℕ) (s : Section) (y : Layout) (ls : List NodeList) (guid : List ℕ) : Type 0 where
  pub log : Log
  pub transactions : log.transactions ≡ s.log.transactions ++ (count_entries y ∷ [])
  pub last : last_of (span 0 0) log.fragments ≡ last_then s y
  pub used : log.used ≡ used_then s y
  pub fragments : length (log.fragments ++ list_fragments ls) ≡ (logged s y).fragments
  pub extended : Extends s.log.fragments log.fragments
  pub means : Means c2 (record { header = headed s.header (logged s y).end guid; log = log; lists = ls })
  pub data_same : AllByRecursion (DataSame c c2) (data_spans ls)

-- all of a commit's writes
pub commit_done : (c : List ℕ) (ceiling : ℕ) (s : Section) (adds : List Add) (ls : List NodeList) (guid : List ℕ) → Drafted c s (layout s adds) ls → Fine (layout s adds) → length guid ≡ 16
    → Clean (commit_checks ceiling s adds guid) → Committed c (applied c (committing c s adds guid)) s (layout s adds) ls guid
unfolding committing
commit_done c ceiling s adds ls guid d f g k =
    let y : Layout = layout s adds in
    let gs = s.log.fragments in
    let lf : List Span = list_fragments ls in
    let fe = f.end in
    let n = commit_bounds ceiling s adds guid fe k in
    let end : ℕ = (logged s y).end in
    let H : Header = headed s.header end guid in
    let (w, counted) = draft_follows c s y ls d in
    let ft = f.touched in
    let few : length (new_entries y) ≤ 126 = omega (arith, length-append (count_entries y) (sentinel (count_entries y) ∷ []), length-map {A = ℕ} {B = Entry} y.touched (λ id. entry id (find_tail y.tails id).count)) in
    let L = log_done c s y ls guid d f w (draft_small c s y ls d f) few n.fragments in
    let c1 : List ℕ = applied c (logged s y).writes in
    let B = L.around in
    let wh = d.laid.body.whole in
    let low = d.laid.body.least in
    let la = d.later in
    let reach = B.after in
    let kh : Kept c c1 header_span = other_same c c1 y.end L.last L.place 0 0 B header_span L.apart.0 low in
    let a1 : Headed c1 s.header = headed_same c c1 s.header kh (omega arith) d.head in
    let hw : header_write c s.header end guid ≡ header_write c1 s.header end guid = heading_same c c1 s.header end guid d.head.whole a1.whole kh in
    let c2 : List ℕ = applied c1 (header_write c1 s.header end guid ∷ []) in
    let q : applied c ((logged s y).writes ++ (header_write c s.header end guid ∷ [])) ≡ c2 = applied_row c (logged s y).writes (header_write c s.header end guid ∷ []) ∙ ap (λ (z : Write). applied c1 (z ∷ [])) hw in
    let (e2, r2) = head_rest c1 s.header end guid a1.whole g in
    let M = commit_head c1 s L.log ls end guid a1 g n.count n.generation n.end L.logs L.body (tied_header (up_to s.header y.end) H ls refl d.tied)
    (subst (λ (z : List (List Entry)). AllByRecursion (λ l. length l.nodes ≡ count_in z l.id) ls) (sym L.transactions) counted) (omega (arith, d.laid.lists, f.lists)) (omega (arith, L.fragments, L.few)) in
    let far : AllByRecursion (λ r. Apart L.last r × Apart header_span r) (data_spans ls)
    = all_both (Apart L.last) (λ r. AllByRecursion (Apart r) (header_span ∷ (gs ++ lf))) (λ r. Apart L.last r × Apart header_span r) (data_spans ls) (λ r u v. (u, λ i x z. v.0 i z x)) L.data_apart d.laid.body.data_apart in
    let D : AllByRecursion (DataSame c c2) (data_spans ls)
    = all_both (λ r. end_of r ≤ y.end) (λ r. Apart L.last r × Apart header_span r) (DataSame c c2) (data_spans ls)
    (λ r u v. (omega arith, omega arith, λ i x z. other_same c c1 y.end L.last L.place 0 0 B r v.0 u i x z ∙ head_kept c1 c2 r r2 v.1 i x z)) d.laid.body.data_inside far in
    subst (λ (z : List ℕ). Committed c z s y ls guid) (sym q) (record { log = L.log; transactions = L.transactions; last = L.end'; used = L.used; fragments = L.fragments; extended = L.extended; means = M; data_same = D })
