-- A log that is right is read as it is, and one that is right up to some entry is read up to there.
use Rattle.std.proofs.Common.{◌≡◌, ℕ, zero, suc, ◌+◌, ◌-◌, ◌<◌, ◌≤◌, true, false, cond, eqb, leb, ◌≢◌, List, [], ◌∷◌, ◌++◌, map, length, sym, refl, ap, ◌∙◌, subst, arith}
use Rattle.std.specs.List.{AllByRecursion}
use Rattle.std.proofs.lemmas.List.{append_assoc, append-nil, length-append, length_push, same_from_push}
use Rattle.std.proofs.lemmas.Bool.{eq-eqb}
use Rattle.std.proofs.ByRecursion.{All-append}
use Rattle.std.proofs.lemmas.Bool.Decides.{nat_tests}
use Rattle.model.specs.declared.types.Span.{Span}
use Rattle.model.specs.declared.types.Entry.{Entry}
use Rattle.model.specs.declared.types.Header.{Header}
use Rattle.model.specs.Faults.{Outcome, done, unless, then}
use Rattle.model.specs.References.{span, span_at}
use Rattle.model.specs.Headers.{header_span}
use Rattle.model.specs.LogFragments.{entry_at, sentinel, entries_in, entry_place, log_next}
use Rattle.model.specs.Section.{Log, flat, last_of, latest}
use Rattle.model.specs.OpenedLog.{Reading, finished, unfinished, log_entries, log_from, reading, log_goes, log_checks}
use Rattle.model.specs.Means.{Apart, Pairwise, Inside, Chain, entries_of, log_row, closed, CountsLists, Rising, PartOfLog, Logs}
use Rattle.meaning.proofs.Base.{Clean, unless_clean, all_front, inside_passes, apart_overlaps, apart_before}
use Rattle.meaning.proofs.Members.{flat_append, flat_push}
use Rattle.meaning.proofs.Growth.{row_more}

-- where a log is that is right: ts are read, and `pending` of the next transaction; of that t is left, and the transactions us behind it
-- what is left of the row
abbrev pub left : List Entry → List Entry → List (List Entry) → List Entry
left pending t us = t ++ (sentinel (pending ++ t) ∷ flat (map closed us))

pub record Ahead (ts : List (List Entry)) (pending t : List Entry) (us : List (List Entry)) : Type 0 where
  pub lists : CountsLists t
  pub later : AllByRecursion CountsLists us
  pub rising : Rising (flat ts ++ pending) (t ++ flat us)

-- the next entry is a count
ahead_count : (ts : List (List Entry)) (pending : List Entry) (e : Entry) (t : List Entry) (us : List (List Entry)) → Ahead ts pending (e ∷ t) us → Ahead ts (pending ++ (e ∷ [])) t us
ahead_count ts pending e t us a = record {
  lists = a.lists.1;
  later = a.later;
  rising = subst (λ x. Rising x (t ++ flat us)) (append_assoc (flat ts) pending (e ∷ [])) a.rising.1;
}

pub closed_push : (ts : List (List Entry)) (t : List Entry) → flat (map closed (ts ++ (t ∷ []))) ≡ flat (map closed ts) ++ closed t
closed_push ts t = flat_append closed ts (t ∷ []) ∙ ap (λ z. flat (map closed ts) ++ z) (append-nil (closed t))

-- the next entry is a sentinel, and transactions come behind it
ahead_sentinel : (ts : List (List Entry)) (pending u : List Entry) (us : List (List Entry)) → Ahead ts pending [] (u ∷ us) → Ahead (ts ++ (pending ∷ [])) [] u us
ahead_sentinel ts pending u us a = record {
  lists = a.later.0;
  later = a.later.1;
  rising = subst (λ x. Rising x (u ++ flat us)) (sym (flat_push ts pending) ∙ sym (append-nil (flat (ts ++ (pending ∷ []))))) a.rising;
}

left_count : (pending : List Entry) (e : Entry) (t : List Entry) (us : List (List Entry)) → left pending (e ∷ t) us ≡ e ∷ left (pending ++ (e ∷ [])) t us
left_count pending e t us = ap (λ x. e ∷ (t ++ (sentinel x ∷ flat (map closed us)))) (sym (append_assoc pending (e ∷ []) t))

left_sentinel : (pending u : List Entry) (us : List (List Entry)) → left pending [] (u ∷ us) ≡ sentinel pending ∷ left [] u us
left_sentinel pending u us =
    ap (λ x. sentinel x ∷ (closed u ++ flat (map closed us))) (append-nil pending) ∙ ap (λ x. sentinel pending ∷ x) (append_assoc u (sentinel u ∷ []) (flat (map closed us)))

-- one step ---------------------------------------------------------------------------------------------------------

step_count : (n : ℕ) (b : List ℕ) (count : ℕ) (f : Span) (i : ℕ) (ts : List (List Entry)) (pending : List Entry) (e : Entry)
    → entry_at b (entry_place f i) ≡ e → e.source ≢ 1 → latest e.source 0 (flat ts ++ pending) < e.number
    → log_entries (suc n) b count f i (reading ts pending) ≡ log_entries n b count f (i + 1) (reading ts (pending ++ (e ∷ [])))
unfolding log_entries
step_count n b count f i ts pending e q s l =
    let x : eqb e.source 1 ≡ false = grind (arith, nat_tests) in
    let y : leb e.number (latest e.source 0 (flat ts ++ pending)) ≡ false = grind (arith, nat_tests) in
    grind (arith, nat_tests)

step_sentinel : (n : ℕ) (b : List ℕ) (count : ℕ) (f : Span) (i : ℕ) (ts : List (List Entry)) (pending : List Entry)
    → entry_at b (entry_place f i) ≡ sentinel pending
    → log_entries (suc n) b count f i (reading ts pending)
    ≡ cond (eqb (length (ts ++ (pending ∷ []))) count) (done (finished (ts ++ (pending ∷ [])) (i + 1))) (log_entries n b count f (i + 1) (reading (ts ++ (pending ∷ [])) []))
unfolding log_entries
step_sentinel n b count f i ts pending q =
    let x : eqb (sentinel pending).number (sentinel pending).number ≡ true = grind (arith, nat_tests) in
    grind (arith, nat_tests)

-- some entries of a fragment are read, and es are still to come -----------------------------------------------------------

-- m of n entries are read
abbrev ReadOn : ℕ → ℕ → List ℕ → ℕ → Span → ℕ → List (List Entry) → List Entry → List Entry → List (List Entry) → List Entry → Type 0
ReadOn m n b count f i ts pending t us es =
    (ts' : List (List Entry)) × (pending' : List Entry) × (t' : List Entry) × (us' : List (List Entry))
    × (log_entries n b count f i (reading ts pending) ≡ log_entries (n - m) b count f (i + m) (reading ts' pending'))
    × (es ≡ left pending' t' us') × (ts' ++ ((pending' ++ t') ∷ us') ≡ ts ++ ((pending ++ t) ∷ us)) × Ahead ts' pending' t' us'

one_less : (m n : ℕ) (b : List ℕ) (count : ℕ) (f : Span) (i : ℕ) (r : Reading) → log_entries (n - m) b count f (i + 1 + m) r ≡ log_entries (suc n - suc m) b count f (i + suc m) r
one_less m n b count f i r =
    let x : n - m ≡ suc n - suc m = omega arith in
    let y : i + 1 + m ≡ i + suc m = omega arith in
    ap (λ z. log_entries z b count f (i + 1 + m) r) x ∙ ap (λ z. log_entries (suc n - suc m) b count f z r) y

entries_on : (m n : ℕ) (b : List ℕ) (count : ℕ) (f : Span) (i : ℕ) (ts : List (List Entry)) (pending t : List Entry) (us : List (List Entry)) (es : List Entry)
    → Ahead ts pending t us → length (ts ++ ((pending ++ t) ∷ us)) ≤ count → entries_of b f i m ++ es ≡ left pending t us → 1 ≤ length es → m ≤ n
    → ReadOn m n b count f i ts pending t us es
entries_on zero n b count f i ts pending t us es a c q l k =
    let x : n ≡ n - 0 = omega arith in
    let y : i ≡ i + 0 = omega arith in
    (ts, pending, t, us, ap (λ z. log_entries z b count f i (reading ts pending)) x ∙ ap (λ z. log_entries (n - 0) b count f z (reading ts pending)) y, q, refl, a)
entries_on (suc m) zero b count f i ts pending t us es a c q l k = absurd (omega arith)
entries_on (suc m) (suc n) b count f i ts pending (e ∷ t) us es a c q l k =
    let q' : entry_at b (entry_place f i) ∷ (entries_of b f (i + 1) m ++ es) ≡ e ∷ left (pending ++ (e ∷ [])) t us = q ∙ left_count pending e t us in
    let x : entry_at b (entry_place f i) ≡ e = cc in
    let y : entries_of b f (i + 1) m ++ es ≡ left (pending ++ (e ∷ [])) t us = cc in
    let w : ts ++ (((pending ++ (e ∷ [])) ++ t) ∷ us) ≡ ts ++ ((pending ++ (e ∷ t)) ∷ us) = ap (λ z. ts ++ (z ∷ us)) (append_assoc pending (e ∷ []) t) in
    let (ts', pending', t', us', go, r, v, a')
    = entries_on m n b count f (i + 1) ts (pending ++ (e ∷ [])) t us es (ahead_count ts pending e t us a) (subst (λ z. length z ≤ count) (sym w) c) y l (omega arith) in
    (ts', pending', t', us', step_count n b count f i ts pending e x a.lists.0 a.rising.0 ∙ go ∙ one_less m n b count f i (reading ts' pending'), r, v ∙ w, a')
entries_on (suc m) (suc n) b count f i ts pending [] [] es a c q l k =
    let z : length (entry_at b (entry_place f i) ∷ (entries_of b f (i + 1) m ++ es)) ≡ 1 = ap length q in
    let y = length-append (entries_of b f (i + 1) m) es in
    absurd (omega arith)
entries_on (suc m) (suc n) b count f i ts pending [] (u ∷ us) es a c q l k =
    let q' : entry_at b (entry_place f i) ∷ (entries_of b f (i + 1) m ++ es) ≡ sentinel pending ∷ left [] u us = q ∙ left_sentinel pending u us in
    let x : entry_at b (entry_place f i) ≡ sentinel pending = cc in
    let y : entries_of b f (i + 1) m ++ es ≡ left [] u us = cc in
    let w : (ts ++ (pending ∷ [])) ++ (u ∷ us) ≡ ts ++ ((pending ++ []) ∷ (u ∷ us))
    = append_assoc ts (pending ∷ []) (u ∷ us) ∙ ap (λ z. ts ++ (z ∷ (u ∷ us))) (sym (append-nil pending)) in
    let c' : length ((ts ++ (pending ∷ [])) ++ (u ∷ us)) ≤ count = subst (λ z. length z ≤ count) (sym w) c in
    let long = length-append (ts ++ (pending ∷ [])) (u ∷ us) in
    let more : eqb (length (ts ++ (pending ∷ []))) count ≡ false = grind (arith, nat_tests) in
    let (ts', pending', t', us', go, r, v, a') = entries_on m n b count f (i + 1) (ts ++ (pending ∷ [])) [] u us es (ahead_sentinel ts pending u us a) c' y l (omega arith) in
    (ts', pending', t', us', step_sentinel n b count f i ts pending x ∙ rw more (go ∙ one_less m n b count f i (reading ts' pending')), r, v ∙ w, a')

-- fragments --------------------------------------------------------------------------------------------------------

pub log_step : (n : ℕ) (b : List ℕ) (h : Header) (fs : List Span) (field : ℕ) (f : Span) (r : Reading)
    → log_from (suc n) b h fs field f r
    ≡ unless (log_checks h.end fs field f)
    (then (log_entries (entries_in f.size) b h.count f 0 r) (log_goes (log_from n b h) b fs f))
unfolding log_from
log_step n b h fs field f r = refl

log_passes : (h : Header) (fs : List Span) (field : ℕ) (f : Span) (gs : List Span) → Inside 12 h.end f → Pairwise Apart (header_span ∷ (fs ++ (f ∷ gs)))
    → Clean (log_checks h.end fs field f)
log_passes h fs field f gs i a =
    let c = apart_before (header_span ∷ fs) f gs a in
    (inside_passes 12 h.end f (omega arith) i, (apart_overlaps f fs c.0 c.1, tt))

-- a fragment that is right is entered
log_enters : (n : ℕ) (b : List ℕ) (h : Header) (fs : List Span) (field : ℕ) (f : Span) (gs : List Span) (r : Reading)
    → Inside 12 h.end f → Pairwise Apart (header_span ∷ (fs ++ (f ∷ gs)))
    → log_from (suc n) b h fs field f r ≡ then (log_entries (entries_in f.size) b h.count f 0 r) (log_goes (log_from n b h) b fs f)
log_enters n b h fs field f gs r i p = log_step n b h fs field f r ∙ unless_clean (log_checks h.end fs field f) _ (log_passes h fs field f gs i p)

-- no entry is left
pub entries_over : (n : ℕ) (b : List ℕ) (count : ℕ) (f : Span) (i : ℕ) (r : Reading) → log_entries (n - n) b count f i r ≡ done (unfinished r)
unfolding log_entries
entries_over n b count f i r = let x : n - n ≡ 0 = omega arith in ap (λ z. log_entries z b count f i r) x

abbrev pub log_next_of : List ℕ → Span → Span
log_next_of b f = span_at b (log_next f)

abbrev pub log_is : List Span → List (List Entry) → ℕ → Log
log_is fs ts used = record { fragments = fs; transactions = ts; used = used }

-- from the entry `used` of the fragment g on, with n fragments more
abbrev from_entry : ℕ → List ℕ → Header → List Span → Span → ℕ → Reading → Outcome Log
from_entry n b h fs g used r = then (log_entries (entries_in g.size - used) b h.count g used r) (log_goes (log_from n b h) b fs g)

-- the fragments f, gs are read up to an entry of the last, and es are still to come
abbrev Walks : ℕ → ℕ → List ℕ → Header → List Span → ℕ → Span → List Span → ℕ → List (List Entry) → List Entry → List Entry → List (List Entry) → List Entry → Type 0
Walks n m b h fs field f gs used ts pending t us es =
    (front : List Span) × (ts' : List (List Entry)) × (pending' : List Entry) × (t' : List Entry) × (us' : List (List Entry))
    × (log_from n b h fs field f (reading ts pending) ≡ from_entry m b h front (last_of f gs) used (reading ts' pending'))
    × (front ++ (last_of f gs ∷ []) ≡ fs ++ (f ∷ gs)) × (es ≡ left pending' t' us') × (ts' ++ ((pending' ++ t') ∷ us') ≡ ts ++ ((pending ++ t) ∷ us))

log_walks : (n m : ℕ) (b : List ℕ) (h : Header) (fs : List Span) (field : ℕ) (f : Span) (gs : List Span) (used : ℕ)
    (ts : List (List Entry)) (pending t : List Entry) (us : List (List Entry)) (es : List Entry)
    → Chain (log_next_of b) (log_next_of b f) gs → AllByRecursion (Inside 12 h.end) (f ∷ gs) → Pairwise Apart (header_span ∷ (fs ++ (f ∷ gs))) → n ≡ length (f ∷ gs) + m
    → Ahead ts pending t us → length (ts ++ ((pending ++ t) ∷ us)) ≤ h.count → log_row b (f ∷ gs) used ++ es ≡ left pending t us → 1 ≤ length es
    → used ≤ entries_in (last_of f gs).size → Walks n m b h fs field f gs used ts pending t us es
log_walks zero m b h fs field f gs used ts pending t us es c i p l a k q o u = absurd (omega arith)
log_walks (suc n) m b h fs field f [] used ts pending t us es c i p l a k q o u =
    let (ts', pending', t', us', go, r, w, a') = entries_on used (entries_in f.size) b h.count f 0 ts pending t us es a k q o u in
    let x : n ≡ m = omega arith in
    let y : 0 + used ≡ used = omega arith in (
      fs,
      ts',
      pending',
      t',
      us',
      log_enters n b h fs field f [] (reading ts pending) i.0 p
          ∙ ap (λ z. then z (log_goes (log_from n b h) b fs f)) (go ∙ ap (λ z. log_entries (entries_in f.size - used) b h.count f z (reading ts' pending')) y)
          ∙ ap (λ z. from_entry z b h fs f used (reading ts' pending')) x,
      refl,
      r,
      w,
    )
log_walks (suc n) m b h fs field f (g ∷ gs) used ts pending t us es c i p l a k q o u =
    let N = entries_in f.size in
    let rest = log_row b (g ∷ gs) used ++ es in
    let some = length-append (log_row b (g ∷ gs) used) es in
    let (ts', pending', t', us', go, r, w, a')
    = entries_on N N b h.count f 0 ts pending t us rest a k (sym (append_assoc (entries_of b f 0 N) (log_row b (g ∷ gs) used) es) ∙ q) (omega arith) (omega arith) in
    let (front, ts'', pending'', t'', us'', walk, last, r', w')
    = log_walks n m b h (fs ++ (f ∷ [])) (log_next f) g gs used ts' pending' t' us' es c.1 i.1
    (subst (λ x. Pairwise Apart (header_span ∷ x)) (sym (append_assoc fs (f ∷ []) (g ∷ gs))) p) (omega arith) a' (subst (λ z. length z ≤ h.count) (sym w) k) r o u in (
      front,
      ts'',
      pending'',
      t'',
      us'',
      log_enters n b h fs field f (g ∷ gs) (reading ts pending) i.0 p
          ∙ ap (λ z. then z (log_goes (log_from n b h) b fs f)) (go ∙ entries_over N b h.count f (0 + N) (reading ts' pending'))
          ∙ ap (λ x. log_from n b h (fs ++ (f ∷ [])) (log_next f) x (reading ts' pending')) (sym c.0) ∙ walk,
      last ∙ append_assoc fs (f ∷ []) (g ∷ gs),
      r',
      w' ∙ w,
    )

-- a log that is right up to some entry is read up to there
pub log_part_read : (b : List ℕ) (h : Header) (fs : List Span) (used : ℕ) (ts : List (List Entry)) (pending : List Entry) → PartOfLog b h fs used ts pending
    → 1 ≤ length fs → length ts < h.count
    → (front : List Span) × (front ++ (last_of (span 0 0) fs ∷ []) ≡ fs)
    × (log_from 2048 b h [] 0xA0 h.log (reading [] []) ≡ from_entry (2048 - length fs) b h front (last_of (span 0 0) fs) used (reading ts pending))
log_part_read b h [] used ts pending p s c = absurd (omega arith)
log_part_read b h (f ∷ gs) used ts pending p s c =
    let (t, us, e) = first_of_push ts pending in
    let few = p.few in
    let long = length_push ts pending in
    let all : Rising [] (flat (t ∷ us)) = subst (λ z. Rising [] z) (sym (flat_push ts pending) ∙ ap flat e) p.rising in
    let lists : AllByRecursion CountsLists (t ∷ us) = subst (λ z. AllByRecursion CountsLists z) e (All-append CountsLists ts (pending ∷ []) p.lists (p.pending_lists, tt)) in
    let a : Ahead [] [] t us = record { lists = lists.0; later = lists.1; rising = all } in
    let row : log_row b (f ∷ gs) used ++ (sentinel pending ∷ []) ≡ left [] t us
    = ap (λ z. z ++ (sentinel pending ∷ [])) p.row ∙ append_assoc (flat (map closed ts)) pending (sentinel pending ∷ []) ∙ sym (closed_push ts pending)
    ∙ ap (λ z. flat (map closed z)) e ∙ append_assoc t (sentinel t ∷ []) (flat (map closed us)) in
    let (front, ts', pending', t', us', walk, last, r, w)
    = log_walks 2048 (2048 - length (f ∷ gs)) b h [] 0xA0 f gs used [] [] t us (sentinel pending ∷ []) p.chain.1 p.inside p.apart (omega arith) a
    (subst (λ z. length z ≤ h.count) e (omega arith)) row (omega arith) p.places in
    let (x, y) = nothing_left pending' t' us' (sentinel pending) r in
    let v : ts' ++ (pending' ∷ []) ≡ ts ++ (pending ∷ [])
    = ap (λ z. ts' ++ (z ∷ [])) (sym (append-nil pending')) ∙ ap (λ z. ts' ++ ((pending' ++ z) ∷ [])) (sym x) ∙ ap (λ z. ts' ++ ((pending' ++ t') ∷ z)) (sym y) ∙ w ∙ sym e in
    let (d, g) = same_from_push ts' ts pending' pending v in (
      front,
      last,
      ap (λ x. log_from 2048 b h [] 0xA0 x (reading [] [])) (sym p.chain.0) ∙ walk
          ∙ ap (λ z. from_entry (2048 - length (f ∷ gs)) b h front (last_of f gs) used (reading z pending')) d
          ∙ ap (λ z. from_entry (2048 - length (f ∷ gs)) b h front (last_of f gs) used (reading ts z)) g,
    )
  where
    first_of_push : {X : Type 0} (xs : List X) (x : X) → (y : X) × (ys : List X) × (xs ++ (x ∷ []) ≡ y ∷ ys)
    first_of_push [] x = (x, [], refl)
    first_of_push (y ∷ ys) x = (y, ys ++ (x ∷ []), refl)

    -- one entry is left: a sentinel
    nothing_left : (pending t : List Entry) (us : List (List Entry)) (e : Entry) → e ∷ [] ≡ left pending t us → (t ≡ []) × (us ≡ [])
    nothing_left pending [] [] e q = (refl, refl)
    nothing_left pending [] (u ∷ us) e q =
        let x : ◌≡◌ {A = ℕ} 1 (length (left pending [] (u ∷ us))) = ap length q in
        let y = length-append u (sentinel u ∷ []) in
        let z = length-append (closed u) (flat (map closed us)) in
        absurd (omega arith)
    nothing_left pending (x ∷ t) us e q =
        let y : ◌≡◌ {A = ℕ} 1 (length (left pending (x ∷ t) us)) = ap length q in
        let z = length-append t (sentinel (pending ++ (x ∷ t)) ∷ flat (map closed us)) in
        absurd (omega arith)

-- the last of a list that has one
last_split : {X : Type 0} (xs : List X) → 1 ≤ length xs → (ys : List X) × (y : X) × (xs ≡ ys ++ (y ∷ []))
last_split [] l = absurd (omega arith)
last_split (x ∷ []) l = ([], x, refl)
last_split (x ∷ (y ∷ xs)) l = let (ys, z, e) = last_split (y ∷ xs) (omega arith) in (x ∷ ys, z, ap (λ w. x ∷ w) e)

-- the log up to its last sentinel
logs_with : (b : List ℕ) (h : Header) (fs : List Span) (ts : List (List Entry)) (pending : List Entry) (u : ℕ) → Logs b h (log_is fs (ts ++ (pending ∷ [])) (u + 1))
    → log_from 2048 b h [] 0xA0 h.log (reading [] []) ≡ done (log_is fs (ts ++ (pending ∷ [])) (u + 1))
logs_with b h [] ts pending u l = absurd (
    let x : u + 1 ≤ entries_in 0 = l.part.places in
    omega arith)
logs_with b h (f ∷ gs) ts pending u l =
    let g = last_of f gs in
    let N = entries_in g.size in
    let p = l.part in
    let places : u + 1 ≤ N = p.places in
    let all : log_row b (f ∷ gs) u ++ (entry_at b (entry_place g u) ∷ []) ≡ (flat (map closed ts) ++ pending) ++ (sentinel pending ∷ [])
    = sym (row_more b (span 0 0) f gs u 1) ∙ p.row ∙ append-nil (flat (map closed (ts ++ (pending ∷ [])))) ∙ closed_push ts pending ∙ sym (append_assoc (flat (map closed ts)) pending (sentinel pending ∷ [])) in
    let (row, end) = same_from_push (log_row b (f ∷ gs) u) (flat (map closed ts) ++ pending) (entry_at b (entry_place g u)) (sentinel pending) all in
    let (lists, lists') = all_front CountsLists ts (pending ∷ []) p.lists in
    let finished' : length (ts ++ (pending ∷ [])) ≡ h.count = l.finished in
    let long = length_push ts pending in
    let (front, last, read) = log_part_read b h (f ∷ gs) u ts pending (record {
      chain = p.chain;
      inside = p.inside;
      apart = p.apart;
      few = p.few;
      places = omega arith;
      row = row;
      lists = lists;
      pending_lists = lists'.0;
      rising = subst (λ z. Rising [] z) (append-nil (flat (ts ++ (pending ∷ []))) ∙ flat_push ts pending) p.rising;
    }) (omega arith) (omega arith) in
    let over : eqb (length (ts ++ (pending ∷ []))) h.count ≡ true = eq-eqb (length (ts ++ (pending ∷ []))) h.count finished' in
    let k : N - u ≡ suc (N - (u + 1)) = omega arith in
    let go : log_entries (N - u) b h.count g u (reading ts pending) ≡ done (finished (ts ++ (pending ∷ [])) (u + 1))
    = ap (λ z. log_entries z b h.count g u (reading ts pending)) k ∙ step_sentinel (N - (u + 1)) b h.count g u ts pending end ∙ rw over in
    read ∙ ap (λ z. then z (log_goes (log_from (2048 - length (f ∷ gs)) b h) b front g)) go ∙ ap (λ z. done (log_is z (ts ++ (pending ∷ [])) (u + 1))) last

-- a log that is right is read
pub logs_read : (b : List ℕ) (h : Header) (l : Log) → Logs b h l → 1 ≤ h.count → log_from 2048 b h [] 0xA0 h.log (reading [] []) ≡ done l
logs_read b h l g o =
    let finished' = g.finished in
    let ends = g.ends in
    let (ts, pending, e) = last_split l.transactions (omega arith) in
    let used : l.used ≡ (l.used - 1) + 1 = omega arith in
    let same : log_is l.fragments (ts ++ (pending ∷ [])) (l.used - 1 + 1) ≡ l = ap (λ z. log_is l.fragments z (l.used - 1 + 1)) (sym e) ∙ ap (λ z. log_is l.fragments l.transactions z) (sym used) in
    logs_with b h l.fragments ts pending (l.used - 1) (subst (λ (l : Log). Logs b h l) (sym same) g) ∙ ap done same
