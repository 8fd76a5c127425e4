-- A log with one transaction more: its entries fit into the last fragment, or go on in a new one.
use Rattle.std.proofs.Common.{◌≡◌, ℕ, zero, suc, ◌+◌, ◌*◌, ◌<◌, ◌≤◌, List, [], ◌∷◌, ◌++◌, map, length, sym, refl, ap, ◌∙◌, subst, arith}
use Rattle.std.specs.List.{AllByRecursion}
use Rattle.std.proofs.lemmas.List.{append_assoc, append-nil, length-append}
use Rattle.std.proofs.ByRecursion.{All-append, All-weaker}
use Rattle.model.specs.declared.types.Span.{Span}
use Rattle.model.specs.declared.types.Entry.{Entry}
use Rattle.model.specs.declared.types.Header.{Header}
use Rattle.model.specs.Bytes.{le, Same}
use Rattle.model.specs.References.{span, end_of, span_at}
use Rattle.model.specs.Headers.{header_span}
use Rattle.model.specs.LogFragments.{entries_in, log_next}
use Rattle.model.specs.Section.{Log, flat, last_of}
use Rattle.model.specs.Means.{Apart, Pairwise, Inside, Chain, entries_of, log_row, closed, CountsLists, Rising, Logs}
use Rattle.meaning.proofs.Frames.{le_in}
use Rattle.meaning.proofs.Local.{span_local}
use Rattle.meaning.proofs.Members.{flat_push}
use Rattle.meaning.proofs.Growth.{last_push, row_more, row_next, chain_next, rising_row}
use Rattle.meaning.proofs.ReadLog.{closed_push}
use Rattle.commits.proofs.Rows.{pair_between}

-- frames -----------------------------------------------------------------------------------------------------------

-- the rows agree on a log: on each fragment but the last, and in that on its used entries
abbrev pub LogAgree : List ℕ → List ℕ → List Span → ℕ → Type 0
LogAgree b c [] used = Unit {0}
LogAgree b c (f ∷ []) used = Same b c f.start (f.start + 8 * used)
LogAgree b c (f ∷ (g ∷ gs)) used = Same b c f.start (end_of f) × LogAgree b c (g ∷ gs) used

entries_local : (b c : List ℕ) (f : Span) (i n : ℕ) → Same b c f.start (f.start + 8 * (i + n)) → entries_of b f i n ≡ entries_of c f i n
entries_local b c f i zero s = refl
entries_local b c f i (suc n) s =
    let hi = f.start + 8 * (i + suc n) in
    let x : le 4 b (f.start + 8 * i) ≡ le 4 c (f.start + 8 * i) = le_in 4 b c f.start hi (f.start + 8 * i) s (omega arith) (omega arith) in
    let y : le 4 b (f.start + 8 * i + 4) ≡ le 4 c (f.start + 8 * i + 4) = le_in 4 b c f.start hi (f.start + 8 * i + 4) s (omega arith) (omega arith) in
    let ih = entries_local b c f (i + 1) n (λ j l h. s j l (omega arith)) in
    rw (x, y, ih)

-- a fragment's entries and its next reference stand in it
pub next_inside : (f : Span) → 12 ≤ f.size → log_next f + 12 ≤ end_of f
next_inside f h = omega arith

pub row_local : (b c : List ℕ) (end : ℕ) (fs : List Span) (used : ℕ) → AllByRecursion (Inside 12 end) fs → LogAgree b c fs used → log_row b fs used ≡ log_row c fs used
row_local b c end [] used i a = refl
row_local b c end (f ∷ []) used i a = entries_local b c f 0 used (λ j l h. a j l (omega arith))
row_local b c end (f ∷ (g ∷ gs)) used ((x, y), i) (s, a) =
    let n = next_inside f x in
    let u = entries_local b c f 0 (entries_in f.size) (λ j l h. s j l (omega arith)) in
    let v = row_local b c end (g ∷ gs) used i a in
    rw (u, v)

pub chain_local : (b c : List ℕ) (end : ℕ) (r : Span) (fs : List Span) (used : ℕ) → AllByRecursion (Inside 12 end) fs → LogAgree b c fs used
    → Chain (λ f. span_at b (log_next f)) r fs → Chain (λ f. span_at c (log_next f)) r fs
chain_local b c end r [] used i a k = tt
chain_local b c end r (f ∷ []) used i a (e, k) = (e, tt)
chain_local b c end r (f ∷ (g ∷ gs)) used ((x, y), i) (s, a) (e, k) =
    let n = next_inside f x in
    let q : span_at b (log_next f) ≡ span_at c (log_next f) = span_local b c f.start (end_of f) (log_next f) s (omega arith) (omega arith) in
    (e, subst (λ z. Chain (λ f. span_at c (log_next f)) z (g ∷ gs)) q (chain_local b c end (span_at b (log_next f)) (g ∷ gs) used i a k))

-- transactions -----------------------------------------------------------------------------------------------------------

rising_push : (ts : List (List Entry)) (t : List Entry) → Rising [] (flat ts ++ []) → Rising (flat ts) t → Rising [] (flat (ts ++ (t ∷ [])) ++ [])
rising_push ts t a c =
    subst (λ z. Rising [] z) (sym (append-nil (flat (ts ++ (t ∷ []))) ∙ flat_push ts t)) (rising_row [] (flat ts) t (subst (λ z. Rising [] z) (append-nil (flat ts)) a) c)

-- the log with one transaction more ------------------------------------------------------------------------------------------

-- a log has a fragment: one entry at least is used
pub log_some : (b : List ℕ) (h : Header) (l : Log) → Logs b h l → 1 ≤ length l.fragments
log_some b h l g = by l.fragments g.part.places g.ends
  where
    by : (fs : List Span) → l.used ≤ entries_in (last_of (span 0 0) fs).size → 1 ≤ l.used → 1 ≤ length fs
    by [] p q = absurd (omega arith)
    by (f ∷ fs) p q = omega arith

-- a new transaction that goes behind ts
pub record Follows (ts : List (List Entry)) (t : List Entry) : Type 0 where
  pub lists : CountsLists t
  pub rising : Rising (flat ts) t

-- what holds of a row split behind the first
pub split_log : (P : List Span → Type 0) (fs : List Span) → 1 ≤ length fs → ((f : Span) (gs : List Span) → P (f ∷ gs)) → P fs
split_log P [] h k = absurd (omega arith)
split_log P (f ∷ gs) h k = k f gs

inside_later : (end end' : ℕ) (fs : List Span) → end ≤ end' → AllByRecursion (Inside 12 end) fs → AllByRecursion (Inside 12 end') fs
inside_later end end' fs h a = All-weaker (Inside 12 end) (Inside 12 end') (λ f x. (x.0, omega (arith, x.1))) fs a

-- its entries fit
pub log_fits : (b c : List ℕ) (h h' : Header) (l : Log) (t : List Entry) → Logs b h l → LogAgree b c l.fragments l.used → h.end ≤ h'.end → h'.log ≡ h.log → h'.count ≡ h.count + 1
    → Follows l.transactions t → l.used + length (closed t) ≤ entries_in (last_of (span 0 0) l.fragments).size
    → entries_of c (last_of (span 0 0) l.fragments) l.used (length (closed t)) ≡ closed t
    → Logs c h' (record { fragments = l.fragments; transactions = l.transactions ++ (t ∷ []); used = l.used + length (closed t) })
log_fits b c h h' l t g a e r n w p q =
    let fs = l.fragments in
    let ts = l.transactions in
    let k = g.part in
    let some = log_some b h l g in
    let more : log_row c fs (l.used + length (closed t)) ≡ log_row c fs l.used ++ entries_of c (last_of (span 0 0) fs) l.used (length (closed t))
    = split_log (λ z. log_row c z (l.used + length (closed t)) ≡ log_row c z l.used ++ entries_of c (last_of (span 0 0) z) l.used (length (closed t))) fs some
    (λ f gs. row_more c (span 0 0) f gs l.used (length (closed t))) in
    let row : log_row c fs l.used ≡ flat (map closed ts) = sym (row_local b c h.end fs l.used k.inside a) ∙ k.row ∙ append-nil (flat (map closed ts)) in
    let len = length-append ts (t ∷ []) in
    record {
      part = record {
        chain = subst (λ z. Chain (λ f. span_at c (log_next f)) z fs) (sym r) (chain_local b c h.end h.log fs l.used k.inside a k.chain);
        inside = inside_later h.end h'.end fs e k.inside;
        apart = k.apart;
        few = k.few;
        places = p;
        row = more ∙ ap (λ z. z ++ entries_of c (last_of (span 0 0) fs) l.used (length (closed t))) row ∙ ap (λ z. flat (map closed ts) ++ z) q ∙ sym (closed_push ts t) ∙ sym (append-nil (flat (map closed (ts ++ (t ∷ [])))));
        lists = All-append CountsLists ts (t ∷ []) k.lists (w.lists, tt);
        pending_lists = tt;
        rising = rising_push ts t k.rising w.rising;
      };
      finished = len ∙ omega (arith, g.finished);
      ends = omega (arith, g.ends);
    }

-- its entries go on in a new fragment
pub log_spills : (b c : List ℕ) (h h' : Header) (l : Log) (t fit rest : List Entry) (x : Span) → Logs b h l → LogAgree b c l.fragments l.used → h.end ≤ h'.end → h'.log ≡ h.log → h'.count ≡ h.count + 1
    → Follows l.transactions t → closed t ≡ fit ++ rest → l.used + length fit ≡ entries_in (last_of (span 0 0) l.fragments).size
    → entries_of c (last_of (span 0 0) l.fragments) l.used (length fit) ≡ fit → span_at c (log_next (last_of (span 0 0) l.fragments)) ≡ x
    → entries_of c x 0 (length rest) ≡ rest → 1 ≤ length rest → length rest ≤ entries_in x.size → Inside 12 h'.end x → AllByRecursion (λ f. Apart f x) (header_span ∷ l.fragments) → length l.fragments < 2048
    → Logs c h' (record { fragments = l.fragments ++ (x ∷ []); transactions = l.transactions ++ (t ∷ []); used = length rest })
log_spills b c h h' l t fit rest x g a e r n w s p q y z u v i o m =
    let fs = l.fragments in
    let ts = l.transactions in
    let d : Span = span 0 0 in
    let k = g.part in
    let some = log_some b h l g in
    let full = entries_in (last_of d fs).size in
    let next : log_row c (fs ++ (x ∷ [])) (length rest) ≡ log_row c fs (entries_in (last_of d fs).size) ++ entries_of c x 0 (length rest)
    = split_log (λ w. log_row c (w ++ (x ∷ [])) (length rest) ≡ log_row c w (entries_in (last_of d w).size) ++ entries_of c x 0 (length rest)) fs some (λ f gs. row_next c d f gs x (length rest)) in
    let more : log_row c fs (l.used + length fit) ≡ log_row c fs l.used ++ entries_of c (last_of d fs) l.used (length fit)
    = split_log (λ w. log_row c w (l.used + length fit) ≡ log_row c w l.used ++ entries_of c (last_of d w) l.used (length fit)) fs some (λ f gs. row_more c d f gs l.used (length fit)) in
    let row : log_row c fs l.used ≡ flat (map closed ts) = sym (row_local b c h.end fs l.used k.inside a) ∙ k.row ∙ append-nil (flat (map closed ts)) in
    let upto : log_row c fs (entries_in (last_of d fs).size) ≡ flat (map closed ts) ++ fit
    = ap (λ w. log_row c fs w) (sym p) ∙ more ∙ ap (λ w. w ++ entries_of c (last_of d fs) l.used (length fit)) row ∙ ap (λ w. flat (map closed ts) ++ w) q in
    let whole : log_row c (fs ++ (x ∷ [])) (length rest) ≡ flat (map closed ts) ++ closed t
    = next ∙ ap (λ w. w ++ entries_of c x 0 (length rest)) upto ∙ ap (λ w. (flat (map closed ts) ++ fit) ++ w) z ∙ append_assoc (flat (map closed ts)) fit rest ∙ ap (λ w. flat (map closed ts) ++ w) (sym s) in
    let k1 : Chain (λ f. span_at c (log_next f)) h'.log fs = subst (λ w. Chain (λ f. span_at c (log_next f)) w fs) (sym r) (chain_local b c h.end h.log fs l.used k.inside a k.chain) in
    let k2 : Chain (λ f. span_at c (log_next f)) h'.log (fs ++ (x ∷ []))
    = split_log (λ w. Chain (λ f. span_at c (log_next f)) h'.log w → span_at c (log_next (last_of d w)) ≡ x → Chain (λ f. span_at c (log_next f)) h'.log (w ++ (x ∷ []))) fs some
    (λ f gs ch eq. chain_next c d h'.log f gs x ch eq) k1 y in
    let len = length-append ts (t ∷ []) in
    record {
      part = record {
        chain = k2;
        inside = All-append (Inside 12 h'.end) fs (x ∷ []) (inside_later h.end h'.end fs e k.inside) (i, tt);
        apart = pair_between Apart (header_span ∷ fs) x [] (subst (λ w. Pairwise Apart w) (sym (append-nil (header_span ∷ fs))) k.apart) o tt;
        few = omega (arith, length-append fs (x ∷ []));
        places = subst (λ w. length rest ≤ entries_in w.size) (sym (last_push d fs x)) v;
        row = whole ∙ sym (closed_push ts t) ∙ sym (append-nil (flat (map closed (ts ++ (t ∷ [])))));
        lists = All-append CountsLists ts (t ∷ []) k.lists (w.lists, tt);
        pending_lists = tt;
        rising = rising_push ts t k.rising w.rising;
      };
      finished = len ∙ omega (arith, g.finished);
      ends = u;
    }
