-- Chains of fragments that grow at their end: the row of a log, the nodes of a list.
use Rattle.std.proofs.Common.{◌≡◌, ℕ, zero, suc, ◌+◌, ◌≤◌, true, List, [], ◌∷◌, ◌++◌, length, sym, refl, ap, ◌∙◌, subst, add-zero, arith}
use Rattle.std.specs.List.{AllByRecursion}
use Rattle.std.proofs.lemmas.List.{append_assoc, append-nil}
use Rattle.std.proofs.ByRecursion.{All-append}
use Rattle.model.specs.declared.types.Span.{Span}
use Rattle.model.specs.declared.types.Entry.{Entry}
use Rattle.model.specs.declared.types.Header.{Header}
use Rattle.model.specs.Bytes.{le}
use Rattle.model.specs.References.{span, span_at}
use Rattle.model.specs.Nodes.{Node, hands_over}
use Rattle.model.specs.ListFragments.{nodes_from, nodes_to}
use Rattle.model.specs.LogFragments.{entry_at, entries_in, entry_place, log_next}
use Rattle.model.specs.Section.{last_of}
use Rattle.model.specs.Means.{Inside, Chain, entries_of, log_row, Rising, Good, Nodes, Spread, within, across, Marked, Numbered, PartOfList}

pub last_all : {A : Type 0} (P : A → Type 0) (d x : A) (xs : List A) → AllByRecursion P (x ∷ xs) → P (last_of d (x ∷ xs))
last_all P d x [] (p, a) = p
last_all P d x (y ∷ ys) (p, a) = last_all P x y ys a

pub last_push : {A : Type 0} (d : A) (xs : List A) (x : A) → last_of d (xs ++ (x ∷ [])) ≡ x
last_push d [] x = refl
last_push d (y ∷ xs) x = last_push y xs x

-- log --------------------------------------------------------------------------------------------------------------

pub entries_more : (b : List ℕ) (f : Span) (i n m : ℕ) → entries_of b f i (n + m) ≡ entries_of b f i n ++ entries_of b f (i + n) m
entries_more b f i zero m =
    let x : 0 + m ≡ m = omega arith in
    let y : i + 0 ≡ i = omega arith in
    rw (x, y)
entries_more b f i (suc n) m =
    let x : suc n + m ≡ suc (n + m) = omega arith in
    let y : i + suc n ≡ i + 1 + n = omega arith in
    rw (x, y) (ap (λ z. entry_at b (entry_place f i) ∷ z) (entries_more b f (i + 1) n m))

pub row_more : (b : List ℕ) (d : Span) (f : Span) (fs : List Span) (used m : ℕ) → log_row b (f ∷ fs) (used + m) ≡ log_row b (f ∷ fs) used ++ entries_of b (last_of d (f ∷ fs)) used m
row_more b d f [] used m = entries_more b f 0 used m ∙ (let x : 0 + used ≡ used = omega arith in rw x)
row_more b d f (g ∷ gs) used m =
    ap (λ z. entries_of b f 0 (entries_in f.size) ++ z) (row_more b f g gs used m)
    ∙ sym (append_assoc (entries_of b f 0 (entries_in f.size)) (log_row b (g ∷ gs) used) (entries_of b (last_of f (g ∷ gs)) used m))

-- the same where the last fragment is told
pub row_push : (b : List ℕ) (fs : List Span) (g : Span) (used m : ℕ) → log_row b (fs ++ (g ∷ [])) (used + m) ≡ log_row b (fs ++ (g ∷ [])) used ++ entries_of b g used m
row_push b [] g used m = row_more b g g [] used m
row_push b (f ∷ fs) g used m =
    row_more b g f (fs ++ (g ∷ [])) used m ∙ ap (λ z. log_row b ((f ∷ fs) ++ (g ∷ [])) used ++ entries_of b z used m) (last_push g (f ∷ fs) g)

pub row_next : (b : List ℕ) (d : Span) (f : Span) (fs : List Span) (x : Span) (used : ℕ) → log_row b ((f ∷ fs) ++ (x ∷ [])) used ≡ log_row b (f ∷ fs) (entries_in (last_of d (f ∷ fs)).size) ++ entries_of b x 0 used
row_next b d f [] x used = refl
row_next b d f (g ∷ gs) x used =
    ap (λ z. entries_of b f 0 (entries_in f.size) ++ z) (row_next b f g gs x used)
    ∙ sym (append_assoc (entries_of b f 0 (entries_in f.size)) (log_row b (g ∷ gs) (entries_in (last_of f (g ∷ gs)).size)) (entries_of b x 0 used))

pub chain_next : (b : List ℕ) (d r : Span) (f : Span) (fs : List Span) (x : Span) → Chain (λ f. span_at b (log_next f)) r (f ∷ fs) → span_at b (log_next (last_of d (f ∷ fs))) ≡ x
    → Chain (λ f. span_at b (log_next f)) r ((f ∷ fs) ++ (x ∷ []))
chain_next b d r f [] x (e, k) q = (e, (sym q, tt))
chain_next b d r f (g ∷ gs) x (e, k) q = (e, chain_next b f (span_at b (log_next f)) g gs x k q)

-- each entry's count is above the last, in a row that goes on
pub rising_row : (before xs ys : List Entry) → Rising before xs → Rising (before ++ xs) ys → Rising before (xs ++ ys)
rising_row before [] ys a c = subst (λ z. Rising z ys) (append-nil before) c
rising_row before (x ∷ xs) ys (p, a) c = (p, rising_row (before ++ (x ∷ [])) xs ys a (subst (λ z. Rising z ys) (sym (append_assoc before (x ∷ []) xs)) c))

-- list -------------------------------------------------------------------------------------------------------------

pub nodes_push : (b : List ℕ) (stop p : ℕ) (ns : List Node) (q : ℕ) (n : Node) → Nodes b stop p ns q → Good b stop q n → Nodes b stop p (ns ++ (n ∷ [])) (q + n.size)
nodes_push b stop p [] q n h g = rw h (g, refl)
nodes_push b stop p (m ∷ ns) q n (x, h) g = (x, nodes_push b stop (p + m.size) ns q n h g)

-- a node behind the last
spread_push : (b : List ℕ) (d : Span) {fs : List Span} {ns : List Node} {q : ℕ} (n : Node) → Spread b fs ns q → Good b (nodes_to (last_of d fs)) q n → Spread b fs (ns ++ (n ∷ [])) (q + n.size)
spread_push b d n (within {f = f} {ns = ns} {q = q} h) g = within (nodes_push b (nodes_to f) (nodes_from f) ns q n h g)
spread_push b d n (across {f = f} ns ms p h o e t u) g =
    across ns (ms ++ (n ∷ [])) p h o e (spread_push b f n t g) (ap (λ z. z ++ (n ∷ [])) u ∙ append_assoc ns ms (n ∷ []))

-- a fragment behind the last, with no node yet
spread_on : (b : List ℕ) (d : Span) {fs : List Span} {ns : List Node} {q : ℕ} (fresh : Span) → Spread b fs ns q → hands_over (le 4 b q) (nodes_to (last_of d fs)) q ≡ true
    → fresh ≡ span_at b (nodes_to (last_of d fs)) → Spread b (fs ++ (fresh ∷ [])) ns (nodes_from fresh)
spread_on b d fresh (within {f = f} {ns = ns} {q = q} h) o e = across ns [] q h o e (within refl) (sym (append-nil ns))
spread_on b d fresh (across {f = f} ns ms p h o e t u) o' e' = across ns ms p h o e (spread_on b f fresh t o' e') u

-- there is a fragment
pub spread_fragment : (b : List ℕ) {fs : List Span} {ns : List Node} {q : ℕ} → Spread b fs ns q → 1 ≤ length fs
spread_fragment b (within h) = omega arith
spread_fragment b (across ns ms p h o e t u) = omega arith

numbered_push : (b : List ℕ) (id i : ℕ) (fs : List Span) (f : Span) → Numbered b id i fs → Marked b id (i + length fs) f → Numbered b id i (fs ++ (f ∷ []))
numbered_push b id i [] f h m = (rw add-zero at m, tt)
numbered_push b id i (g ∷ fs) f (x, h) m = let e : i + suc (length fs) ≡ i + 1 + length fs = omega arith in (x, numbered_push b id (i + 1) fs f h (rw e at m))

-- a list's part with one node more
pub part_push : (b : List ℕ) (h : Header) (id : ℕ) (fs : List Span) (ns : List Node) (q : ℕ) (n : Node) → PartOfList b h id fs ns q → Good b (nodes_to (last_of (span 0 0) fs)) q n
    → PartOfList b h id fs (ns ++ (n ∷ [])) (q + n.size)
part_push b h id fs ns q n p g = record { inside = p.inside; marks = p.marks; real = p.real; spread = spread_push b (span 0 0) n p.spread g }

-- with one fragment more
pub part_on : (b : List ℕ) (h : Header) (id : ℕ) (fs : List Span) (ns : List Node) (q : ℕ) (fresh : Span) → PartOfList b h id fs ns q
    → hands_over (le 4 b q) (nodes_to (last_of (span 0 0) fs)) q ≡ true → fresh ≡ span_at b (nodes_to (last_of (span 0 0) fs))
    → Inside 36 h.end fresh → Marked b id (length fs) fresh → PartOfList b h id (fs ++ (fresh ∷ [])) ns (nodes_from fresh)
part_on b h id fs ns q fresh p o e i m = record {
  inside = All-append (Inside 36 h.end) fs (fresh ∷ []) p.inside (i, tt);
  marks = numbered_push b id 0 fs fresh p.marks (let z : 0 + length fs ≡ length fs = omega arith in rw z m);
  real = p.real;
  spread = spread_on b (span 0 0) fresh p.spread o e;
}

-- with a node in a new fragment
pub part_spill : (b : List ℕ) (h : Header) (id : ℕ) (fs : List Span) (ns : List Node) (q : ℕ) (fresh : Span) (n : Node) → PartOfList b h id fs ns q
    → hands_over (le 4 b q) (nodes_to (last_of (span 0 0) fs)) q ≡ true → fresh ≡ span_at b (nodes_to (last_of (span 0 0) fs)) → Good b (nodes_to fresh) (nodes_from fresh) n
    → Inside 36 h.end fresh → Marked b id (length fs) fresh
    → PartOfList b h id (fs ++ (fresh ∷ [])) (ns ++ (n ∷ [])) (nodes_from fresh + n.size)
part_spill b h id fs ns q fresh n p o e g i m =
    part_push b h id (fs ++ (fresh ∷ [])) ns (nodes_from fresh) n (part_on b h id fs ns q fresh p o e i m)
    (subst (λ f. Good b (nodes_to f) (nodes_from fresh) n) (sym (last_push (span 0 0) fs fresh)) g)
