-- Numbers that are read from bytes fit into their widths: so do the list IDs and the counts of an accepted file.
use Rattle.std.proofs.Common.{ℕ, zero, suc, ◌+◌, ◌-◌, ◌^◌, ◌<◌, ◌≤◌, cond, eqb, List, [], ◌∷◌, map, length, get_or, sym, ◌∙◌, subst, inl, inr, pow-suc, arith}
use Rattle.std.specs.List.{AllByRecursion}
use Rattle.std.proofs.lemmas.List.{append-nil}
use Rattle.std.proofs.lemmas.Bool.{cases_Bool}
use Rattle.std.proofs.ByRecursion.{All-append, All-weaker}
use Rattle.model.specs.declared.types.Span.{Span}
use Rattle.model.specs.declared.types.Entry.{Entry}
use Rattle.model.specs.declared.types.Header.{Header}
use Rattle.model.specs.Bytes.{le, Bytes}
use Rattle.model.specs.LogFragments.{sentinel, entries_in, entry_place}
use Rattle.model.specs.Section.{Log, NodeList, Section, flat, latest}
use Rattle.model.specs.Nodes.{Node}
use Rattle.model.specs.Means.{entries_of, log_row, closed, Logs, Numbered, Spread, within, across, Stands, Means}
use Rattle.model.specs.Layouts.{tail_of, greatest, blank}
use Rattle.meaning.proofs.Base.{all_front}
use Rattle.commits.proofs.FragmentBack.{Small}

byte_below : (b : List ℕ) (i : ℕ) → Bytes b → get_or b i 0 < 256
byte_below [] i a = omega arith
byte_below (x ∷ b) zero (p, a) = p
byte_below (x ∷ b) (suc i) (p, a) = byte_below b i a

le_below : (n : ℕ) (b : List ℕ) (p : ℕ) → Bytes b → le n b p < 256 ^ n
unfolding le
le_below zero b p a = omega arith
le_below (suc n) b p a =
    let x = byte_below b p a in
    let y = le_below n b (p + 1) a in
    rw (pow-suc 256 n) (omega arith)

-- the log ----------------------------------------------------------------------------------------------------------------

entries_small : (b : List ℕ) (f : Span) (i n : ℕ) → Bytes b → AllByRecursion Small (entries_of b f i n)
entries_small b f i zero a = tt
entries_small b f i (suc n) a = ((le_below 4 b (entry_place f i) a, le_below 4 b (entry_place f i + 4) a), entries_small b f (i + 1) n a)

row_small : (b : List ℕ) (fs : List Span) (used : ℕ) → Bytes b → AllByRecursion Small (log_row b fs used)
row_small b [] used a = tt
row_small b (f ∷ []) used a = entries_small b f 0 used a
row_small b (f ∷ (g ∷ gs)) used a = All-append Small (entries_of b f 0 (entries_in f.size)) (log_row b (g ∷ gs) used) (entries_small b f 0 (entries_in f.size) a) (row_small b (g ∷ gs) used a)

opened_small : (ts : List (List Entry)) → AllByRecursion Small (flat (map closed ts)) → AllByRecursion Small (flat ts)
opened_small [] a = tt
opened_small (t ∷ ts) a =
    let (x, y) = all_front Small (closed t) (flat (map closed ts)) a in
    All-append Small t (flat ts) (all_front Small t (sentinel t ∷ []) x).0 (opened_small ts y)

pub log_small : (b : List ℕ) (h : Header) (l : Log) → Bytes b → Logs b h l → AllByRecursion Small (flat l.transactions)
log_small b h l a g =
    let e = g.part.row ∙ append-nil (flat (map closed l.transactions)) in
    opened_small l.transactions (subst (λ z. AllByRecursion Small z) e (row_small b l.fragments l.used a))

latest_small : (id n : ℕ) (es : List Entry) → n < 2 ^ 32 → AllByRecursion Small es → latest id n es < 2 ^ 32
unfolding latest
latest_small id n [] h a = h
latest_small id n (e ∷ es) h ((p, q), a) = latest_small id (cond (eqb e.source id) e.number n) es (elim (cases_Bool (eqb e.source id)) [
  | inl x ↦ rw x q
  | inr x ↦ rw x h
]) a

-- the lists --------------------------------------------------------------------------------------------------------------

spread_first : (b c : List ℕ) (id i : ℕ) {fs : List Span} {ns : List Node} {q : ℕ} → Bytes c → Spread b fs ns q → Numbered c id i fs → id < 2 ^ 32
spread_first b c id i a (within {f = f} h) (m, ms) = subst (λ z. z < 2 ^ 32) m.list (le_below 4 c (f.start + 8) a)
spread_first b c id i a (across {f = f} ns ms p h o e t u) (m, k) = subst (λ z. z < 2 ^ 32) m.list (le_below 4 c (f.start + 8) a)

-- the greatest is at most n exactly when each is
pub greatest_each : {A : Type 0} (f : A → ℕ) (n : ℕ) (xs : List A) → greatest (map f xs) ≤ n → AllByRecursion (λ x. f x ≤ n) xs
unfolding greatest
greatest_each f n [] k = tt
greatest_each f n (x ∷ xs) k = (omega arith, greatest_each f n xs (omega arith))

pub greatest_most : {A : Type 0} (f : A → ℕ) (n : ℕ) (xs : List A) → AllByRecursion (λ x. f x ≤ n) xs → greatest (map f xs) ≤ n
unfolding greatest
greatest_most f n [] a = omega arith
greatest_most f n (x ∷ xs) (p, a) = let r = greatest_most f n xs a in omega arith

-- the highest ID known, and each list's count
pub blank_highest : (b : List ℕ) (s : Section) → Bytes b → Means b s → (blank s).highest < 2 ^ 32
blank_highest b s a m =
    let sm = log_small b s.header s.log a m.log in
    let most : ℕ = 2 ^ 32 - 1 in
    let x = greatest_most (λ (e : Entry). e.source) most (flat s.log.transactions) (All-weaker Small (λ e. e.source ≤ most) (λ e q. let i = q.0 in omega arith) (flat s.log.transactions) sm) in
    let y = greatest_most (λ (l : NodeList). l.id) most s.lists
    (All-weaker (Stands b s.header s.log) (λ l. l.id ≤ most) (λ l k. let i = spread_first b b l.id 0 a k.part.spread k.part.marks in omega arith) s.lists m.lists) in
    omega arith

pub blank_counts : (b : List ℕ) (s : Section) → Bytes b → Means b s → AllByRecursion (λ t. t.count < 2 ^ 32) (blank s).tails
blank_counts b s a m =
    let sm = log_small b s.header s.log a m.log in
    each s.lists (All-weaker (Stands b s.header s.log) (λ l. length l.nodes < 2 ^ 32) (λ l k. subst (λ z. z < 2 ^ 32) (sym k.counted) (latest_small l.id 0 (flat s.log.transactions) (omega arith) sm)) s.lists m.lists)
  where
    each : (ls : List NodeList) → AllByRecursion (λ l. length l.nodes < 2 ^ 32) ls → AllByRecursion (λ t. t.count < 2 ^ 32) (map tail_of ls)
    each [] a = tt
    each (l ∷ ls) (p, a) = (p, each ls a)
