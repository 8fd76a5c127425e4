-- The changes of numbered transactions: what they say after k of them, and how they grow.
use Rattle.std.proofs.Common.{◌≡◌, ℕ, suc, ◌+◌, ◌-◌, ◌<◌, ◌≤◌, Bool, leb, List, [], ◌∷◌, ◌++◌, length, take, filter, sym, refl, ap, ◌∙◌, inl, inr, append_assoc, append-nil, arith}
use mathlib.Core.List.{map-append}
use Rattle.std.proofs.lemmas.List.Elements.{filter-append}
use Rattle.std.proofs.lemmas.List.{map_push, take-append-le}
use Rattle.std.proofs.lemmas.Bool.{cases_lt, le-leb, lt-leb}
use Rattle.model.specs.declared.types.Entry.{Entry}
use Rattle.model.specs.LogFragments.{entry}
use Rattle.model.specs.Section.{latest, flat, count_in}
use Rattle.counts.specs.declared.changes.Change.{Change}
use Rattle.counts.specs.Noted.{change, entry_of, entries, entries_upto, noted_at, changes_of, numbered}

back_again : (t : ℕ) (es : List Entry) → entries (changes_of t es) ≡ es
back_again t [] = refl
back_again t (e ∷ es) = ap (λ xs. e ∷ xs) (back_again t es)

kept : (t k : ℕ) (es : List Entry) → t ≤ k → entries_upto k (changes_of t es) ≡ es
kept t k [] h = refl
kept t k (e ∷ es) h = let q = le-leb t k h in rw q (ap (λ xs. e ∷ xs) (kept t k es h))

left_out : (t k : ℕ) (es : List Entry) → k < t → entries_upto k (changes_of t es) ≡ []
left_out t k [] h = refl
left_out t k (e ∷ es) h = let q = lt-leb t k h in rw q (left_out t k es h)

split : (t k : ℕ) (es : List Entry) (ts : List (List Entry)) → entries_upto k (numbered t (es ∷ ts)) ≡ entries_upto k (changes_of t es) ++ entries_upto k (numbered (t + 1) ts)
unfolding numbered
split t k es ts =
    let keep : Change → Bool = λ c. leb c.transaction k in
    ap entries (filter-append keep (changes_of t es) (numbered (t + 1) ts)) ∙ map-append entry_of (filter keep (changes_of t es)) (filter keep (numbered (t + 1) ts))

-- the first k of transactions that are numbered from t + 1 on
upto : (k : ℕ) (ts : List (List Entry)) (t : ℕ) → entries_upto k (numbered (t + 1) ts) ≡ flat (take (k - t) ts)
unfolding numbered
upto k [] t = elim (cases_lt t k) [
  | inl l ↦ let q : k - t ≡ suc (k - (t + 1)) = omega arith in rw q
  | inr l ↦ let q : k - t ≡ 0 = omega arith in rw q
]
upto k (es ∷ ts) t =
    let ih = upto k ts (t + 1) in
    elim (cases_lt t k) [
      | inl l ↦
          let q : k - t ≡ suc (k - (t + 1)) = omega arith in
          split (t + 1) k es ts ∙ ap (λ xs. xs ++ entries_upto k (numbered (t + 1 + 1) ts)) (kept (t + 1) k es (omega arith)) ∙ ap (λ xs. es ++ xs) ih
          ∙ sym (ap (λ n. flat (take n (es ∷ ts))) q)
      | inr l ↦
          let q : k - t ≡ 0 = omega arith in
          let p : k - (t + 1) ≡ 0 = omega arith in
          split (t + 1) k es ts ∙ ap (λ xs. xs ++ entries_upto k (numbered (t + 1 + 1) ts)) (left_out (t + 1) k es (omega arith)) ∙ ih
          ∙ ap (λ n. flat (take n ts)) p ∙ sym (ap (λ n. flat (take n (es ∷ ts))) q)
    ]

-- a list's count after k transactions is its last number in the first k of them, whatever a later one gives it so far
pub noted_numbered : (ts : List (List Entry)) (es : List Entry) (k id : ℕ) → k ≤ length ts → noted_at (numbered 1 (ts ++ es ∷ [])) k id ≡ count_in (take k ts) id
noted_numbered ts es k id h =
    let q : k - 0 ≡ k = omega arith in
    ap (latest id 0) (upto k (ts ++ es ∷ []) 0 ∙ ap (λ n. flat (take n (ts ++ es ∷ []))) q ∙ ap flat (take-append-le k ts (es ∷ []) h))

-- all of them
pub entries_numbered : (ts : List (List Entry)) (t : ℕ) → entries (numbered t ts) ≡ flat ts
unfolding numbered
entries_numbered [] t = refl
entries_numbered (es ∷ ts) t = map-append entry_of (changes_of t es) (numbered (t + 1) ts) ∙ ap (λ xs. xs ++ entries (numbered (t + 1) ts)) (back_again t es) ∙ ap (λ xs. es ++ xs) (entries_numbered ts (t + 1))

-- one entry more in the transaction under way
pub numbered_note : (ts : List (List Entry)) (t : ℕ) (es : List Entry) (id n : ℕ)
    → numbered t (ts ++ es ∷ []) ++ change (t + length ts) id n ∷ [] ≡ numbered t (ts ++ (es ++ entry id n ∷ []) ∷ [])
unfolding numbered
numbered_note [] t es id n =
    let q : t + 0 ≡ t = omega arith in
    ap (λ xs. xs ++ change (t + 0) id n ∷ []) (append-nil (changes_of t es)) ∙ ap (λ m. changes_of t es ++ change m id n ∷ []) q
    ∙ sym (map_push (λ e. change t e.source e.number) es (entry id n)) ∙ sym (append-nil (changes_of t (es ++ entry id n ∷ [])))
numbered_note (x ∷ ts) t es id n =
    let q : t + suc (length ts) ≡ t + 1 + length ts = omega arith in
    append_assoc (changes_of t x) _ _ ∙ ap (λ m. changes_of t x ++ (numbered (t + 1) (ts ++ es ∷ []) ++ change m id n ∷ [])) q
    ∙ ap (λ xs. changes_of t x ++ xs) (numbered_note ts (t + 1) es id n)

-- a transaction without entries yet
pub numbered_finish : (ts : List (List Entry)) (t : ℕ) → numbered t (ts ++ [] ∷ []) ≡ numbered t ts
unfolding numbered
numbered_finish [] t = refl
numbered_finish (x ∷ ts) t = ap (λ xs. changes_of t x ++ xs) (numbered_finish ts (t + 1))
