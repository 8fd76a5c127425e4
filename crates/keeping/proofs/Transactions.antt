-- The counts of one transaction more.
use Rattle.std.proofs.Common.{◌≡◌, ℕ, suc, ◌+◌, ◌≤◌, Bool, true, false, cond, List, [], ◌∷◌, ◌++◌, length, take, refl, ap, ◌∙◌, sym, arith}
use Rattle.std.proofs.lemmas.List.{take-append-le, append_assoc, append-nil, take_all, length-append}
use Rattle.model.specs.declared.types.Entry.{Entry}
use Rattle.counts.specs.declared.changes.Change.{Change}
use Rattle.counts.specs.Noted.{changes_of, numbered}

numbered_push : (ts : List (List Entry)) (t : ℕ) (es : List Entry) → numbered t (ts ++ (es ∷ [])) ≡ numbered t ts ++ changes_of (t + length ts) es
unfolding numbered
numbered_push [] t es = let q : t + 0 ≡ t = omega arith in append-nil (changes_of t es) ∙ ap (λ n. changes_of n es) (sym q)
numbered_push (x ∷ ts) t es =
    let q : t + 1 + length ts ≡ t + suc (length ts) = omega arith in
    ap (λ cs. changes_of t x ++ cs) (numbered_push ts (t + 1) es ∙ ap (λ n. numbered (t + 1) ts ++ changes_of n es) q)
    ∙ sym (append_assoc (changes_of t x) (numbered (t + 1) ts) (changes_of (t + suc (length ts)) es))

-- the changes are those of the first `finished` of these transactions
abbrev pub NotesFirst : List (List Entry) → List Change → ℕ → Type 0
NotesFirst ts cs finished = (cs ≡ numbered 1 (take finished ts)) × (finished ≤ length ts)

-- one transaction more, which is noted or not
pub notes_on : (ts : List (List Entry)) (es : List Entry) (cs : List Change) (finished : ℕ) (b : Bool) → (b ≡ true → finished ≡ length ts) → NotesFirst ts cs finished
    → NotesFirst (ts ++ (es ∷ [])) (cond b (cs ++ changes_of (finished + 1) es) cs) (cond b (finished + 1) finished)
notes_on ts es cs finished true f (is, within) =
    let all = f refl in
    let more = length-append ts (es ∷ []) in
    let whole : take finished ts ≡ ts = take_all finished ts (omega arith) in
    let whole' : take (finished + 1) (ts ++ (es ∷ [])) ≡ ts ++ (es ∷ []) = take_all (finished + 1) (ts ++ (es ∷ [])) (omega arith) in
    let next : finished + 1 ≡ 1 + length ts = omega arith in (
      ap (λ z. z ++ changes_of (finished + 1) es) (is ∙ ap (numbered 1) whole) ∙ ap (λ n. numbered 1 ts ++ changes_of n es) next ∙ sym (ap (numbered 1) whole' ∙ numbered_push ts 1 es),
      omega arith,
    )
notes_on ts es cs finished false f (is, within) =
    let more = length-append ts (es ∷ []) in (is ∙ ap (numbered 1) (sym (take-append-le finished ts (es ∷ []) within)), omega arith)
