-- Fragments of one list or of the log, one after the other: the last of them, and those before it.
use Rattle.std.proofs.Common.{◌≤◌, List, [], ◌∷◌, length, refl, subst, inl, inr, arith}
use Rattle.model.specs.declared.types.Span.{Span}
use Rattle.model.specs.Section.{last_of}
use Rattle.model.specs.Means.{Apart, Pairwise}
use Rattle.model.specs.Laws.{but_last, last_fragment}
use Rattle.meaning.proofs.Members.{In, all_in}

in_last : (f : Span) (fs : List Span) → In (last_of f fs) (f ∷ fs)
in_last f [] = inl refl
in_last f (g ∷ gs) = inr (in_last g gs)

pub in_last_fragment : (fs : List Span) → 1 ≤ length fs → In (last_fragment fs) fs
in_last_fragment [] h = absurd (omega arith)
in_last_fragment (f ∷ fs) h = in_last f fs

pub in_but_last : (fs : List Span) (f : Span) → In f (but_last fs) → In f fs
in_but_last [] f i = absurd i
in_but_last (g ∷ []) f i = absurd i
in_but_last (g ∷ (h ∷ hs)) f (inl e) = inl e
in_but_last (g ∷ (h ∷ hs)) f (inr i) = inr (in_but_last (h ∷ hs) f i)

-- those before the last are apart from it
pub last_apart : (fs : List Span) (f : Span) → Pairwise Apart fs → In f (but_last fs) → Apart f (last_fragment fs)
last_apart [] f p i = absurd i
last_apart (g ∷ []) f p i = absurd i
last_apart (g ∷ (h ∷ hs)) f p (inl e) =
    subst (λ (x : Span). Apart x (last_of h hs)) e (all_in (Apart g) (h ∷ hs) (last_of h hs) p.0 (in_last h hs))
last_apart (g ∷ (h ∷ hs)) f p (inr i) = last_apart (h ∷ hs) f p.1 i
