-- Writes in one fragment and behind the end: what stays of a row.
use Rattle.std.proofs.Common.{ℕ, ◌+◌, ◌≤◌, List, length, sym, refl, ◌∙◌, inl, inr, arith}
use Rattle.std.proofs.lemmas.Bool.{cases_lt}
use Rattle.std.specs.List.{AllByRecursion}
use Rattle.std.proofs.ByRecursion.{All-weaker}
use Rattle.model.specs.declared.types.Span.{Span}
use Rattle.model.specs.Bytes.{written, Same}
use Rattle.model.specs.References.{end_of}
use Rattle.model.specs.Means.{Apart}
use Rattle.commits.specs.Around.{Around}
use Rattle.commits.proofs.Store.{length_written, written_below, written_above, same_written}

-- the bytes of a range are the same
abbrev pub Kept : List ℕ → List ℕ → Span → Type 0
Kept b c f = Same b c f.start (end_of f)

pub around_none : (b : List ℕ) (end : ℕ) (g : Span) (lo front back : ℕ) → g.start + front ≤ lo → end ≤ length b → Around b b end g lo front back
around_none b end g lo front back h k = record { kept = λ i x y. refl; from = h; before = k; after = k }

-- a write in the room
pub around_in : (b c : List ℕ) (end : ℕ) (g : Span) (lo front back p : ℕ) (new : List ℕ) → lo ≤ p → p + length new + back ≤ end_of g → end_of g ≤ end → Around b c end g lo front back
    → Around b (written c p new) end g lo front back
around_in b c end g lo front back p new h k e o =
    let a = o.after in
    record {
      kept = λ i x y. o.kept i x y ∙ sym (elim y [
        | inl z ↦ written_below c p new i (omega arith) (omega arith)
        | inr z ↦ written_above c p new i (omega arith) (omega arith)
      ]);
      from = o.from;
      before = o.before;
      after = omega (arith, length_written c p new (omega arith));
    }

-- a write behind the end
pub around_past : (b c : List ℕ) (end : ℕ) (g : Span) (lo front back p : ℕ) (new : List ℕ) → end ≤ p → p ≤ length c → Around b c end g lo front back → Around b (written c p new) end g lo front back
around_past b c end g lo front back p new h k o = record {
  kept = λ i x y. o.kept i x y ∙ sym (written_below c p new i k (omega arith));
  from = o.from;
  before = o.before;
  after = omega (arith, o.after, length_written c p new k);
}

-- a range that is apart from the fragment
pub other_same : (b c : List ℕ) (end : ℕ) (g : Span) (lo front back : ℕ) → Around b c end g lo front back → (f : Span) → Apart g f → end_of f ≤ end → Kept b c f
other_same b c end g lo front back o f a h i l k = elim (cases_lt i lo) [
  | inl x ↦ o.kept i (omega arith) (inl x)
  | inr x ↦ elim (cases_lt (i + back) (end_of g)) [
    | inl y ↦ absurd (a i (omega (arith, o.from), omega arith) (l, k))
    | inr y ↦ o.kept i (omega arith) (inr y)
  ]
]

-- what ends before a write
pub past_kept : (b : List ℕ) (p : ℕ) (new : List ℕ) (fs : List Span) → p ≤ length b → AllByRecursion (λ f. end_of f ≤ p) fs → AllByRecursion (Kept b (written b p new)) fs
past_kept b p new fs h a = All-weaker (λ f. end_of f ≤ p) (Kept b (written b p new)) (λ f x. same_written b p new f.start (end_of f) h (inl x)) fs a
