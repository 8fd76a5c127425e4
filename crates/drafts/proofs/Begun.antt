-- A draft without adds.
use Rattle.std.proofs.Common.{◌≡◌, ℕ, ◌≤◌, true, eqb, List, [], ◌∷◌, map, refl, ap, subst, sym, ◌∙◌, inl, inr, arith}
use Rattle.std.proofs.lemmas.Bool.{cases_Bool}
use Rattle.std.proofs.lemmas.Bool.Decides.{nat_tests}
use Rattle.model.specs.Section.{NodeList, Section}
use Rattle.model.specs.Layouts.{Layout, tail_of, member, greatest, blank}
use Rattle.model.specs.Saving.{laid, layout}
use Rattle.commits.specs.Parts.{parts}
use Rattle.drafts.specs.declared.layout.DraftLayout.{DraftLayout}
use Rattle.drafts.specs.Lays.{Holds, Lays}

pub ids_tails : (ls : List NodeList) → map (λ t. t.id) (map tail_of ls) ≡ map (λ l. l.id) ls
ids_tails [] = refl
ids_tails (l ∷ ls) = ap (λ (ids : List ℕ). l.id ∷ ids) (ids_tails ls)

up_to_greatest : (id : ℕ) (ids : List ℕ) → member id ids ≡ true → id ≤ greatest ids
unfolding greatest
up_to_greatest id [] m = absurd (grind arith)
up_to_greatest id (x ∷ ids) m = elim (cases_Bool (eqb x id)) [
  | inl e ↦ let f : x ≡ id = grind (arith, nat_tests) in omega arith
  | inr e ↦ let ih = up_to_greatest id ids (rw e at m) in omega arith
]

blank_layout : (s : Section) → layout s [] ≡ blank s
unfolding laid
blank_layout s = refl

no_parts : (y : Layout) → parts y [] ≡ []
unfolding parts
no_parts y = refl

pub begun : (s : Section) (d : DraftLayout) → d.end ≡ (blank s).end → d.fragments ≡ (blank s).fragments → d.lists ≡ (blank s).lists → d.highest ≡ (blank s).highest
    → d.touched ≡ [] → d.added ≡ [] → Lays s [] d
begun s d e f l h t a =
    let g : Holds s (blank s) [] d = record {
      end' = e;
      fragments = f;
      lists = l;
      highest = h;
      touched = rw t refl;
      tails = λ id. rw t refl;
      known = λ id. ap (member id) (ids_tails s.lists);
      parts = rw a refl;
      below = λ id m. let n = up_to_greatest id (map (λ l. l.id) s.lists) (sym (ap (member id) (ids_tails s.lists)) ∙ m) in omega arith;
      few = rw a (omega arith);
    } in
    subst (λ y. Holds s y (parts (blank s) []) d) (sym (blank_layout s)) (subst (λ ps. Holds s (blank s) ps d) (sym (no_parts (blank s))) g)
