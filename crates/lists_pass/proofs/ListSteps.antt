-- One step of the walk over a list's fragments.
use Rattle.std.proofs.Common.{◌≡◌, ℕ, suc, ◌+◌, ◌-◌, ◌<◌, eqb, leb, List, ◌++◌, length, true, false, ap, ◌∙◌, inl, inr, arith}
use Rattle.std.proofs.lemmas.List.{length-append}
use Rattle.std.proofs.lemmas.Bool.{cases_lt}
use Rattle.std.proofs.lemmas.Bool.Decides.{nat_tests}
use Rattle.model.specs.declared.types.Span.{Span}
use Rattle.model.specs.Faults.{unless}
use Rattle.model.specs.Nodes.{Node}
use Rattle.model.specs.Section.{NodeList}
use Rattle.model.specs.OpenedLists.{list_from}
use Rattle.lists_pass.specs.FragmentChecks.{place_checks, label_checks}
use Rattle.lists_pass.specs.Listings.{rest_of}

-- a later fragment g, behind the k fragments gs of its list: its checks in the code's order, and what is left of the list
pub later : (n : ℕ) (b : List ℕ) (end count : ℕ) (ls : List NodeList) (before : List Span) (id field : ℕ) (g : Span) (gs : List Span) (ns : List Node) (all : List Span) (k : ℕ)
    → 0 < k → k ≡ length gs → all ≡ before ++ gs → n ≡ 2048 - (length before + k)
    → list_from n b end count ls before id field g gs ns ≡ unless (place_checks end all field g id ++ label_checks b g id k id) (rest_of b end count before id ls g gs ns)
unfolding list_from rest_of
later n b end count ls before id field g gs ns all k l j e h =
    let z : eqb (length gs) 0 ≡ false = grind (arith, nat_tests) in
    let size = ap length e ∙ length-append before gs in
    elim (cases_lt (length all) 2048) [
      | inl lt ↦
          let m : n ≡ suc (2048 - (length before + (length gs + 1))) = omega arith in
          let v : leb 2048 (length all) ≡ false = grind (arith, nat_tests) in
          rw (m, z, v, j, e)
      | inr ge ↦
          let m : n ≡ 0 = omega arith in
          let v : leb 2048 (length all) ≡ true = grind (arith, nat_tests) in
          rw (m, z, v)
    ]
