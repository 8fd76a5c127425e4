-- The forms of the numbers in a node's reference, and what is read in them.
use Rattle.std.proofs.Common.{◌≡◌, ℕ, zero, suc, ◌+◌, ◌*◌, ◌<◌, ◌≤◌, min, List, [], ◌∷◌, length, take, drop, Some, None, slice_index_or, slice_range, ap, ap₂, ◌∙◌, arith}
use Rattle.std.proofs.lemmas.Bool.Decides.{nat_tests}
use Rattle.std.proofs.lemmas.List.{places}
use Rattle.model.specs.Bytes.{le}
use Rattle.model.specs.References.{by_format, start_width, size_width, unit}
use Rattle.format.specs.declared.forms.Form.{Form}
use Rattle.format.specs.Forms.{IsFormOf}
use Rattle.format.specs.Pairs.{reference_of}
use Rattle.format.proofs.Fetched.{le_moved}

past_two : (n x y z w : ℕ) → 3 ≤ n → w ≡ by_format n x y z w
unfolding by_format
past_two n x y z w h = grind (arith, nat_tests)

-- what one of four forms says, by the format
said_by : (g : Form → ℕ) (n : ℕ) (a b c d f : Form) → IsFormOf (a ∷ (b ∷ (c ∷ (d ∷ [])))) n f → g f ≡ by_format n (g a) (g b) (g c) (g d)
unfolding by_format
said_by g zero a b c d f h = ap g h
said_by g (suc zero) a b c d f h = ap g h
said_by g (suc (suc zero)) a b c d f h = ap g h
said_by g (suc (suc (suc n))) a b c d f h =
    let e : min (suc (suc (suc n))) 3 ≡ 3 = omega arith in
    ap g (h ∙ ap (λ i. slice_index_or (a ∷ (b ∷ (c ∷ (d ∷ [])))) i f) e) ∙ past_two (suc (suc (suc n))) (g a) (g b) (g c) (g d) (omega arith)

pub said_width : (n : ℕ) (a b c d f : Form) → IsFormOf (a ∷ (b ∷ (c ∷ (d ∷ [])))) n f → f.width ≡ by_format n a.width b.width c.width d.width
said_width n a b c d f h = said_by (λ (x : Form). x.width) n a b c d f h

pub said_unit : (n : ℕ) (a b c d f : Form) → IsFormOf (a ∷ (b ∷ (c ∷ (d ∷ [])))) n f → f.unit ≡ by_format n a.unit b.unit c.unit d.unit
said_unit n a b c d f h = said_by (λ (x : Form). x.unit) n a b c d f h

-- what is read in the forms of a start and a size
pub too_few : (bytes : List ℕ) (stp cb s z : ℕ) → s ≡ start_width stp → z ≡ size_width cb → length bytes < s + z → None ≡ reference_of bytes stp cb
too_few bytes stp cb s z e f h = grind (arith, nat_tests)

enough : (bytes : List ℕ) (stp cb s z : ℕ) → s ≡ start_width stp → z ≡ size_width cb → s + z ≤ length bytes
    → Some (unit stp * le s bytes 0, unit cb * le z bytes s) ≡ reference_of bytes stp cb
enough bytes stp cb s z e f h = grind (arith, nat_tests)

-- the two numbers of a reference, each read in its own bytes
pub pair_read : (bytes both first second : List ℕ) (stp cb x y : ℕ) (s z : Form) → s.width ≡ start_width stp → s.unit ≡ unit stp → z.width ≡ size_width cb → z.unit ≡ unit cb
    → s.width + z.width ≤ length bytes → both ≡ slice_range bytes 0 (s.width + z.width) → first ≡ take s.width both → second ≡ drop s.width both
    → x ≡ s.unit * le s.width first 0 → y ≡ z.unit * le z.width second 0 → Some (x, y) ≡ reference_of bytes stp cb
pair_read bytes both first second stp cb x y s z e t f u h b v w p q =
    let m = le_moved s.width first bytes 0 0 (λ i l. grind (arith, places)) in
    let n = le_moved z.width second bytes 0 s.width (λ i l. grind (arith, places)) in
    ap₂ (λ k l. Some (k, l)) (p ∙ ap₂ ◌*◌ t m) (q ∙ ap₂ ◌*◌ u n) ∙ enough bytes stp cb s.width z.width e f h
