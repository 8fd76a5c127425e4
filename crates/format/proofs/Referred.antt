-- A node's reference, read from the bytes behind its head.
use Rattle.std.proofs.Common.{◌≡◌, ℕ, ◌+◌, ◌*◌, ◌≤◌, Bool, true, false, cond, List, length, get_or, drop, Some, None, Option, MatchOption, sym, ap, ◌∙◌, ap₂, add_assoc, zero-add, arith}
use Rattle.std.proofs.lemmas.List.{length-drop, get_or-drop}
use Rattle.std.proofs.lemmas.Bool.Decides.{nat_tests}
use Rattle.model.specs.Bytes.{le}
use Rattle.model.specs.References.{span, by_format, start_width, size_width, unit, span_in}
use Rattle.model.specs.Nodes.{refers, base_bits, stp_bits, cb_bits, node_at}
use Rattle.format.specs.declared.nodes.Head.{Head}
use Rattle.model.specs.declared.types.Span.{Span}
use Rattle.format.specs.declared.nodes.Target.{Target}
use Rattle.format.specs.Targets.{target_of}
use Rattle.format.specs.Heads.{head_of}
use Rattle.format.specs.Windows.{Window}
use Rattle.format.specs.Pairs.{reference_of}
use Rattle.format.proofs.Fetched.{le_front, le_window}

start_few : (stp : ℕ) → start_width stp ≤ 8
unfolding by_format
start_few stp = grind (arith, nat_tests)

size_few : (cb : ℕ) → size_width cb ≤ 8
unfolding by_format
size_few cb = grind (arith, nat_tests)

-- a window without its first bytes is a window further on
pub window_on : (row buffer : List ℕ) (p k : ℕ) → Window row p buffer → Window row (p + k) (drop k buffer)
window_on row buffer p k w i h =
    let l = length-drop k buffer in
    get_or-drop k buffer i 0 ∙ w (k + i) (omega arith) ∙ ap (λ j. get_or row j 0) (sym (add_assoc p k i))

-- a reference in a window of 16 bytes is that of the row
pub span_window : (row buffer : List ℕ) (p stp cb : ℕ) → Window row p buffer → 16 ≤ length buffer → span_in buffer 0 stp cb ≡ span_in row p stp cb
span_window row buffer p stp cb w h =
    let a = start_few stp in
    let b = size_few cb in
    ap₂ span
    (ap (λ n. unit stp * n) (le_front (start_width stp) row buffer p w (omega arith)))
    (ap (λ n. unit cb * n) (ap (le (size_width cb) buffer) (zero-add (start_width stp)) ∙ le_window (size_width cb) row buffer p (start_width stp) w (omega arith)))

-- of 16 bytes each reference can be read
never_none : (bytes : List ℕ) (stp cb : ℕ) → 16 ≤ length bytes → None ≡ reference_of bytes stp cb → ⊥
never_none bytes stp cb h e =
    let a = start_few stp in
    let b = size_few cb in
    let z : ◌≡◌ {A = ℕ} 0 1 = grind (arith, nat_tests) in
    omega arith

some_is : (bytes : List ℕ) (stp cb s n : ℕ) → 16 ≤ length bytes → Some (s, n) ≡ reference_of bytes stp cb → span s n ≡ span_in bytes 0 stp cb
some_is bytes stp cb s n h e =
    let a = start_few stp in
    let b = size_few cb in
    let z = zero-add (start_width stp) in
    grind (arith, nat_tests)

refers_not : (base : ℕ) → None ≡ target_of base → false ≡ refers base
refers_not base e = grind (arith, nat_tests)

refers_so : (base : ℕ) (t : Target) → Some t ≡ target_of base → true ≡ refers base
refers_so base t e = grind (arith, nat_tests)

-- what is read where there is a target is the reference, and else it is zero
pub reference_read : (bytes : List ℕ) (stp cb base : ℕ) (t : Option Target) (o : Option (ℕ × ℕ)) (r : Span) → 16 ≤ length bytes → t ≡ target_of base
    → MatchOption t (o ≡ None) (λ x. o ≡ reference_of bytes stp cb) → MatchOption o (r ≡ span 0 0) (λ x. r ≡ span x.0 x.1)
    → r ≡ cond (refers base) (span_in bytes 0 stp cb) (span 0 0)
reference_read bytes stp cb base None None r l e f g = g ∙ ap (λ (q : Bool). cond q (span_in bytes 0 stp cb) (span 0 0)) (refers_not base e)
reference_read bytes stp cb base None (Some x) r l e f g = cc
reference_read bytes stp cb base (Some t) None r l e f g = absurd (never_none bytes stp cb l f)
reference_read bytes stp cb base (Some t) (Some (s, n)) r l e f g =
    g ∙ some_is bytes stp cb s n l f ∙ ap (λ (q : Bool). cond q (span_in bytes 0 stp cb) (span 0 0)) (refers_so base t e)

-- the head in the first bytes of a window
pub head_window : (row buffer : List ℕ) (p : ℕ) → Window row p buffer → 4 ≤ length buffer → head_of (le 4 buffer 0) ≡ head_of (le 4 row p)
head_window row buffer p w h = ap head_of (le_front 4 row buffer p w h)

-- the reference behind that head is the node's
pub node_window : (row buffer rest : List ℕ) (p : ℕ) (h : Head) → Window row p buffer → 20 ≤ length buffer → h ≡ head_of (le 4 row p) → rest ≡ drop 4 buffer
    → cond (refers h.base) (span_in rest 0 h.stp h.cb) (span 0 0) ≡ (node_at row p).reference
node_window row buffer rest p h w l e f =
    let n : 16 ≤ length rest = omega (arith, ap length f, length-drop 4 buffer) in
    let v : Window row (p + 4) rest = rw (sym f) at (window_on row buffer p 4 w) in
    ap (λ k. cond (refers k.base) (span_in rest 0 k.stp k.cb) (span 0 0)) e
    ∙ ap (λ s. cond (refers (base_bits (le 4 row p))) s (span 0 0)) (span_window row rest (p + 4) (stp_bits (le 4 row p)) (cb_bits (le 4 row p)) v n)
