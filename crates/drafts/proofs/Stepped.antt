-- The step that the code makes.
use Rattle.std.proofs.Common.{◌≡◌, ℕ, ◌+◌, ◌-◌, ◌^◌, ◌≤◌, Bool, true, false, not, Option, is_some, refl, arith}
use Rattle.std.proofs.lemmas.Bool.Decides.{nat_tests}
use Rattle.model.specs.Layouts.{Add, plain, with_data, branch}
use Rattle.model.specs.Calls.{too_large}
use Rattle.pieces.specs.declared.piece.Piece.{Piece}
use Rattle.writing.specs.declared.tails.Tail.{Tail}
use Rattle.writing.specs.Tails.{InReach}
use Rattle.drafts.specs.Steps.{one, node_size, first_end, fits, end_behind, moved, spilt, made_tail, first_piece, highest_with, step_of, capped}

-- a node has at most 988 bytes, and what comes before it ends soon after the draft's end
pub short : (a : Add) → too_large a ≡ false → node_size a ≤ 988
short (plain list id payload) e = grind (arith, nat_tests)
short (with_data list id payload content) e = grind (arith, nat_tests)
short (branch list id payload first_id first_payload) e = grind (arith, nat_tests)

pub near : (end : ℕ) (a : Add) → too_large a ≡ false → first_end end a ≤ end + 65544
near end (plain list id payload) e = omega arith
near end (with_data list id payload content) e = grind (arith, nat_tests)
near end (branch list id payload first_id first_payload) e = omega arith

-- the parts of a step, each as its function answers it
pub step_is : (end fragments lists highest : ℕ) (t : Tail) (a : Add) → InReach end t → fragments ≤ 2048 → lists ≤ 1024 → too_large a ≡ false
    → (len : ℕ) → len ≡ node_size a
    → (at : ℕ) → (end ≤ 2 ^ 40 → too_large a ≡ false → at ≡ first_end end a)
    → (id : ℕ) → id ≡ capped (highest + 1)
    → (made : Option Tail) → (end ≤ 2 ^ 40 → too_large a ≡ false → made ≡ made_tail end lists id a)
    → (f : Bool) → ((end : ℕ) → InReach end t → len ≤ 1024 → f ≡ fits t len)
    → (e : ℕ) → ((end : ℕ) → InReach end t → at ≤ 2 ^ 41 - 1024 → len ≤ 1024 → e ≡ end_behind t at len)
    → (m1 : Bool) → m1 ≡ is_some made → (f1 : ℕ) → (fragments ≤ 4096 → f1 ≡ fragments + one m1)
    → (f2 : ℕ) → (f1 ≤ 4096 → f2 ≡ f1 + one (not f))
    → (m2 : Bool) → m2 ≡ is_some made → (ls : ℕ) → (lists ≤ 4096 → ls ≡ lists + one m2)
    → (h : ℕ) → h ≡ highest_with highest made
    → (u : Tail) → ((end : ℕ) → InReach end t → at ≤ 2 ^ 41 → len ≤ 1024 → u ≡ moved t at len (capped (t.count + 1)))
    → (q : Option Piece) → q ≡ first_piece made
    → (r : Option Piece) → ((end : ℕ) → InReach end t → len ≤ 1024 → r ≡ spilt t at len)
    → record { before = t; end = e; fragments = f2; lists = ls; highest = h; tail = u; made = made; made_piece = q; piece = r }
    ≡ step_of end fragments lists highest (capped (highest + 1)) (capped (t.count + 1)) t a
unfolding step_of
step_is end fragments lists highest t a reach few less large len x1 at x2 id x3 made x4 f x5 e x6 m1 n1 f1 g1 f2 g2 m2 n2 ls x8 h x9 u y1 q y2 r y3 =
    let o = near end a large in
    let s = short a large in
    let end' = reach.end' in
    let z2 = x2 end' large in
    let z4 = x4 end' large in
    let small : len ≤ 1024 = omega arith in
    let z5 = x5 end reach small in
    let z6 = x6 end reach (omega arith) small in
    let w1 = y1 end reach (omega arith) small in
    let w3 = y3 end reach small in
    let b1 = at_most_one m1 in
    let v1 = g1 (omega arith) in
    let v2 = g2 (omega arith) in
    let z8 = x8 (omega arith) in
    rw (z6, v2, v1, z8, n1, n2, x9, w1, y2, w3, z5, z4, x3, z2, x1) refl
  where
    at_most_one : (b : Bool) → one b ≤ 1
    at_most_one true = omega arith
    at_most_one false = omega arith
