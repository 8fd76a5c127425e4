-- A node that was written reads back as that node, and is good.
use Rattle.std.proofs.Common.{◌≡◌, ℕ, ◌+◌, ◌-◌, ◌*◌, ◌^◌, ◌<◌, ◌≤◌, true, cond, ◌≢◌, List, ◌++◌, length, sym, ap, ◌∙◌, arith}
use Rattle.std.proofs.lemmas.Bool.Decides.{nat_tests}
use Rattle.model.specs.declared.types.Span.{Span}
use Rattle.model.specs.Bytes.{le, digits, piece}
use Rattle.model.specs.References.{span, span_at, span_bytes, by_format, span_in}
use Rattle.model.specs.Nodes.{Node, id_bits, size_bits, stp_bits, cb_bits, base_bits, top_bit, refers, reference_width, node_at, hands_over, node_head, plain_node, referring_node, terminator}
use Rattle.model.specs.Means.{Good}
use Rattle.commits.specs.Stored.{Stored}
use Rattle.commits.proofs.Sizes.{length_digits, length_span_bytes}
use Rattle.commits.proofs.Store.{four_stored, stored_front, stored_next, span_stored, piece_stored}

-- the first four bytes of a node ----------------------------------------------------------------------------------------

abbrev pub head_number : ℕ → ℕ → ℕ → ℕ
head_number id size base = id + 2 ^ 10 * size + 2 ^ 27 * base + 2 ^ 31

head_small : (id size base : ℕ) → id < 1024 → size < 8192 → base ≤ 2 → head_number id size base < 2 ^ 32
head_small id size base h k l = omega arith

head_id : (id size base : ℕ) → id < 1024 → size < 8192 → base ≤ 2 → id_bits (head_number id size base) ≡ id
head_id id size base h k l = omega arith

head_size : (id size base : ℕ) → id < 1024 → size < 8192 → base ≤ 2 → size_bits (head_number id size base) ≡ size
head_size id size base h k l = omega arith

head_stp : (id size base : ℕ) → id < 1024 → size < 8192 → base ≤ 2 → stp_bits (head_number id size base) ≡ 0
head_stp id size base h k l = omega arith

head_cb : (id size base : ℕ) → id < 1024 → size < 8192 → base ≤ 2 → cb_bits (head_number id size base) ≡ 0
head_cb id size base h k l = omega arith

head_base : (id size base : ℕ) → id < 1024 → size < 8192 → base ≤ 2 → base_bits (head_number id size base) ≡ base
head_base id size base h k l = omega arith

head_top : (id size base : ℕ) → id < 1024 → size < 8192 → base ≤ 2 → top_bit (head_number id size base) ≡ 1
head_top id size base h k l = omega arith

-- an ID that an add takes
abbrev pub Fair : ℕ → Type 0
Fair id = (1 ≤ id) × (id ≢ 0xFF) × (id < 1024)

-- a node that refers to nothing -------------------------------------------------------------------------------------------

abbrev pub plain_of : ℕ → ℕ → List ℕ → Node
plain_of p id payload = record { place = p; id = id; size = 4 + length payload; base = 0; reference = span 0 0; payload = payload }

abbrev pub referring_of : ℕ → ℕ → ℕ → Span → List ℕ → Node
referring_of p id base r payload = record { place = p; id = id; size = 16 + length payload; base = base; reference = r; payload = payload }

head_stored : (b : List ℕ) (p id size base : ℕ) (rest : List ℕ) → id < 1024 → size < 8192 → base ≤ 2 → Stored b p (node_head id size base ++ rest)
    → (le 4 b p ≡ head_number id size base) × Stored b (p + 4) rest
head_stored b p id size base rest h k l o = (
  four_stored b p (head_number id size base) (head_small id size base h k l) (stored_front b p (digits 4 (head_number id size base)) rest o),
  stored_next 4 b p (digits 4 (head_number id size base)) rest (length_digits 4 (head_number id size base)) o,
)

pub plain_reads : (b : List ℕ) (p id : ℕ) (payload : List ℕ) → id < 1024 → 4 + length payload ≤ 988 → Stored b p (plain_node id payload)
    → node_at b p ≡ plain_of p id payload
plain_reads b p id payload h k o =
    let size = 4 + length payload in
    let (e, rest) = head_stored b p id size 0 payload h (omega arith) (omega arith) o in
    let i : id_bits (le 4 b p) ≡ id = ap id_bits e ∙ head_id id size 0 h (omega arith) (omega arith) in
    let z : size_bits (le 4 b p) ≡ size = ap size_bits e ∙ head_size id size 0 h (omega arith) (omega arith) in
    let a : base_bits (le 4 b p) ≡ 0 = ap base_bits e ∙ head_base id size 0 h (omega arith) (omega arith) in
    let x : p + 4 + 0 ≡ p + 4 = omega arith in
    let y : 4 + length payload - (4 + 0) ≡ length payload = omega arith in
    let c : piece b (p + 4 + 0) (4 + length payload - (4 + 0)) ≡ payload = rw (x, y) (piece_stored b (p + 4) payload rest) in
    rw (i, z, a, c)

pub plain_good : (b : List ℕ) (stop p id : ℕ) (payload : List ℕ) → Fair id → 4 + length payload ≤ 988 → p + (4 + length payload) ≤ stop → Stored b p (plain_node id payload)
    → Good b stop p (plain_of p id payload)
plain_good b stop p id payload (f, g, h) k l o =
    let size = 4 + length payload in
    let (e, rest) = head_stored b p id size 0 payload h (omega arith) (omega arith) o in
    let a : base_bits (le 4 b p) ≡ 0 = ap base_bits e ∙ head_base id size 0 h (omega arith) (omega arith) in
    let t : top_bit (le 4 b p) ≡ 1 = ap top_bit e ∙ head_top id size 0 h (omega arith) (omega arith) in
    record {
      fields = sym (plain_reads b p id payload h k o);
      named = f;
      no_terminator = g;
      top = omega arith;
      base = omega arith;
      parts = rw a (omega arith);
      ends = l;
    }

-- a node that refers to data or to a list -----------------------------------------------------------------------------------

-- its parts: both formats are 0
referring_parts : (b : List ℕ) (p id base : ℕ) (r : Span) (payload : List ℕ) → id < 1024 → (1 ≤ base) → base ≤ 2 → 16 + length payload ≤ 988 → r.start < 2 ^ 64 → r.size < 2 ^ 32
    → Stored b p (referring_node id base r payload)
    → (refers (base_bits (le 4 b p)) ≡ true) × (reference_width (le 4 b p) ≡ 12) × (span_in b (p + 4) (stp_bits (le 4 b p)) (cb_bits (le 4 b p)) ≡ r)
    × (piece b (p + 16) (length payload) ≡ payload)
unfolding by_format
referring_parts b p id base r payload h j l k u w o =
    let size = 16 + length payload in
    let (e, rest) = head_stored b p id size base (span_bytes r ++ payload) h (omega arith) l o in
    let a : base_bits (le 4 b p) ≡ base = ap base_bits e ∙ head_base id size base h (omega arith) l in
    let s : stp_bits (le 4 b p) ≡ 0 = ap stp_bits e ∙ head_stp id size base h (omega arith) l in
    let c : cb_bits (le 4 b p) ≡ 0 = ap cb_bits e ∙ head_cb id size base h (omega arith) l in
    let t : refers (base_bits (le 4 b p)) ≡ true = rw a (grind (arith, nat_tests)) in
    let m : span_at b (p + 4) ≡ r = span_stored b (p + 4) r u w (stored_front b (p + 4) (span_bytes r) payload rest) in
    let q : Stored b (p + 4 + 12) payload = stored_next 12 b (p + 4) (span_bytes r) payload (length_span_bytes r) rest in
    let x : p + 4 + 12 ≡ p + 16 = omega arith in
    let m0 : 1 * le 8 b (p + 4) ≡ r.start = let z : le 8 b (p + 4) ≡ r.start = ap (λ (y : Span). y.start) m in omega arith in
    let m1 : 1 * le 4 b (p + 4 + 8) ≡ r.size = let z : le 4 b (p + 4 + 8) ≡ r.size = ap (λ (y : Span). y.size) m in omega arith in
    (t, rw (t, s, c), rw (s, c, m0, m1), piece_stored b (p + 16) payload (rw x at q))

pub referring_reads : (b : List ℕ) (p id base : ℕ) (r : Span) (payload : List ℕ) → id < 1024 → (1 ≤ base) → base ≤ 2 → 16 + length payload ≤ 988 → r.start < 2 ^ 64 → r.size < 2 ^ 32
    → Stored b p (referring_node id base r payload) → node_at b p ≡ referring_of p id base r payload
referring_reads b p id base r payload h j l k u w o =
    let size = 16 + length payload in
    let (e, rest) = head_stored b p id size base (span_bytes r ++ payload) h (omega arith) l o in
    let (t, x, y, z) = referring_parts b p id base r payload h j l k u w o in
    let i : id_bits (le 4 b p) ≡ id = ap id_bits e ∙ head_id id size base h (omega arith) l in
    let n : size_bits (le 4 b p) ≡ size = ap size_bits e ∙ head_size id size base h (omega arith) l in
    let a : base_bits (le 4 b p) ≡ base = ap base_bits e ∙ head_base id size base h (omega arith) l in
    let c : cond (refers (base_bits (le 4 b p))) (span_in b (p + 4) (stp_bits (le 4 b p)) (cb_bits (le 4 b p))) (span 0 0) ≡ r = rw t y in
    let q : p + 4 + 12 ≡ p + 16 = omega arith in
    let d : 16 + length payload - (4 + 12) ≡ length payload = omega arith in
    let v : piece b (p + 4 + reference_width (le 4 b p)) (size_bits (le 4 b p) - (4 + reference_width (le 4 b p))) ≡ payload = rw (x, n, q, d) z in
    rw (v, c, i, n, a)

pub referring_good : (b : List ℕ) (stop p id base : ℕ) (r : Span) (payload : List ℕ) → Fair id → (1 ≤ base) → base ≤ 2 → 16 + length payload ≤ 988 → r.start < 2 ^ 64 → r.size < 2 ^ 32
    → p + (16 + length payload) ≤ stop → Stored b p (referring_node id base r payload) → Good b stop p (referring_of p id base r payload)
referring_good b stop p id base r payload (f, g, h) j l k u w n o =
    let size = 16 + length payload in
    let (e, rest) = head_stored b p id size base (span_bytes r ++ payload) h (omega arith) l o in
    let (t, x, y, z) = referring_parts b p id base r payload h j l k u w o in
    let a : top_bit (le 4 b p) ≡ 1 = ap top_bit e ∙ head_top id size base h (omega arith) l in
    record {
      fields = sym (referring_reads b p id base r payload h j l k u w o);
      named = f;
      no_terminator = g;
      top = omega arith;
      base = l;
      parts = rw x (omega arith);
      ends = n;
    }

-- hand-overs ---------------------------------------------------------------------------------------------------------

pub terminator_hands : (b : List ℕ) (stop p : ℕ) → Stored b p terminator → hands_over (le 4 b p) stop p ≡ true
unfolding hands_over
terminator_hands b stop p o =
    let e : le 4 b p ≡ 0x800010FF = four_stored b p 0x800010FF (omega arith) o in
    rw e (grind (arith, nat_tests))

pub narrow_hands : (v stop p : ℕ) → stop < p + 4 → hands_over v stop p ≡ true
unfolding hands_over
narrow_hands v stop p h = grind (arith, nat_tests)
