-- Nodes: a number of four bytes, a reference unless the node refers to nothing, and a payload; as they are read and as they are written.
use Rattle.std.specs.Prelude.{ℕ, ◌+◌, ◌-◌, ◌*◌, ◌/◌, ◌%◌, ◌^◌, Bool, cond, ◌&&◌, ◌||◌, List, [], ◌∷◌, ◌++◌, length, ◌==◌, nat_lt}
use Rattle.model.specs.declared.types.Span.{Span}
use Rattle.model.specs.Bytes.{le, digits, piece}
use Rattle.model.specs.References.{span, present, span_bytes, start_width, size_width, span_in}

pub record Node : Type 0 where
  pub place : ℕ
  pub id : ℕ
  pub size : ℕ
  -- BaseType: 0 refers to nothing, 1 to data, 2 to another list
  pub base : ℕ
  -- the reference; zero where BaseType is 0
  pub reference : Span
  pub payload : List ℕ

-- the fields of a node's first four bytes, as one number
abbrev pub id_bits : ℕ → ℕ
id_bits v = v % 1024

abbrev pub size_bits : ℕ → ℕ
size_bits v = v / 2 ^ 10 % 2 ^ 13

abbrev pub stp_bits : ℕ → ℕ
stp_bits v = v / 2 ^ 23 % 4

abbrev pub cb_bits : ℕ → ℕ
cb_bits v = v / 2 ^ 25 % 4

abbrev pub base_bits : ℕ → ℕ
base_bits v = v / 2 ^ 27 % 16

abbrev pub top_bit : ℕ → ℕ
top_bit v = v / 2 ^ 31

-- a BaseType with a reference
abbrev pub refers : ℕ → Bool
refers base = base == 1 || base == 2

-- how many bytes the reference of a node with these first bytes takes
abbrev pub reference_width : ℕ → ℕ
reference_width v = cond (refers (base_bits v)) (start_width (stp_bits v) + size_width (cb_bits v)) 0

-- the node at p with these first bytes; its reference comes first, then its payload
abbrev pub node_with : ℕ → List ℕ → ℕ → Node
node_with v b p =
    record {
      place = p;
      id = id_bits v;
      size = size_bits v;
      base = base_bits v;
      reference = cond (refers (base_bits v)) (span_in b (p + 4) (stp_bits v) (cb_bits v)) (span 0 0);
      payload = piece b (p + 4 + reference_width v) (size_bits v - (4 + reference_width v));
    }

abbrev pub node_at : List ℕ → ℕ → Node
node_at b p = node_with (le 4 b p) b p

-- a fragment's nodes end at p: under 4 bytes are left before `stop`, or a terminator (the ID 0x0FF) stands there
unfoldable pub hands_over : ℕ → ℕ → ℕ → Bool
hands_over v stop p = nat_lt stop (p + 4) || id_bits v == 0xFF

-- no node begins at p with these first bytes: ID 0, bit 31 clear, BaseType over 2, a size too small for its parts, or an end past `stop`
unfoldable pub bad_node : ℕ → ℕ → ℕ → Bool
bad_node v stop p =
    (id_bits v == 0) || top_bit v == 0 || nat_lt 2 (base_bits v) || nat_lt (size_bits v) (4 + reference_width v) || nat_lt stop (p + size_bits v)

-- a node as it is written; both reference formats are 0
abbrev pub node_head : ℕ → ℕ → ℕ → List ℕ
node_head id size base = digits 4 (id + 2 ^ 10 * size + 2 ^ 27 * base + 2 ^ 31)

abbrev pub plain_node : ℕ → List ℕ → List ℕ
plain_node id payload = node_head id (4 + length payload) 0 ++ payload

abbrev pub referring_node : ℕ → ℕ → Span → List ℕ → List ℕ
referring_node id base r payload = node_head id (16 + length payload) base ++ (span_bytes r ++ payload)

-- the terminator, Size 4
abbrev pub terminator : List ℕ
terminator = digits 4 0x800010FF

-- the nodes of a BaseType that have a present reference
unfoldable pub referring : ℕ → List Node → List Node
referring base [] = []
referring base (n ∷ ns) = cond (n.base == base && present n.reference) (n ∷ referring base ns) (referring base ns)

-- a node's reference stands behind its first four bytes
abbrev pub field_of : Node → ℕ
field_of n = n.place + 4
