-- One node of a list fragment after the other.
use Rattle.std.specs.Prelude.{◌≡◌, ℕ, ◌+◌, Bool, true, false, cond, ◌||◌, List, Some, None, Option, ◌==◌, nat_lt}
use Rattle.model.specs.Bytes.{le}
use Rattle.model.specs.References.{start_width, size_width}
use Rattle.model.specs.Nodes.{node_at, refers, hands_over}
use Rattle.format.specs.declared.nodes.Head.{Head}
use Rattle.format.specs.declared.nodes.NodeHead.{NodeHead}
use Rattle.format.specs.Heads.{head_of}

-- a node's head and reference are read exactly where the fragment's nodes do not end
abbrev pub Before : List ℕ → ℕ → ℕ → Option NodeHead → Type 0
Before b place stop None = hands_over (le 4 b place) stop place ≡ true
Before b place stop (Some n) =
    (hands_over (le 4 b place) stop place ≡ false) × (n.head ≡ head_of (le 4 b place)) × (n.reference ≡ (node_at b place).reference)

-- no node begins at a place with this head: what `bad_node` says of the number in its first bytes
abbrev pub bad_head : Head → ℕ → ℕ → Bool
bad_head h stop p =
    let width = cond (refers h.base) (start_width h.stp + size_width h.cb) 0 in
    (h.id == 0) || h.top == 0 || nat_lt 2 h.base || nat_lt h.size (4 + width) || nat_lt stop (p + h.size)
