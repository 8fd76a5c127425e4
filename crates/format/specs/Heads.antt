-- The fields of a node's first four bytes, as the code holds them.
use Rattle.std.specs.Prelude.{ℕ}
use Rattle.model.specs.Nodes.{id_bits, size_bits, stp_bits, cb_bits, base_bits, top_bit}
use Rattle.format.specs.declared.nodes.Head.{Head}

abbrev pub head_of : ℕ → Head
head_of v = record { id = id_bits v; size = size_bits v; stp = stp_bits v; cb = cb_bits v; base = base_bits v; top = top_bit v }
