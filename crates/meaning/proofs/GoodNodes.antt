-- A node that is not refused is good, and the other way round.
use Rattle.std.proofs.Common.{◌≡◌, ℕ, false, List, refl, arith}
use Rattle.std.proofs.lemmas.Bool.Decides.{nat_tests}
use Rattle.model.specs.Bytes.{le}
use Rattle.model.specs.Nodes.{Node, node_at, hands_over, bad_node}
use Rattle.model.specs.Means.{Good}

pub passes : (b : List ℕ) (stop p : ℕ) → false ≡ hands_over (le 4 b p) stop p → false ≡ bad_node (le 4 b p) stop p → Good b stop p (node_at b p)
unfolding hands_over bad_node
passes b stop p h g = record {
  fields = refl;
  named = grind (arith, nat_tests);
  no_terminator = grind (arith, nat_tests);
  top = grind (arith, nat_tests);
  base = grind (arith, nat_tests);
  parts = grind (arith, nat_tests);
  ends = grind (arith, nat_tests);
}

pub good_stays : (b : List ℕ) (stop p : ℕ) (n : Node) → Good b stop p n → hands_over (le 4 b p) stop p ≡ false
unfolding hands_over
good_stays b stop p n g = let e : n ≡ node_at b p = g.fields in grind (arith, nat_tests, g.no_terminator, g.parts, g.ends)

pub good_passes : (b : List ℕ) (stop p : ℕ) (n : Node) → Good b stop p n → bad_node (le 4 b p) stop p ≡ false
unfolding bad_node
good_passes b stop p n g = let e : n ≡ node_at b p = g.fields in grind (arith, nat_tests, g.named, g.top, g.base, g.parts, g.ends)
