-- A node's writes: behind its list's last, or in a new fragment.
use Rattle.std.proofs.Common.{◌≡◌, ℕ, ◌+◌, ◌<◌, ◌≤◌, true, false, leb, List, [], ◌∷◌, length, refl, arith}
use Rattle.std.proofs.lemmas.Bool.Decides.{nat_tests}
use Rattle.model.specs.Bytes.{put}
use Rattle.model.specs.References.{span, span_bytes}
use Rattle.model.specs.ListFragments.{nodes_to}
use Rattle.model.specs.Layouts.{Tail}
use Rattle.adding.specs.Writes.{node_writes}
use Rattle.adding.specs.Parts.{alone, fragment_at, ended, named, spilled}

pub node_fits : (end : ℕ) (t : Tail) (new : List ℕ) → t.free + length new ≤ nodes_to t.fragment → node_writes end t new ≡ put t.free new ∷ []
unfolding node_writes
node_fits end t new h = let e : leb (t.free + length new) (nodes_to t.fragment) ≡ true = grind (arith, nat_tests) in rw e

pub node_spills : (end : ℕ) (t : Tail) (new : List ℕ) → nodes_to t.fragment < t.free + length new → node_writes end t new ≡ spilled end t (t.number + 1) new
unfolding node_writes alone fragment_at ended named
node_spills end t new h = let e : leb (t.free + length new) (nodes_to t.fragment) ≡ false = grind (arith, nat_tests) in rw e

pub named_put : (end : ℕ) (t : Tail) → named end t ≡ put (nodes_to t.fragment) (span_bytes (span end 1024)) ∷ []
unfolding named
named_put end t = refl
