-- The writes of each kind of add, and that its parts are not too large.
use Rattle.std.proofs.Common.{◌≡◌, ℕ, ◌≤◌, false, List, length, arith, Bor}
use Rattle.std.proofs.lemmas.Bool.Decides.{nat_tests}
use Rattle.model.specs.References.{span}
use Rattle.model.specs.Nodes.{plain_node, referring_node}
use Rattle.model.specs.Layouts.{Tail}
use Rattle.model.specs.Calls.{too_large}
use Rattle.commits.proofs.Sizes.{length_plain, length_referring}
use Rattle.writing.specs.Padded.{padded}
use Rattle.adding.specs.declared.adds.With.{With}
use Rattle.adding.specs.declared.adds.With.TheVariants.{Nothing, Data, List as NewList}
use Rattle.adding.specs.Adds.{add_with}
use Rattle.adding.specs.Writes.{node_writes, add_writes}
use Rattle.adding.specs.Parts.{alone, fragment_at, then_node}

module _ (list id : ℕ) (payload : List ℕ) (w : With) where
  pub plain_writes : (end : ℕ) (t : Tail) (made : ℕ) → w ≡ Nothing → add_writes end t made (add_with list id payload w) ≡ node_writes end t (plain_node id payload)
  unfolding add_writes
  plain_writes end t made e = rw e

  pub data_writes : (end : ℕ) (t : Tail) (made : ℕ) (content : Bor (List ℕ)) → w ≡ Data content
      → add_writes end t made (add_with list id payload w)
      ≡ then_node (padded end content.now) t (referring_node id 1 (span end (length content.now)) payload)
  unfolding add_writes alone
  data_writes end t made content e = rw e

  pub list_writes : (end : ℕ) (t : Tail) (made first : ℕ) (first_payload : Bor (List ℕ)) → w ≡ NewList first first_payload
      → let piece = fragment_at end made 0 (plain_node first first_payload.now) in
      add_writes end t made (add_with list id payload w) ≡ then_node piece t (referring_node id 2 (span end 1024) payload)
  unfolding add_writes alone fragment_at
  list_writes end t made first first_payload e = rw e

  pub plain_fits : w ≡ Nothing → too_large (add_with list id payload w) ≡ false → length (plain_node id payload) ≤ 988
  plain_fits e f = let g = rw e at f in let l = length_plain id payload in grind (arith, nat_tests)

  pub data_fits : (content : Bor (List ℕ)) (start size : ℕ) → w ≡ Data content → too_large (add_with list id payload w) ≡ false → length (referring_node id 1 (span start size) payload) ≤ 988
  data_fits content start size e f = let g = rw e at f in let l = length_referring id 1 (span start size) payload in grind (arith, nat_tests)

  pub content_fits : (content : Bor (List ℕ)) → w ≡ Data content → too_large (add_with list id payload w) ≡ false → length content.now ≤ 65536
  content_fits content e f = let g = rw e at f in grind (arith, nat_tests)

  pub list_fits : (first : ℕ) (first_payload : Bor (List ℕ)) (start size : ℕ) → w ≡ NewList first first_payload → too_large (add_with list id payload w) ≡ false
      → length (referring_node id 2 (span start size) payload) ≤ 988
  list_fits first first_payload start size e f = let g = rw e at f in let l = length_referring id 2 (span start size) payload in grind (arith, nat_tests)

  pub first_fits : (first : ℕ) (first_payload : Bor (List ℕ)) → w ≡ NewList first first_payload → too_large (add_with list id payload w) ≡ false
      → length (plain_node first first_payload.now) ≤ 988
  first_fits first first_payload e f = let g = rw e at f in let l = length_plain first first_payload.now in grind (arith, nat_tests)
