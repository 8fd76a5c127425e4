-- A write that a store takes is made, and those that were to follow it are still taken.
use Rattle.std.proofs.Common.{◌≡◌, ℕ, List, ◌∷◌, length, Ok, Err, Result}
use Rattle.model.specs.Bytes.{Write, put}
use Rattle.model.specs.Laws.{Taken}
use Rattle.store.specs.declared.base.StoreFault.{StoreFault}
use Rattle.store.specs.Rows.{Writes}
use Rattle.commits.proofs.Store.{length_written}

pub still_taken : {T : Type 0} (row : List ℕ) (most place : ℕ) (new after : List ℕ) (r : Result T StoreFault) → Writes row most place new after r
    → (later : List Write) → Taken (length row) most (put place new ∷ later) → Taken (length after) most later
still_taken row most place new after (Ok x) (a, b, e) later t = rw (e, length_written row place new a) t.2
still_taken row most place new after (Err e) (never, b, c) later t = absurd (never t.0 t.1)
