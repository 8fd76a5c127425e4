-- Writes that take a draft's end from one place to another, all of them in the free zone of the file.
use Rattle.std.proofs.Common.{◌≡◌, ℕ, ◌+◌, ◌<◌, ◌≤◌, max, List, [], ◌∷◌, ◌++◌, length, arith}
use Rattle.std.specs.List.{AllByRecursion}
use Rattle.std.proofs.ByRecursion.{All-append}
use Rattle.model.specs.Bytes.{Write, put, behind, Bytes}
use Rattle.model.specs.Section.{Section}
use Rattle.model.specs.Layouts.{Layout}
use Rattle.model.specs.Saving.{at_end}
use Rattle.model.specs.Laws.{past_end, Free, WritesFree, Taken}
use Rattle.lasting.proofs.Rows.{length_after, length_after_append, taken_append}
use Rattle.lasting.proofs.Sizes.{piece_bytes}

pub record Steps (s : Section) (from to : ℕ) (ws : List Write) : Type 0 where
  pub rises : from ≤ to
  pub free : AllByRecursion (WritesFree s) ws
  pub are_bytes : AllByRecursion (λ w. Bytes w.new) ws
  -- a row that reaches the draft's end takes them, if the ceiling is no lower than the row and the new end
  pub taken : (n ceiling : ℕ) → from ≤ n → n ≤ ceiling → to ≤ ceiling → Taken n ceiling ws
  -- and then reaches the new end, and no further
  pub reaches : (n : ℕ) → from ≤ n → length_after n ws ≡ max n to

pub steps_append : {s : Section} {a b c : ℕ} {ws vs : List Write} → Steps s a b ws → Steps s b c vs → Steps s a c (ws ++ vs)
steps_append {s} {a} {b} {c} {ws} {vs} x y =
    let up = x.rises in
    let more = y.rises in
    record {
      rises = omega arith;
      free = All-append (WritesFree s) ws vs x.free y.free;
      are_bytes = All-append (λ w. Bytes w.new) ws vs x.are_bytes y.are_bytes;
      taken = λ n ceiling h k l.
          let r = x.reaches n h in
          taken_append n ceiling ws vs (x.taken n ceiling h k (omega arith)) (y.taken (length_after n ws) ceiling (omega arith) (omega arith) l);
      reaches = λ n h.
          let r = x.reaches n h in
          let q = y.reaches (length_after n ws) (omega arith) in
          let e = length_after_append n ws vs in
          omega arith;
    }

pub steps_none : {s : Section} {a : ℕ} → Steps s a a []
steps_none = record { rises = omega arith; free = tt; are_bytes = tt; taken = λ n ceiling h k l. tt; reaches = λ n h. omega arith }

-- a write at the draft's end
steps_piece : {s : Section} (a : ℕ) (new : List ℕ) → s.header.end ≤ a → Bytes new → Steps s a (a + length new) (put a new ∷ [])
steps_piece a new e bytes = record {
  rises = omega arith;
  free = (λ i l h. past_end (omega arith), tt);
  are_bytes = (bytes, tt);
  taken = λ n ceiling h k l. (h, l, tt);
  reaches = λ n h. omega arith;
}

pub steps_at_end : {s : Section} (y : Layout) (new : List ℕ) → s.header.end ≤ y.end → Bytes new → Steps s y.end (behind (at_end y new)) (at_end y new ∷ [])
steps_at_end y new e bytes = steps_piece y.end (at_end y new).new e (piece_bytes y new bytes)

-- a write before the draft's end
pub steps_within : {s : Section} {a : ℕ} (p : ℕ) (new : List ℕ) → p + length new ≤ a → Bytes new → ((i : ℕ) → p ≤ i → i < p + length new → Free s i) → Steps s a a (put p new ∷ [])
steps_within p new h bytes z = record {
  rises = omega arith;
  free = (z, tt);
  are_bytes = (bytes, tt);
  taken = λ n ceiling k l m. (omega arith, omega arith, tt);
  reaches = λ n k. omega arith;
}
