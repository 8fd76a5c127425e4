-- Writes that were made, of those that a store takes.
use Rattle.std.specs.Prelude.{ℕ, List, ◌++◌, length}
use Rattle.model.specs.Bytes.{Write}
use Rattle.model.specs.Laws.{Taken}

-- from s to t exactly these writes were made if the store takes them; then it still takes those that are to follow
unfoldable pub Made : {S : Type 0} → (S → List Write → S → Type 0) → (S → List ℕ) → (S → ℕ) → S → S → List Write → Type 0
Made {S} wrote bytes most s t ws = (later : List Write) (last : S) → Taken (length (bytes s)) (most s) (ws ++ later)
    → (wrote t later last → wrote s (ws ++ later) last) × Taken (length (bytes t)) (most t) later
