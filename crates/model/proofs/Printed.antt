-- The words that refusals are printed with.
use Rattle.std.proofs.Common.{◌≡◌, ℕ, ◌≤◌, codes, sym}
use Rattle.std.proofs.lemmas.List.{get_or_past}
use Rattle.model.specs.Words.{words, word_of}

-- past them it is room's
pub word_past : (n : ℕ) → 30 ≤ n → codes "room" ≡ word_of n
unfolding word_of
word_past n h = sym (get_or_past words n (codes "room") h)
