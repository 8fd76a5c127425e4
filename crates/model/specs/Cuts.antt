-- Cuts: what may stand after a write was cut.
use Rattle.std.specs.Prelude.{◌≡◌, ℕ, ◌<◌, ◌≤◌, max, ◌⊎◌, List, length, slice_index}
use Rattle.model.specs.Bytes.{Write, written, behind, Bytes}
use Rattle.model.specs.Calls.{Call, open_file, begin, add, commit, abandon, looking}

-- the write of the first 512 bytes
abbrev pub WritesHeader : Write → Type 0
WritesHeader w = (w.place ≡ 0) × (length w.new ≡ 512)

-- t may stand after the write w to b was cut: of the write of the first 512 bytes all or nothing;
-- of any other each byte in it is old, new or anything, the length lies between old and new, and the bytes outside stay
pub data Cut (b : List ℕ) (w : Write) : List ℕ → Type 0 where
  old_header : WritesHeader w → Cut b w b
  new_header : WritesHeader w → Cut b w (written b w.place w.new)
  torn : {t : List ℕ} → (WritesHeader w → ⊥) → Bytes t → length b ≤ length t → length t ≤ max (length b) (behind w)
      → ((i : ℕ) → (i < w.place) ⊎ (behind w ≤ i) → slice_index t i ≡ slice_index b i) → Cut b w t

-- 1 if a commit's header write was cut and the new header stands
abbrev pub raised : {b : List ℕ} {w : Write} {t : List ℕ} → Call → Cut b w t → ℕ
raised (open_file mark) cut = 0
raised begin cut = 0
raised (add draft a) cut = 0
raised (commit draft guid) (old_header h) = 0
raised (commit draft guid) (new_header h) = 1
raised (commit draft guid) (torn h c d e f) = 0
raised (abandon draft) cut = 0
raised (looking l) cut = 0
