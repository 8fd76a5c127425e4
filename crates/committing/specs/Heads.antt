-- The first 512 bytes of a file, as a commit changes them.
use Rattle.std.specs.Prelude.{ℕ, ◌+◌, List, [], ◌∷◌}
use Rattle.model.specs.declared.types.Header.{Header}
use Rattle.model.specs.Bytes.{digits, Write, put}

-- the count and the generation one higher, the new end, and the new GUID
abbrev pub head_changes : Header → ℕ → List ℕ → List Write
head_changes h end guid = put 0x60 (digits 4 (h.count + 1)) ∷ put 0xC4 (digits 8 end) ∷ put 0xD4 guid ∷ put 0xE4 (digits 8 (h.generation + 1)) ∷ []
