-- Fragments of the transaction log: entries, next reference.
use Rattle.std.specs.Prelude.{ℕ, ◌+◌, ◌-◌, ◌*◌, ◌/◌, List, [], ◌∷◌, ◌++◌, length, replicate}
use Rattle.model.specs.declared.types.Span.{Span}
use Rattle.model.specs.declared.types.Entry.{Entry}
use Rattle.model.specs.Bytes.{le, digits}
use Rattle.model.specs.Crc.{crc_of, crc_32}
use Rattle.model.specs.References.{nil, span_bytes}

abbrev pub entry : ℕ → ℕ → Entry
entry s n = record { source = s; number = n }

abbrev pub entry_at : List ℕ → ℕ → Entry
entry_at b p = entry (le 4 b p) (le 4 b (p + 4))

unfoldable pub entry_bytes : List Entry → List ℕ
entry_bytes [] = []
entry_bytes (e ∷ es) = digits 4 e.source ++ (digits 4 e.number ++ entry_bytes es)

-- a transaction's sentinel carries the CRC of its other entries
abbrev pub sentinel : List Entry → Entry
sentinel es = entry 1 (crc_of crc_32 (entry_bytes es))

-- how many entries a fragment of this size holds, where its i-th stands, and where its next reference
abbrev pub entries_in : ℕ → ℕ
entries_in size = (size - 12) / 8

abbrev pub entry_place : Span → ℕ → ℕ
entry_place f i = f.start + 8 * i

abbrev pub log_next : Span → ℕ
log_next f = entry_place f (entries_in f.size)

-- a new log fragment has 1,024 bytes: 126 entries, nil for the next, zeros elsewhere
abbrev pub new_log_fragment : List Entry → List ℕ
new_log_fragment es = entry_bytes es ++ (replicate (8 * (126 - length es)) 0 ++ (span_bytes nil ++ replicate 4 0))
