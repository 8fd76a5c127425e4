-- The header: the fields of a file's first 1,024 bytes that are used.
use Rattle.std.specs.Prelude.{ℕ, ◌^◌, List, [], ◌∷◌, ◌++◌}
use Rattle.model.specs.declared.types.Span.{Span}
use Rattle.model.specs.declared.types.Header.{Header}
use Rattle.model.specs.Bytes.{le, digits, piece}
use Rattle.model.specs.References.{span, span_at}

-- the header's 1,024 bytes
abbrev pub header_span : Span
header_span = span 0 1024

-- no file is longer
abbrev pub most : ℕ
most = 2 ^ 40

-- {7B5C52E4-D88C-4DA7-AEB1-5378D02996D3}
abbrev pub file_type : List ℕ
file_type = digits 4 0x7B5C52E4 ++ digits 2 0xD88C ++ digits 2 0x4DA7 ++ 0xAE ∷ 0xB1 ∷ 0x53 ∷ 0x78 ∷ 0xD0 ∷ 0x29 ∷ 0x96 ∷ 0xD3 ∷ []

-- {109ADD3F-911B-49F5-A5D0-1791EDC8AED8}
abbrev pub file_format : List ℕ
file_format = digits 4 0x109ADD3F ++ digits 2 0x911B ++ digits 2 0x49F5 ++ 0xA5 ∷ 0xD0 ∷ 0x17 ∷ 0x91 ∷ 0xED ∷ 0xC8 ∷ 0xAE ∷ 0xD8 ∷ []

abbrev pub header_at : List ℕ → Header
header_at b = record {
  count = le 4 b 0x60;
  end = le 8 b 0xC4;
  generation = le 8 b 0xE4;
  version = piece b 0xD4 16;
  hashed = span_at b 0x94;
  log = span_at b 0xA0;
  root = span_at b 0xAC;
}
