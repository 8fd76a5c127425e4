-- Opening: what the bytes of a store hold, or the first broken rule, in the order in which the rules are checked.
use Rattle.std.specs.Prelude.{ℕ, not, ◌||◌, List, [], ◌∷◌, ◌++◌, map, length, ◌==◌, nat_lt}
use Rattle.model.specs.declared.types.Span.{Span}
use Rattle.model.specs.declared.types.Header.{Header}
use Rattle.model.specs.Bytes.{le, piece, same_row}
use Rattle.model.specs.Faults.{fault, Outcome, done, Check, unless, then}
use Rattle.model.specs.References.{end_of}
use Rattle.model.specs.Headers.{most, file_type, file_format, header_at}
use Rattle.model.specs.Nodes.{Node, field_of, referring}
use Rattle.model.specs.Section.{Log, NodeList, Section, flat, list_fragments}
use Rattle.model.specs.OpenedLog.{overlaps, reading, log_from}
use Rattle.model.specs.OpenedLists.{named_first, lists_from}

-- 1 short, 2 strange, 3 newer, 4 bare; the place is that of the header's field, 0 for a store under 1,024
abbrev pub header_checks : List ℕ → List Check
header_checks b =
    let end = le 8 b 0xC4 in
    (nat_lt (length b) 1024, fault 1 1 0 0)
    ∷ (nat_lt (length b) end || nat_lt end 1024 || nat_lt most end, fault 1 1 0xC4 0)
    ∷ (not (same_row (piece b 0x00 16) file_type), fault 2 1 0x00 0)
    ∷ (not (same_row (piece b 0x30 16) file_format), fault 2 1 0x30 0)
    ∷ (nat_lt 0x2A (le 4 b 0x4C), fault 3 1 0x4C 0)
    ∷ ((le 4 b 0x60 == 0), fault 4 1 0x60 0)
    ∷ []

-- 5 outside: the data ends past the file's end; 11 overlap: it shares a byte with the header or a fragment
abbrev pub data_checks : ℕ → List Span → ℕ → List Node → List Check
data_checks end fs id [] = []
data_checks end fs id (n ∷ ns) =
    (nat_lt end (end_of n.reference), fault 5 3 (field_of n) id)
    ∷ (overlaps n.reference fs, fault 11 3 (field_of n) id)
    ∷ data_checks end fs id ns

-- the present data references of all lists, one after the other
abbrev pub all_data : Header → Log → List NodeList → List Check
all_data h log ls = flat (map (λ l. data_checks h.end (log.fragments ++ list_fragments ls) l.id (referring 1 l.nodes)) ls)

-- what is left to do behind the lists, behind the log, and behind the header's checks
abbrev pub last_part : Header → Log → List NodeList → Outcome Section
last_part h log ls = unless (all_data h log ls) (done (record { header = h; log = log; lists = ls }))

abbrev pub part_lists : List ℕ → Header → Log → Outcome Section
part_lists b h log = then (lists_from 1024 b h log (named_first h) []) (last_part h log)

abbrev pub part_log : List ℕ → Header → Outcome Section
part_log b h = then (log_from 2048 b h [] 0xA0 h.log (reading [] [])) (part_lists b h)

-- header, log, lists, and then the data references, in that order
unfoldable pub opened : List ℕ → Outcome Section
opened b = let rest = part_log b (header_at b) in unless (header_checks b) rest
