-- The parts that are written are bytes.
use Rattle.std.proofs.Common.{ℕ, zero, suc, ◌+◌, ◌-◌, ◌*◌, ◌%◌, ◌<◌, ◌≤◌, List, [], ◌∷◌, ◌++◌, length, replicate, arith}
use Rattle.std.specs.List.{AllByRecursion}
use Rattle.std.proofs.lemmas.List.{length-append, length-replicate}
use Rattle.std.proofs.ByRecursion.{All-append}
use Rattle.model.specs.declared.types.Span.{Span}
use Rattle.model.specs.declared.types.Entry.{Entry}
use Rattle.model.specs.Bytes.{digits, behind, Bytes}
use Rattle.model.specs.References.{nil, span_bytes}
use Rattle.model.specs.Nodes.{node_head, plain_node, referring_node}
use Rattle.model.specs.ListFragments.{first_mark, last_mark, new_fragment}
use Rattle.model.specs.LogFragments.{entry_bytes, new_log_fragment}
use Rattle.model.specs.Layouts.{Layout}
use Rattle.model.specs.Saving.{at_end}
use Rattle.commits.proofs.Sums.{digits_bytes, entries_bytes}

-- a piece reaches at least as far as what it holds
pub piece_ends : (y : Layout) (new : List ℕ) → y.end + length new ≤ behind (at_end y new)
piece_ends y new = simp (length-append, length-replicate) (omega arith)

-- parts one after the other
abbrev row_of : List (List ℕ) → List ℕ → List ℕ
row_of [] last = last
row_of (xs ∷ xss) last = xs ++ row_of xss last

row_bytes : (xss : List (List ℕ)) (last : List ℕ) → AllByRecursion Bytes xss → Bytes last → Bytes (row_of xss last)
row_bytes [] last a c = c
row_bytes (xs ∷ xss) last (p, a) c = All-append (λ x. x < 256) xs (row_of xss last) p (row_bytes xss last a c)

zeros_bytes : (n : ℕ) → Bytes (replicate n 0)
zeros_bytes zero = tt
zeros_bytes (suc n) = (omega arith, zeros_bytes n)

pub span_bytes_bytes : (r : Span) → Bytes (span_bytes r)
span_bytes_bytes r = row_bytes (digits 8 r.start ∷ []) (digits 4 r.size) (digits_bytes 8 r.start, tt) (digits_bytes 4 r.size)

pub plain_bytes : (id : ℕ) (payload : List ℕ) → Bytes payload → Bytes (plain_node id payload)
plain_bytes id payload a = row_bytes (node_head id (4 + length payload) 0 ∷ []) payload (digits_bytes 4 _, tt) a

pub referring_bytes : (id base : ℕ) (r : Span) (payload : List ℕ) → Bytes payload → Bytes (referring_node id base r payload)
referring_bytes id base r payload a =
    row_bytes (node_head id (16 + length payload) base ∷ span_bytes r ∷ []) payload (digits_bytes 4 _, (span_bytes_bytes r, tt)) a

pub fragment_bytes : (id number : ℕ) (node : List ℕ) → Bytes node → Bytes (new_fragment id number node)
fragment_bytes id number node a =
    let zeros = replicate (988 - length node) 0 in
    let parts : List (List ℕ) = digits 8 first_mark ∷ digits 4 id ∷ digits 4 number ∷ node ∷ zeros ∷ span_bytes nil ∷ [] in
    let each : AllByRecursion Bytes parts = (digits_bytes 8 first_mark, (digits_bytes 4 id, (digits_bytes 4 number, (a, (zeros_bytes (988 - length node), (span_bytes_bytes nil, tt)))))) in
    row_bytes parts (digits 8 last_mark) each (digits_bytes 8 last_mark)

pub log_fragment_bytes : (es : List Entry) → Bytes (new_log_fragment es)
log_fragment_bytes es =
    let zeros = replicate (8 * (126 - length es)) 0 in
    let parts : List (List ℕ) = entry_bytes es ∷ zeros ∷ span_bytes nil ∷ [] in
    let each : AllByRecursion Bytes parts = (entries_bytes es, (zeros_bytes (8 * (126 - length es)), (span_bytes_bytes nil, tt))) in
    row_bytes parts (replicate 4 0) each (zeros_bytes 4)

pub piece_bytes : (y : Layout) (new : List ℕ) → Bytes new → Bytes (at_end y new).new
piece_bytes y new a = row_bytes (new ∷ []) (replicate ((8 - (y.end + length new) % 8) % 8) 0) (a, tt) (zeros_bytes ((8 - (y.end + length new) % 8) % 8))
