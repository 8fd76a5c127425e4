-- How many bytes the parts take.
use Rattle.std.proofs.Common.{◌≡◌, ℕ, zero, suc, ◌+◌, ◌*◌, ◌/◌, ◌≤◌, List, [], ◌∷◌, length, refl, ap, arith}
use Rattle.std.proofs.lemmas.List.{length-append, length-replicate}
use Rattle.model.specs.declared.types.Span.{Span}
use Rattle.model.specs.declared.types.Entry.{Entry}
use Rattle.model.specs.Bytes.{digits}
use Rattle.model.specs.References.{span_bytes}
use Rattle.model.specs.Nodes.{plain_node, referring_node}
use Rattle.model.specs.ListFragments.{new_fragment}
use Rattle.model.specs.LogFragments.{entry_bytes, new_log_fragment}

pub length_digits : (n v : ℕ) → length (digits n v) ≡ n
unfolding digits
length_digits zero v = refl
length_digits (suc n) v = ap suc (length_digits n (v / 256))

pub length_span_bytes : (r : Span) → length (span_bytes r) ≡ 12
length_span_bytes r = simp (length-append, length_digits)

pub length_plain : (id : ℕ) (payload : List ℕ) → length (plain_node id payload) ≡ 4 + length payload
length_plain id payload = simp (length-append, length_digits)

pub length_referring : (id base : ℕ) (r : Span) (payload : List ℕ) → length (referring_node id base r payload) ≡ 16 + length payload
length_referring id base r payload = simp (length-append, length_digits) (omega arith)

pub length_new_fragment : (id number : ℕ) (node : List ℕ) → length node ≤ 988 → length (new_fragment id number node) ≡ 1024
length_new_fragment id number node h = simp (length-append, length_digits, length-replicate) (omega arith)

pub length_entry_bytes : (es : List Entry) → length (entry_bytes es) ≡ 8 * length es
unfolding entry_bytes
length_entry_bytes [] = refl
length_entry_bytes (e ∷ es) = simp (length-append, length_digits, length_entry_bytes es) (omega arith)

pub length_new_log_fragment : (es : List Entry) → length es ≤ 126 → length (new_log_fragment es) ≡ 1024
length_new_log_fragment es h = simp (length-append, length_digits, length-replicate, length_entry_bytes) (omega arith)
