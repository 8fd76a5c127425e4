-- What was written is read back, whatever stands behind it.
use Rattle.std.proofs.Common.{◌≡◌, ℕ, zero, suc, ◌+◌, ◌*◌, ◌/◌, ◌%◌, List, [], ◌∷◌, ◌++◌, get_or, refl, ap, zero-add, add-one, arith}
use Rattle.std.proofs.lemmas.List.{length-append, get_or_append_left}
use Rattle.model.specs.Bytes.{le, digits}
use Rattle.commits.specs.Stored.{Stored}
use Rattle.commits.proofs.Store.{le_stored, span_stored, entry_stored}
use Rattle.commits.proofs.NodeBack.{plain_reads, referring_reads}
use Rattle.encoding.specs.Reading.{NumbersRead, NumbersWritten, ReferencesRead, PlainNodesRead, ReferringNodesRead, EntriesRead}

-- a row's beginning stands there
first : (xs rest : List ℕ) → Stored (xs ++ rest) 0 xs
first xs rest = record {
  bytes = λ i l. rw zero-add (get_or_append_left xs rest 0 i l);
  fits = let l = length-append xs rest in omega arith;
}

le_behind : (n x : ℕ) (xs : List ℕ) (p : ℕ) → le n (x ∷ xs) (p + 1) ≡ le n xs p
unfolding le
le_behind zero x xs p = refl
le_behind (suc n) x xs p =
    let e : get_or (x ∷ xs) (p + 1) 0 ≡ get_or xs p 0 = rw add-one in
    cc (e, le_behind n x xs (p + 1))

pub numbers_read : NumbersRead
numbers_read n v rest h = le_stored n (digits n v ++ rest) 0 v h (first (digits n v) rest)

pub numbers_written : NumbersWritten
unfolding le digits
numbers_written zero [] a e = refl
numbers_written zero (x ∷ xs) a e = absurd (omega arith)
numbers_written (suc n) [] a e = absurd (omega arith)
numbers_written (suc n) (x ∷ xs) (small, rest) e =
    let s : le n (x ∷ xs) 1 ≡ le n xs 0 = le_behind n x xs 0 in
    let low : (x + 256 * le n (x ∷ xs) 1) % 256 ≡ x = omega arith in
    let high : (x + 256 * le n (x ∷ xs) 1) / 256 ≡ le n xs 0 = omega arith in
    let more : digits n (le n xs 0) ≡ xs = numbers_written n xs rest (omega arith) in
    cc (low, ap (digits n) high, more)

pub references_read : ReferencesRead
references_read r rest h k = span_stored _ 0 r h k (first _ rest)

pub plain_nodes_read : PlainNodesRead
plain_nodes_read id payload rest h k = plain_reads _ 0 id payload h k (first _ rest)

pub referring_nodes_read : ReferringNodesRead
referring_nodes_read id base r payload rest h j l u w k = referring_reads _ 0 id base r payload h j l k u w (first _ rest)

pub entries_read : EntriesRead
entries_read e rest h k = (entry_stored _ 0 e [] h k (first _ rest)).0
