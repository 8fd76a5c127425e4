-- What was written stands there, and what stands there is read.
use Rattle.std.proofs.Common.{◌≡◌, ℕ, zero, suc, ◌+◌, ◌-◌, ◌/◌, ◌%◌, ◌^◌, ◌<◌, ◌≤◌, max, ◌⊎◌, List, [], ◌∷◌, ◌++◌, length, get_or, take, drop, sym, refl, ap, ◌∙◌, inl, inr, add-zero, div-lt_iff_lt-mul, pow-suc, arith, rules}
use Rattle.std.proofs.lemmas.List.{places, ext_get_or, length-append, length-take, length-drop, get_or-take, get_or-drop, get_or_append_left}
use Rattle.model.specs.declared.types.Span.{Span}
use Rattle.model.specs.declared.types.Entry.{Entry}
use Rattle.model.specs.Bytes.{le, digits, piece, Write, written, applied, Same}
use Rattle.model.specs.References.{span_at, span_bytes}
use Rattle.model.specs.LogFragments.{entry_at, entry_bytes}
use Rattle.commits.specs.Stored.{Stored}
use Rattle.commits.proofs.Sizes.{length_digits}

-- one write --------------------------------------------------------------------------------------------------------

pub length_written : (b : List ℕ) (p : ℕ) (new : List ℕ) → p ≤ length b → length (written b p new) ≡ max (length b) (p + length new)
unfolding written
length_written b p new h = simp (length-append, length-take, length-drop) (omega arith)

pub written_below : (b : List ℕ) (p : ℕ) (new : List ℕ) (i : ℕ) → p ≤ length b → i < p → get_or (written b p new) i 0 ≡ get_or b i 0
unfolding written
written_below b p new i h l = search (rules, places)

pub written_at : (b : List ℕ) (p : ℕ) (new : List ℕ) (i : ℕ) → p ≤ length b → p ≤ i → i < p + length new → get_or (written b p new) i 0 ≡ get_or new (i - p) 0
unfolding written
written_at b p new i h l k = search (rules, places)

pub written_above : (b : List ℕ) (p : ℕ) (new : List ℕ) (i : ℕ) → p ≤ length b → p + length new ≤ i → get_or (written b p new) i 0 ≡ get_or b i 0
unfolding written
written_above b p new i h l = search (rules, places)

-- the bytes outside a write
pub same_written : (b : List ℕ) (p : ℕ) (new : List ℕ) (lo hi : ℕ) → p ≤ length b → (hi ≤ p) ⊎ (p + length new ≤ lo) → Same b (written b p new) lo hi
same_written b p new lo hi h (inl x) i l k = sym (written_below b p new i h (omega arith))
same_written b p new lo hi h (inr x) i l k = sym (written_above b p new i h (omega arith))

-- writes one after the other
pub applied_row : (b : List ℕ) (xs ys : List Write) → applied b (xs ++ ys) ≡ applied (applied b xs) ys
unfolding applied
applied_row b [] ys = refl
applied_row b (w ∷ xs) ys = applied_row (written b w.place w.new) xs ys

pub stored_written : (b : List ℕ) (p : ℕ) (new : List ℕ) → p ≤ length b → Stored (written b p new) p new
stored_written b p new h = record {
  bytes = λ i l. written_at b p new (p + i) h (omega arith) (omega arith) ∙ ap (λ k. get_or new k 0) (omega arith);
  fits = omega (arith, length_written b p new h);
}

-- what stands there --------------------------------------------------------------------------------------------------

pub stored_same : (b c : List ℕ) (p : ℕ) (new : List ℕ) → Same b c p (p + length new) → p + length new ≤ length c → Stored b p new → Stored c p new
stored_same b c p new s h o = record { bytes = λ i l. sym (s (p + i) (omega arith) (omega arith)) ∙ o.bytes i l; fits = h }

pub stored_front : (b : List ℕ) (p : ℕ) (xs ys : List ℕ) → Stored b p (xs ++ ys) → Stored b p xs
stored_front b p xs ys o = record {
  bytes = λ i l. o.bytes i (omega (arith, length-append xs ys)) ∙ get_or_append_left xs ys 0 i l;
  fits = omega (arith, length-append xs ys, o.fits);
}

pub stored_back : (b : List ℕ) (p : ℕ) (xs ys : List ℕ) → Stored b p (xs ++ ys) → Stored b (p + length xs) ys
stored_back b p xs ys o = record {
  bytes = λ i l.
      let a : p + length xs + i ≡ p + (length xs + i) = omega arith in
      rw a (o.bytes (length xs + i) (omega (arith, length-append xs ys)) ∙ search (rules, places));
  fits = omega (arith, length-append xs ys, o.fits);
}

-- the bytes of a number read back
pub le_stored : (n : ℕ) (b : List ℕ) (p v : ℕ) → v < 256 ^ n → Stored b p (digits n v) → le n b p ≡ v
unfolding le digits
le_stored zero b p v h o = omega arith
le_stored (suc n) b p v h o =
    let k : v / 256 < 256 ^ n = (div-lt_iff_lt-mul {k = 256} (omega arith)).1 (rw (← pow-suc 256 n) h) in
    let x : get_or b p 0 ≡ v % 256 = rw add-zero at (o.bytes 0 (omega arith)) in
    let d = le_stored n b (p + 1) (v / 256) k (stored_back b p ((v % 256) ∷ []) (digits n (v / 256)) o) in
    omega arith

-- a piece that stands there
pub piece_stored : (b : List ℕ) (p : ℕ) (xs : List ℕ) → Stored b p xs → piece b p (length xs) ≡ xs
unfolding piece
piece_stored b p xs o =
    let u : length (take (length xs) (drop p b)) ≡ length xs = simp (length-take, length-drop) (omega (arith, o.fits)) in
    ext_get_or 0 _ _ u (λ i k.
    let l : i < length xs = omega arith in
    rw (get_or-take, get_or-drop) (o.bytes i l))

-- numbers of 4 and of 8 bytes, references and entries
pub four_stored : (b : List ℕ) (p v : ℕ) → v < 2 ^ 32 → Stored b p (digits 4 v) → le 4 b p ≡ v
four_stored b p v h o = le_stored 4 b p v h o

pub eight_stored : (b : List ℕ) (p v : ℕ) → v < 2 ^ 64 → Stored b p (digits 8 v) → le 8 b p ≡ v
eight_stored b p v h o = le_stored 8 b p v h o

-- what stands behind n bytes
pub stored_next : (n : ℕ) (b : List ℕ) (p : ℕ) (xs ys : List ℕ) → length xs ≡ n → Stored b p (xs ++ ys) → Stored b (p + n) ys
stored_next n b p xs ys e o = rw e at (stored_back b p xs ys o)

pub span_stored : (b : List ℕ) (p : ℕ) (r : Span) → r.start < 2 ^ 64 → r.size < 2 ^ 32 → Stored b p (span_bytes r) → span_at b p ≡ r
span_stored b p r h k o =
    let x = eight_stored b p r.start h (stored_front b p (digits 8 r.start) (digits 4 r.size) o) in
    let y = four_stored b (p + 8) r.size k (stored_next 8 b p (digits 8 r.start) (digits 4 r.size) (length_digits 8 r.start) o) in
    rw (x, y)

pub entry_stored : (b : List ℕ) (p : ℕ) (e : Entry) (es : List Entry) → e.source < 2 ^ 32 → e.number < 2 ^ 32 → Stored b p (entry_bytes (e ∷ es))
    → (entry_at b p ≡ e) × Stored b (p + 8) (entry_bytes es)
unfolding entry_bytes
entry_stored b p e es h k o =
    let rest = stored_next 4 b p (digits 4 e.source) (digits 4 e.number ++ entry_bytes es) (length_digits 4 e.source) o in
    let x = four_stored b p e.source h (stored_front b p (digits 4 e.source) (digits 4 e.number ++ entry_bytes es) o) in
    let y = four_stored b (p + 4) e.number k (stored_front b (p + 4) (digits 4 e.number) (entry_bytes es) rest) in
    let z = stored_next 4 b (p + 4) (digits 4 e.number) (entry_bytes es) (length_digits 4 e.number) rest in
    let u : p + 8 ≡ p + 4 + 4 = omega arith in
    (rw (x, y), rw u z)
