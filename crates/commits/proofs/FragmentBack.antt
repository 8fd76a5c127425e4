-- A fragment that was written has its marks and its node; log entries that were written read back.
use Rattle.std.proofs.Common.{◌≡◌, ℕ, ◌+◌, ◌-◌, ◌*◌, ◌^◌, ◌<◌, ◌≤◌, List, [], ◌∷◌, ◌++◌, length, replicate, refl, arith}
use Rattle.std.specs.List.{AllByRecursion}
use Rattle.std.proofs.lemmas.List.{length-replicate}
use Rattle.model.specs.declared.types.Span.{Span}
use Rattle.model.specs.declared.types.Entry.{Entry}
use Rattle.model.specs.Bytes.{digits}
use Rattle.model.specs.References.{span, nil, span_bytes}
use Rattle.model.specs.ListFragments.{first_mark, last_mark, new_fragment}
use Rattle.model.specs.LogFragments.{entry_bytes, entry_place, new_log_fragment}
use Rattle.model.specs.Means.{entries_of, Marked}
use Rattle.commits.specs.Stored.{Stored}
use Rattle.commits.proofs.Sizes.{length_digits, length_span_bytes}
use Rattle.commits.proofs.Store.{four_stored, eight_stored, stored_front, stored_next, entry_stored}

-- list fragments -----------------------------------------------------------------------------------------------------

pub fragment_back : (b : List ℕ) (p id number : ℕ) (node : List ℕ) → id < 2 ^ 32 → number < 2 ^ 32 → length node ≤ 988 → Stored b p (new_fragment id number node)
    → Marked b id number (span p 1024) × Stored b (p + 16) node
fragment_back b p id number node h k l o =
    let gap : List ℕ = replicate (988 - length node) 0 in
    let tail : List ℕ = span_bytes nil ++ digits 8 last_mark in
    let s8 : Stored b (p + 8) (digits 4 id ++ (digits 4 number ++ (node ++ (gap ++ tail))))
    = stored_next 8 b p (digits 8 first_mark) (digits 4 id ++ (digits 4 number ++ (node ++ (gap ++ tail)))) (length_digits 8 first_mark) o in
    let s12 : Stored b (p + 8 + 4) (digits 4 number ++ (node ++ (gap ++ tail)))
    = stored_next 4 b (p + 8) (digits 4 id) (digits 4 number ++ (node ++ (gap ++ tail))) (length_digits 4 id) s8 in
    let e12 : p + 8 + 4 ≡ p + 12 = omega arith in
    let s12' : Stored b (p + 12) (digits 4 number ++ (node ++ (gap ++ tail))) = rw e12 at s12 in
    let s16 : Stored b (p + 12 + 4) (node ++ (gap ++ tail)) = stored_next 4 b (p + 12) (digits 4 number) (node ++ (gap ++ tail)) (length_digits 4 number) s12' in
    let e16 : p + 12 + 4 ≡ p + 16 = omega arith in
    let s16' : Stored b (p + 16) (node ++ (gap ++ tail)) = rw e16 at s16 in
    let sg : Stored b (p + 16 + length node) (gap ++ tail) = stored_next (length node) b (p + 16) node (gap ++ tail) refl s16' in
    let st : Stored b (p + 16 + length node + (988 - length node)) tail
    = stored_next (988 - length node) b (p + 16 + length node) gap tail (length-replicate (988 - length node) 0) sg in
    let sm : Stored b (p + 16 + length node + (988 - length node) + 12) (digits 8 last_mark)
    = stored_next 12 b (p + 16 + length node + (988 - length node)) (span_bytes nil) (digits 8 last_mark) (length_span_bytes nil) st in
    let em : p + 16 + length node + (988 - length node) + 12 ≡ p + 1024 - 8 = omega arith in
    let sm' : Stored b (p + 1024 - 8) (digits 8 last_mark) = rw em at sm in (
      record {
        first = eight_stored b p first_mark (omega arith) (stored_front b p (digits 8 first_mark) (digits 4 id ++ (digits 4 number ++ (node ++ (gap ++ tail)))) o);
        last = eight_stored b (p + 1024 - 8) last_mark (omega arith) sm';
        list = four_stored b (p + 8) id h (stored_front b (p + 8) (digits 4 id) (digits 4 number ++ (node ++ (gap ++ tail))) s8);
        sequence_number = four_stored b (p + 12) number k (stored_front b (p + 12) (digits 4 number) (node ++ (gap ++ tail)) s12');
      },
      stored_front b (p + 16) node (gap ++ tail) s16',
    )

-- log entries --------------------------------------------------------------------------------------------------------

abbrev pub Small : Entry → Type 0
Small e = (e.source < 2 ^ 32) × (e.number < 2 ^ 32)

pub entries_back : (b : List ℕ) (f : Span) (i : ℕ) (es : List Entry) → AllByRecursion Small es → Stored b (entry_place f i) (entry_bytes es) → entries_of b f i (length es) ≡ es
entries_back b f i [] a o = refl
entries_back b f i (e ∷ es) (x, a) o =
    let (y, z) = entry_stored b (entry_place f i) e es x.0 x.1 o in
    let u : f.start + 8 * i + 8 ≡ f.start + 8 * (i + 1) = omega arith in
    let ih = entries_back b f (i + 1) es a (rw u at z) in
    rw (y, ih)

pub log_fragment_back : (b : List ℕ) (p : ℕ) (es : List Entry) → Stored b p (new_log_fragment es) → Stored b p (entry_bytes es)
log_fragment_back b p es o = stored_front b p (entry_bytes es) (replicate (8 * (126 - length es)) 0 ++ (span_bytes nil ++ replicate 4 0)) o
