-- The parts of a commit's writes, as they are put together.
use Rattle.std.proofs.Common.{◌≡◌, ℕ, ◌+◌, ◌≤◌, List, [], ◌++◌, length, take, Ok, Err, Result, sym, ap, ◌∙◌, arith}
use Rattle.std.proofs.lemmas.List.{append-nil, take_all, drop_all, length-append, length-replicate}
use Rattle.model.specs.declared.types.Entry.{Entry}
use Rattle.model.specs.Bytes.{piece}
use Rattle.model.specs.References.{span, span_bytes}
use Rattle.model.specs.LogFragments.{entry_bytes, new_log_fragment}
use Rattle.store.specs.declared.base.StoreFault.{StoreFault}
use Rattle.store.specs.Rows.{Reads}
use Rattle.commits.proofs.Sizes.{length_span_bytes, length_entry_bytes, length_new_log_fragment}
use Rattle.encoding.specs.Buffers.{most, pushed, to_eight, zeros}
use Rattle.encoding.proofs.Pushes.{pushed_both}
use Rattle.writing.specs.Padded.{padded}

-- the first bytes of a row that has as many
pub read_first : {T : Type 0} (row was is : List ℕ) (n : ℕ) (r : Result T StoreFault) → Reads row 0 n was is r → n ≤ length row → length was ≡ n → is ≡ take n row
unfolding piece
read_first row was is n (Ok x) (a, b, e) h l = rw (drop_all n was (omega arith), append-nil) at e
read_first row was is n (Err x) (never, b, c) h l = absurd (never (omega arith) (omega arith))

-- what is put into an empty buffer, and fits
pub pushed_first : (new : List ℕ) → length new ≤ most → pushed [] new ≡ new
unfolding pushed
pushed_first new h = take_all most new h

pub entries_pushed : (es : List Entry) → length es ≤ 17 → pushed [] (entry_bytes es) ≡ entry_bytes es
entries_pushed es h = let l = length_entry_bytes es in pushed_first (entry_bytes es) (omega arith)

pub span_pushed : (start size : ℕ) → pushed [] (span_bytes (span start size)) ≡ span_bytes (span start size)
span_pushed start size = let l = length_span_bytes (span start size) in pushed_first _ (omega arith)

-- a row of 1,024 bytes, with zeros behind it
pub padded_pushed : (new : List ℕ) (place : ℕ) → length new ≡ 1024 → pushed (pushed [] new) (zeros (to_eight (place + length (pushed [] new)))) ≡ new ++ zeros (to_eight (place + length new))
padded_pushed new place h =
    let z : List ℕ = zeros (to_eight (place + length new)) in
    let m : length z ≡ to_eight (place + length new) = length-replicate (to_eight (place + length new)) 0 in
    let n : length (new ++ z) ≡ length new + length z = length-append new z in
    let e : pushed [] new ≡ new = pushed_first new (omega arith) in
    let f : pushed new z ≡ new ++ z = ap (λ (old : List ℕ). pushed old z) (sym e) ∙ pushed_both [] new z ∙ pushed_first (new ++ z) (omega arith) in
    ap (λ (old : List ℕ). pushed old (zeros (to_eight (place + length old)))) e ∙ f

-- a new fragment of the log
pub fragment_pushed : (end : ℕ) (es : List Entry) (first : List ℕ) → length es ≤ 17 → first ≡ pushed [] (new_log_fragment es)
    → pushed first (zeros (to_eight (end + length first))) ≡ (padded end (new_log_fragment es)).new
fragment_pushed end es first h e = rw e (padded_pushed (new_log_fragment es) end (length_new_log_fragment es (omega arith)))
