-- The writes to the log that were made are those of the definitions.
use Rattle.std.proofs.Common.{◌≡◌, ℕ, ◌+◌, ◌-◌, ◌^◌, ◌%◌, ◌≤◌, ◌<◌, min, true, false, cond, List, [], ◌∷◌, length, take, drop, nat_lt, refl, sym, ap, ◌∙◌, ⊎_elim, subst, arith}
use Rattle.std.proofs.lemmas.Bool.{cases_lt}
use Rattle.std.proofs.lemmas.Bool.Decides.{nat_tests}
use Rattle.std.proofs.lemmas.List.{length-append, length-replicate, length-take, length-drop, take_all, drop_all}
use Rattle.model.specs.declared.types.Entry.{Entry}
use Rattle.model.specs.Bytes.{Write, put, behind}
use Rattle.model.specs.References.{span, span_bytes}
use Rattle.model.specs.LogFragments.{entry_bytes, entries_in, entry_place, log_next, new_log_fragment}
use Rattle.commits.proofs.Sizes.{length_new_log_fragment}
use Rattle.encoding.specs.Buffers.{pushed, to_eight, zeros}
use Rattle.writing.specs.Padded.{padded}
use Rattle.committing.specs.declared.log_end.LogEnd.{LogEnd}
use Rattle.committing.specs.CommitWrites.{places, log_writes, end_then}
use Rattle.committing.specs.LogParts.{LogSizes, rest_writes, fit_writes, end_behind}
use Rattle.committing.specs.Made.{Made}
use Rattle.committing.proofs.Trails.{made_none, made_both}
use Rattle.committing.proofs.Parts.{entries_pushed, span_pushed, fragment_pushed}

-- a part of the entries, and an end no later
part_sizes : (l : LogEnd) (end end' : ℕ) (es part : List Entry) → LogSizes l end es → end' ≤ end → length part ≤ length es → LogSizes l end' part
part_sizes l end end' es part sizes h k =
    let f = sizes.few in
    let e = sizes.end' in
    record { fragment = sizes.fragment; used = sizes.used; end' = omega arith; few = omega arith }

-- places in the last fragment lie by 2^40
place_in : (l : LogEnd) (i : ℕ) (end : ℕ) (es : List Entry) → LogSizes l end es → i ≤ entries_in l.fragment.size → entry_place l.fragment i < 2 ^ 64
place_in l i end es sizes h = let (least, most) = sizes.fragment in omega arith

-- the entries that fit
fit_is : (l : LogEnd) (fit : List Entry) (place : ℕ) (bytes : List ℕ) → LogSizes l 0 fit → 0 < length fit
    → (entry_place l.fragment l.used < 2 ^ 64 → place ≡ entry_place l.fragment l.used) → bytes ≡ pushed [] (entry_bytes fit)
    → put place bytes ∷ [] ≡ fit_writes l fit
fit_is l [] place bytes sizes some p b = absurd (omega arith)
fit_is l (e ∷ es) place bytes sizes some p b =
    let there : place ≡ entry_place l.fragment l.used = p (place_in l l.used 0 (e ∷ es) sizes sizes.used) in
    let whole : bytes ≡ entry_bytes (e ∷ es) = b ∙ entries_pushed (e ∷ es) sizes.few in
    cc

pub fit_made : {S : Type 0} (W : S → List Write → S → Type 0) (b : S → List ℕ) (m : S → ℕ) (s t : S) (l : LogEnd) (fit : List Entry) (place : ℕ) (bytes : List ℕ)
    → Made W b m s t (put place bytes ∷ []) → LogSizes l 0 fit → 0 < length fit
    → (entry_place l.fragment l.used < 2 ^ 64 → place ≡ entry_place l.fragment l.used) → bytes ≡ pushed [] (entry_bytes fit)
    → Made W b m s t (fit_writes l fit)
fit_made W b m s t l fit place bytes made sizes some p e = subst (Made W b m s t) (fit_is l fit place bytes sizes some p e) made

pub fit_none : {S : Type 0} (W : S → List Write → S → Type 0) (b : S → List ℕ) (m : S → ℕ) (s : S) (l : LogEnd) (fit : List Entry) → length fit ≡ 0
    → Made W b m s s (fit_writes l fit)
fit_none W b m s l [] h = made_none W b m s
fit_none W b m s l (e ∷ es) h = absurd (omega arith)

-- those that do not, in a new fragment
rest_is : (l : LogEnd) (end : ℕ) (rest : List Entry) (place holds : ℕ) (first fresh next : List ℕ) → LogSizes l end rest → 0 < length rest
    → first ≡ pushed [] (new_log_fragment rest) → fresh ≡ pushed first (zeros (to_eight (end + length first)))
    → holds ≡ entries_in l.fragment.size → (entry_place l.fragment holds < 2 ^ 64 → place ≡ entry_place l.fragment holds)
    → next ≡ pushed [] (span_bytes (span end 1024))
    → put end fresh ∷ put place next ∷ [] ≡ rest_writes l end rest
rest_is l end [] place holds first fresh next sizes some f g h p n = absurd (omega arith)
rest_is l end (e ∷ es) place holds first fresh next sizes some f g h p n =
    let there : place ≡ entry_place l.fragment holds = p (place_in l holds end (e ∷ es) sizes (omega arith)) in
    let last : entry_place l.fragment holds ≡ log_next l.fragment = ap (entry_place l.fragment) h in
    let whole : fresh ≡ (padded end (new_log_fragment (e ∷ es))).new = g ∙ fragment_pushed end (e ∷ es) first sizes.few f in
    let names : next ≡ span_bytes (span end 1024) = n ∙ span_pushed end 1024 in
    cc

pub rest_made : {S : Type 0} (W : S → List Write → S → Type 0) (b : S → List ℕ) (m : S → ℕ) (s t u : S)
    (l : LogEnd) (end : ℕ) (rest : List Entry) (place holds : ℕ) (first fresh next : List ℕ)
    → Made W b m s t (put end fresh ∷ []) → Made W b m t u (put place next ∷ []) → LogSizes l end rest → 0 < length rest
    → first ≡ pushed [] (new_log_fragment rest) → fresh ≡ pushed first (zeros (to_eight (end + length first)))
    → holds ≡ entries_in l.fragment.size → (entry_place l.fragment holds < 2 ^ 64 → place ≡ entry_place l.fragment holds)
    → next ≡ pushed [] (span_bytes (span end 1024))
    → Made W b m s u (rest_writes l end rest)
rest_made W b m s t u l end rest place holds first fresh next one two sizes some f g h p n =
    subst (Made W b m s u) (rest_is l end rest place holds first fresh next sizes some f g h p n)
    (made_both W b m s t u (put end fresh ∷ []) (put place next ∷ []) one two)

pub rest_none : {S : Type 0} (W : S → List Write → S → Type 0) (b : S → List ℕ) (m : S → ℕ) (s : S) (l : LogEnd) (end : ℕ) (rest : List Entry) → length rest ≡ 0
    → Made W b m s s (rest_writes l end rest)
rest_none W b m s l end [] h = made_none W b m s
rest_none W b m s l end (e ∷ es) h = absurd (omega arith)

-- where the draft ends then
pub end_is : (l : LogEnd) (end : ℕ) (rest : List Entry) (behind' : ℕ) (first fresh : List ℕ) → LogSizes l end rest → 0 < length rest
    → first ≡ pushed [] (new_log_fragment rest) → fresh ≡ pushed first (zeros (to_eight (end + length first)))
    → behind' ≡ min (end + length fresh) (2 ^ 64 - 1) → behind' ≡ end_behind end rest
end_is l end [] behind' first fresh sizes some f g b = absurd (omega arith)
end_is l end (e ∷ es) behind' first fresh sizes some f g b =
    let new = new_log_fragment (e ∷ es) in
    let whole : fresh ≡ (padded end new).new = g ∙ fragment_pushed end (e ∷ es) first sizes.few f in
    let size : length fresh ≡ length (padded end new).new = ap length whole in
    let long : length new ≡ 1024 = length_new_log_fragment (e ∷ es) (omega (arith, sizes.few)) in
    let more : length (padded end new).new ≡ length new + length (zeros (to_eight (end + length new))) = length-append new (zeros (to_eight (end + length new))) in
    let z : length (zeros (to_eight (end + length new))) ≡ to_eight (end + length new) = length-replicate (to_eight (end + length new)) 0 in
    omega (arith, sizes.end')

-- cut at the places, or where the entries end before them
cut_at : (p n : ℕ) (es : List Entry) → n ≡ min p (length es) → (take n es ≡ take p es) × (drop n es ≡ drop p es)
cut_at p n es h =
    ⊎_elim
    (λ (few : p < length es). let e : n ≡ p = omega arith in (ap (λ (i : ℕ). take i es) e, ap (λ (i : ℕ). drop i es) e))
    (λ (all : length es ≤ p). (take_all n es (omega arith) ∙ sym (take_all p es all), drop_all n es (omega arith) ∙ sym (drop_all p es all)))
    (cases_lt p (length es))

-- both parts together
pub log_made : {S : Type 0} (W : S → List Write → S → Type 0) (b : S → List ℕ) (m : S → ℕ) (s t u : S)
    (l : LogEnd) (end n : ℕ) (es fit rest : List Entry)
    → (LogSizes l end rest → Made W b m s t (rest_writes l end rest)) → (LogSizes l 0 fit → Made W b m t u (fit_writes l fit)) → LogSizes l end es
    → n ≡ min (places l) (length es) → fit ≡ take n es → rest ≡ drop n es
    → Made W b m s u (log_writes l end es)
unfolding log_writes
log_made W b m s t u l end n es fit rest one two sizes h f r =
    let (x, y) = cut_at (places l) n es h in
    let few : length fit ≤ length es = let k = ap length f ∙ length-take n es in omega arith in
    let fewer : length rest ≤ length es = let k = ap length r ∙ length-drop n es in omega arith in
    let first = one (part_sizes l end end es rest sizes (omega arith) fewer) in
    let second = two (part_sizes l end 0 es fit sizes (omega arith) few) in
    rw (← x, ← y, ← f, ← r) (made_both W b m s t u (rest_writes l end rest) (fit_writes l fit) first second)

end_some : (end : ℕ) (rest : List Entry) → 0 < length rest → end_behind end rest ≡ behind (padded end (new_log_fragment rest))
end_some end [] h = absurd (omega arith)
end_some end (e ∷ es) h = refl

pub end_none : (end : ℕ) (rest : List Entry) → length rest ≡ 0 → end_behind end rest ≡ end
end_none end [] h = refl
end_none end (e ∷ es) h = absurd (omega arith)

either : (p n x end y : ℕ) → (p < n → y ≡ x) → (n ≤ p → y ≡ end) → y ≡ cond (nat_lt p n) x end
either p n x end y a b = grind (arith, nat_tests)

pub end_both : (l : LogEnd) (end : ℕ) (es : List Entry) → end_then l end es ≡ end_behind end (drop (min (places l) (length es)) es)
unfolding end_then
end_both l end es =
    let rest : List Entry = drop (min (places l) (length es)) es in
    let (t, d) = cut_at (places l) (min (places l) (length es)) es refl in
    let s : length rest ≡ length es - places l = ap length d ∙ length-drop (places l) es in
    sym (either (places l) (length es) _ end (end_behind end rest)
    (λ few. end_some end rest (omega arith) ∙ ap (λ (xs : List Entry). behind (padded end (new_log_fragment xs))) d)
    (λ all. end_none end rest (omega arith)))

pub rest_sizes : (l : LogEnd) (end n : ℕ) (es : List Entry) → LogSizes l end es → LogSizes l end (drop n es)
rest_sizes l end n es sizes = let k = length-drop n es in part_sizes l end end es (drop n es) sizes (omega arith) (omega arith)

-- the end and the log's end, foretold
pub end_new : (l : LogEnd) (end n past behind' : ℕ) (es : List Entry) → LogSizes l end es → n ≡ length es → places l < n
    → past ≡ min (end + 1024) (2 ^ 64 - 1) → behind' ≡ min (past + (8 - past % 8) % 8) (2 ^ 64 - 1) → behind' ≡ end_then l end es
unfolding end_then
end_new l end n past behind' es sizes k h p b =
    let rest : List Entry = drop (places l) es in
    let new : List ℕ = new_log_fragment rest in
    let few = sizes.few in
    let e = sizes.end' in
    let d = length-drop (places l) es in
    let long : length new ≡ 1024 = length_new_log_fragment rest (omega arith) in
    let more = length-append new (zeros (to_eight (end + length new))) in
    let z : length (zeros (to_eight (end + length new))) ≡ to_eight (end + length new) = length-replicate (to_eight (end + length new)) 0 in
    let there : behind' ≡ behind (padded end new) = omega arith in
    let t : nat_lt (places l) (length es) ≡ true = grind (arith, nat_tests) in
    there ∙ sym (ap (λ q. cond q (behind (padded end new)) end) t)

pub end_same : (l : LogEnd) (end n : ℕ) (es : List Entry) → n ≡ length es → n ≤ places l → end ≡ end_then l end es
unfolding end_then
end_same l end n es k h =
    let t : nat_lt (places l) (length es) ≡ false = grind (arith, nat_tests) in
    sym (ap (λ q. cond q (behind (padded end (new_log_fragment (drop (places l) es)))) end) t)
