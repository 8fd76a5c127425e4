-- One entry of the log: what it does to a log as far as it was read, and how that is then held.
use Rattle.std.proofs.Common.{◌≡◌, ℕ, suc, ◌+◌, ◌*◌, ◌/◌, ◌%◌, ◌^◌, ◌<◌, ◌≤◌, min, Bool, true, false, cond, eqb, leb, List, [], ◌∷◌, ◌++◌, length, get_or, take, drop, drop-cons, add-one, length-drop, zero, Ok, vec_items, vec_len, inl, inr, sym, refl, ap, ◌∙◌, ap₂, append_assoc, append-nil, add-zero, arith}
use lib.Bits.{bit_xor}
use Rattle.std.proofs.lemmas.List.{length_push, take_all, take-append-drop}
use Rattle.std.proofs.lemmas.Bool.{cases_Bool, le-leb, lt-leb, eq-eqb, ne_eqb, eqb-false}
use Rattle.model.specs.declared.types.Entry.{Entry}
use Rattle.model.specs.Bytes.{le, digits}
use Rattle.model.specs.Crc.{run, crc_of, crc_32}
use Rattle.model.specs.LogFragments.{entry, entry_at, entry_bytes}
use Rattle.model.specs.Section.{flat, latest}
use Rattle.model.specs.OpenedLog.{Reading, reading}
use Rattle.counts.specs.declared.table.Counts.{Counts}
use Rattle.counts.specs.Noted.{change, entries, noted, numbered}
use Rattle.counts.proofs.Numbered.{entries_numbered, numbered_note, numbered_finish}
use Rattle.crc.proofs.Rows.{run_end, run_append}
use Rattle.format.specs.Windows.{Window}
use Rattle.format.proofs.Fetched.{le_window}
use Rattle.crc.specs.declared.Crc.{Crc}
use Rattle.refusals.specs.declared.faults.LogFault.TheVariants as log
use Rattle.log_pass.specs.Logs.{ends, goes, met, Told}
use Rattle.log_pass.specs.LogSteps.{alone, places_at, Holds, Takes}

pub flat_push : (ts : List (List Entry)) (es : List Entry) → flat (ts ++ (es ∷ [])) ≡ flat ts ++ es
flat_push [] es = append-nil es
flat_push (t ∷ ts) es = ap (λ xs. t ++ xs) (flat_push ts es) ∙ sym (append_assoc t (flat ts) es)

bytes_push : (es : List Entry) (e : Entry) → entry_bytes (es ++ (e ∷ [])) ≡ entry_bytes es ++ entry_bytes (e ∷ [])
unfolding entry_bytes
bytes_push [] e = refl
bytes_push (x ∷ es) e =
    ap (λ xs. digits 4 x.source ++ (digits 4 x.number ++ xs)) (bytes_push es e)
    ∙ ap (λ xs. digits 4 x.source ++ xs) (sym (append_assoc (digits 4 x.number) (entry_bytes es) (entry_bytes (e ∷ []))))
    ∙ sym (append_assoc (digits 4 x.source) (digits 4 x.number ++ entry_bytes es) (entry_bytes (e ∷ [])))

module _ {count : ℕ} {t : Counts} {c : Crc} {k : Reading} (h : Holds count t c k) where
  counted : (id : ℕ) → noted (vec_items t.changes) id ≡ latest id 0 (flat k.transactions ++ k.pending)
  counted id =
      ap (latest id 0) (ap entries h.noted ∙ entries_numbered (k.transactions ++ (k.pending ∷ [])) 1 ∙ flat_push k.transactions k.pending)

  met_count : (p : ℕ) (e : Entry) → (e.source ≡ 1 → ⊥) → noted (vec_items t.changes) e.source < e.number
      → met count p e k ≡ goes (p ∷ []) (reading k.transactions (k.pending ++ (e ∷ [])))
  unfolding met
  met_count p e s l =
      let a : eqb e.source 1 ≡ false = ne_eqb e.source 1 s in
      let b : leb e.number (latest e.source 0 (flat k.transactions ++ k.pending)) ≡ false = lt-leb _ _ (omega (arith, counted e.source)) in
      rw (a, b)

  pub takes_backward : (p left : ℕ) (e : Entry) → (e.source ≡ 1 → ⊥) → e.number ≤ noted (vec_items t.changes) e.source
      → Told (alone (met count p e k)) (places_at (met count p e k)) left (log.Backward p)
  unfolding met
  takes_backward p left e s l =
      let a : eqb e.source 1 ≡ false = ne_eqb e.source 1 s in
      let b : leb e.number (latest e.source 0 (flat k.transactions ++ k.pending)) ≡ true = le-leb _ _ (omega (arith, counted e.source)) in
      rw (a, b) (refl, omega arith)

  pub takes_room : (p left : ℕ) (e : Entry) → (e.source ≡ 1 → ⊥) → noted (vec_items t.changes) e.source < e.number → left ≡ 0
      → (left < length (places_at (met count p e k))) × (p ≡ get_or (places_at (met count p e k)) left 0)
  takes_room p left e s l z = rw (met_count p e s l, z) (omega arith, refl)

  pub takes_count : {new : Counts} {is : Crc} (p : ℕ) (e : Entry) (bytes : List ℕ) → (e.source ≡ 1 → ⊥) → noted (vec_items t.changes) e.source < e.number
      → bytes ≡ entry_bytes (e ∷ []) → vec_items new.changes ≡ vec_items t.changes ++ (change (t.finished + 1) e.source e.number ∷ [])
      → vec_len new.changes ≡ vec_len t.changes + 1 → new.finished ≡ t.finished → is.register ≡ run crc_32 c.register bytes
      → Takes (met count p e k) count t new is (Ok false)
  takes_count p e bytes s l b d n q r =
      let z : t.finished + 1 ≡ 1 + length k.transactions = omega (arith, h.ended) in (
        reading k.transactions (k.pending ++ (e ∷ [])),
        p ∷ [],
        met_count p e s l,
        record {
          noted = d ∙ ap₂ (λ xs t. xs ++ (change t e.source e.number ∷ [])) h.noted z ∙ numbered_note k.transactions 1 k.pending e.source e.number;
          ended = q ∙ h.ended;
          under = h.under;
          summed = r ∙ ap₂ (run crc_32) h.summed b ∙ sym (run_append crc_32 crc_32.first (entry_bytes k.pending) (entry_bytes (e ∷ []))) ∙ ap (run crc_32 crc_32.first) (sym (bytes_push k.pending e));
        },
        n,
      )

  crc_held : bit_xor c.register crc_32.last ≡ crc_of crc_32 (entry_bytes k.pending)
  unfolding crc_of
  crc_held = ap (λ x. bit_xor x crc_32.last) h.summed

  pub takes_sum : (p left sum d : ℕ) → d ≡ bit_xor c.register crc_32.last → (d ≡ sum → ⊥)
      → Told (alone (met count p (entry 1 sum) k)) (places_at (met count p (entry 1 sum) k)) left (log.Sum p)
  unfolding met
  takes_sum p left sum d q n =
      let a : eqb sum (crc_of crc_32 (entry_bytes k.pending)) ≡ false = ne_eqb _ _ (λ e. n (q ∙ crc_held ∙ sym e)) in
      rw a (refl, omega arith)

  met_sentinel : (p sum d : ℕ) → d ≡ bit_xor c.register crc_32.last → d ≡ sum
      → met count p (entry 1 sum) k ≡ cond (eqb (length (k.transactions ++ (k.pending ∷ []))) count) (ends (k.transactions ++ (k.pending ∷ []))) (goes [] (reading (k.transactions ++ (k.pending ∷ [])) []))
  unfolding met
  met_sentinel p sum d q e =
      let a : eqb sum (crc_of crc_32 (entry_bytes k.pending)) ≡ true = eq-eqb _ _ (sym e ∙ q ∙ crc_held) in
      rw a

  pub takes_sentinel : (new : Counts) (is : Crc) (p sum d : ℕ) → d ≡ bit_xor c.register crc_32.last → d ≡ sum → (ended : Bool)
      → count < 2 ^ 32 → new.changes ≡ t.changes → new.finished ≡ min (t.finished + 1) (2 ^ 63) → is.register ≡ crc_32.first → ended ≡ eqb new.finished count
      → Takes (met count p (entry 1 sum) k) count t new is (Ok ended)
  unfolding entry_bytes
  takes_sentinel new is p sum d q v ended b s z r a =
      let ts = k.transactions ++ (k.pending ∷ []) in
      let l : new.finished ≡ length ts = omega (arith, h.ended, h.under, length_push k.transactions k.pending) in
      let m = met_sentinel p sum d q v in
      let noted : vec_items new.changes ≡ numbered 1 ts = ap vec_items s ∙ h.noted in
      elim (cases_Bool (eqb (length ts) count)) [
        | inl e ↦ let t' : ended ≡ true = a ∙ ap (λ x. eqb x count) l ∙ e in rw t' (ts, m ∙ rw e, noted, l, ap vec_len s)
        | inr e ↦
            let t' : ended ≡ false = a ∙ ap (λ x. eqb x count) l ∙ e in
            rw t' (
              reading ts [],
              [],
              m ∙ rw e,
              record {
                noted = noted ∙ sym (numbered_finish ts 1);
                ended = l;
                under = omega (arith, h.under, length_push k.transactions k.pending, eqb-false (length ts) count e);
                summed = r ∙ sym (run_end crc_32 crc_32.first);
              },
              ap vec_len s ∙ omega arith,
            )
      ]

-- the eight bytes of an entry, and its two numbers
digits_more : (n a m : ℕ) → a < 256 → digits (suc n) (a + 256 * m) ≡ a ∷ digits n m
unfolding digits
digits_more n a m h =
    let e : (a + 256 * m) % 256 ≡ a = omega arith in
    let f : (a + 256 * m) / 256 ≡ m = omega arith in
    ap₂ (λ x y. x ∷ digits n y) e f

digits_le : (n p : ℕ) (xs : List ℕ) → p + n ≤ length xs → ((i : ℕ) → i < length xs → get_or xs i 0 < 256) → digits n (le n xs p) ≡ take n (drop p xs)
unfolding digits le
digits_le zero p xs l b = refl
digits_le (suc n) p xs l b =
    digits_more n (get_or xs p 0) (le n xs (p + 1)) (b p (omega arith)) ∙ ap (λ ys. get_or xs p 0 ∷ ys) (digits_le n (p + 1) xs (omega arith) b)
    ∙ rw (drop-cons xs p 0 (omega arith), add-one)

eight : (xs : List ℕ) → length xs ≡ 8 → ((i : ℕ) → i < length xs → get_or xs i 0 < 256) → xs ≡ entry_bytes (entry (le 4 xs 0) (le 4 xs 4) ∷ [])
unfolding entry_bytes
eight xs e b =
    let d : take 4 (drop 4 xs) ≡ drop 4 xs = take_all 4 (drop 4 xs) (omega (arith, length-drop 4 xs)) in
    rw (digits_le 4 0 xs (omega arith) b, digits_le 4 4 xs (omega arith) b, d, append-nil) (sym (take-append-drop 4 xs))

module _ (row buffer : List ℕ) (p : ℕ) (w : Window row p buffer) (l : length buffer ≡ 8) (s n : ℕ) (is_s : s ≡ le 4 buffer 0) (is_n : n ≡ le 4 buffer 4) where
  pub entry_window : entry s n ≡ entry_at row p
  entry_window =
      ap₂ entry
      (is_s ∙ le_window 4 row buffer p 0 w (omega arith) ∙ ap (le 4 row) (add-zero p))
      (is_n ∙ le_window 4 row buffer p 4 w (omega arith))

  pub bytes_window : ((i : ℕ) → get_or row i 0 < 256) → buffer ≡ entry_bytes (entry s n ∷ [])
  bytes_window b =
      eight buffer l (λ i h. omega (arith, w i (omega arith), b (p + i)))
      ∙ ap₂ (λ x y. entry_bytes (entry x y ∷ [])) (sym is_s) (sym is_n)
