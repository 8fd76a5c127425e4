-- The header after a commit's last write: the new fields, and the others as they were.
use Rattle.std.proofs.Common.{◌≡◌, ℕ, ◌+◌, ◌^◌, ◌<◌, ◌≤◌, List, [], ◌∷◌, length, get_or, take, sym, ap, ◌∙◌, inl, inr, arith}
use Rattle.std.proofs.lemmas.List.{length-take, get_or-take}
use Rattle.model.specs.declared.types.Header.{Header}
use Rattle.model.specs.Bytes.{le, digits, piece, written, applied, Same}
use Rattle.model.specs.References.{span_at}
use Rattle.model.specs.Headers.{header_at}
use Rattle.model.specs.Means.{Headed}
use Rattle.model.specs.Committing.{header_write}
use Rattle.commits.specs.Stored.{Stored}
use Rattle.commits.proofs.Sizes.{length_digits}
use Rattle.commits.proofs.Store.{length_written, written_at, same_written, stored_written, stored_same, four_stored, eight_stored, piece_stored}
use Rattle.meaning.proofs.Frames.{le_in, piece_in}
use Rattle.meaning.proofs.Local.{span_local}

-- the header's first 512 bytes with the four fields written
abbrev one : List ℕ → ℕ → List ℕ
one c count = written c 0x60 (digits 4 count)

abbrev two : List ℕ → ℕ → ℕ → List ℕ
two c count end = written (one c count) 0xC4 (digits 8 end)

abbrev three : List ℕ → ℕ → ℕ → List ℕ → List ℕ
three c count end guid = written (two c count end) 0xD4 guid

abbrev four : List ℕ → ℕ → ℕ → List ℕ → ℕ → List ℕ
four c count end guid generation = written (three c count end guid) 0xE4 (digits 8 generation)

-- the four fields, and the lengths
pub record Fields (n : List ℕ) (c : List ℕ) (count end : ℕ) (guid : List ℕ) (generation : ℕ) : Type 0 where
  pub whole : length n ≡ 512
  pub counts : Stored n 0x60 (digits 4 count)
  pub ends : Stored n 0xC4 (digits 8 end)
  pub versions : Stored n 0xD4 guid
  pub generations : Stored n 0xE4 (digits 8 generation)
  pub before : Same c n 0 0x60
  pub between : Same c n 0x64 0xC4

fields : (c : List ℕ) (count end : ℕ) (guid : List ℕ) (generation : ℕ) → length c ≡ 512 → length guid ≡ 16 → Fields (four c count end guid generation) c count end guid generation
fields c count end guid generation l g =
    let d4 = length_digits 4 count in
    let d8 = length_digits 8 end in
    let d9 = length_digits 8 generation in
    let c1 = one c count in
    let c2 = two c count end in
    let c3 = three c count end guid in
    let c4 = four c count end guid generation in
    let l1 : length c1 ≡ 512 = length_written c 0x60 (digits 4 count) (omega arith) ∙ omega arith in
    let l2 : length c2 ≡ 512 = length_written c1 0xC4 (digits 8 end) (omega arith) ∙ omega arith in
    let l3 : length c3 ≡ 512 = length_written c2 0xD4 guid (omega arith) ∙ omega arith in
    let l4 : length c4 ≡ 512 = length_written c3 0xE4 (digits 8 generation) (omega arith) ∙ omega arith in
    let s1 = same_written c 0x60 (digits 4 count) 0 0x60 (omega arith) (inl (omega arith)) in
    let s1' = same_written c 0x60 (digits 4 count) 0x64 0xC4 (omega arith) (inr (omega arith)) in
    let s2 = same_written c1 0xC4 (digits 8 end) 0 0xC4 (omega arith) (inl (omega arith)) in
    let s3 = same_written c2 0xD4 guid 0 0xD4 (omega arith) (inl (omega arith)) in
    let s4 = same_written c3 0xE4 (digits 8 generation) 0 0xE4 (omega arith) (inl (omega arith)) in
    let t2 : Same c1 c4 0 0xC4 = λ i x y. s2 i x y ∙ s3 i x (omega arith) ∙ s4 i x (omega arith) in
    let t3 : Same c2 c4 0 0xD4 = λ i x y. s3 i x y ∙ s4 i x (omega arith) in
    record {
      whole = l4;
      counts = stored_same c1 c4 0x60 (digits 4 count) (λ i x y. t2 i (omega arith) (omega arith)) (omega arith) (stored_written c 0x60 (digits 4 count) (omega arith));
      ends = stored_same c2 c4 0xC4 (digits 8 end) (λ i x y. t3 i (omega arith) (omega arith)) (omega arith) (stored_written c1 0xC4 (digits 8 end) (omega arith));
      versions = stored_same c3 c4 0xD4 guid (λ i x y. s4 i (omega arith) (omega arith)) (omega arith) (stored_written c2 0xD4 guid (omega arith));
      generations = stored_written c3 0xE4 (digits 8 generation) (omega arith);
      before = λ i x y. s1 i x y ∙ t2 i x (omega arith);
      between = λ i x y. s1' i x y ∙ t2 i (omega arith) y;
    }

-- the write has 512 bytes
pub head_length : (b : List ℕ) (h : Header) (end : ℕ) (guid : List ℕ) → 1024 ≤ length b → length guid ≡ 16 → length (header_write b h end guid).new ≡ 512
unfolding applied
head_length b h end guid l g = (fields (take 512 b) (h.count + 1) end guid (h.generation + 1) (length-take 512 b ∙ omega arith) g).whole

-- the bytes behind them stay, and so does the length
pub head_rest : (b : List ℕ) (h : Header) (end : ℕ) (guid : List ℕ) → 1024 ≤ length b → length guid ≡ 16
    → (length (applied b (header_write b h end guid ∷ [])) ≡ length b) × ((hi : ℕ) → Same b (applied b (header_write b h end guid ∷ [])) 512 hi)
unfolding applied
head_rest b h end guid l g =
    let w = head_length b h end guid l g in
    (length_written b 0 _ (omega arith) ∙ omega arith, λ hi. same_written b 0 _ 512 hi (omega arith) (inr (omega arith)))

front_at : (b n : List ℕ) (i : ℕ) → i < length n → get_or (written b 0 n) i 0 ≡ get_or n i 0
front_at b n i l = written_at b 0 n i (omega arith) (omega arith) (omega arith) ∙ ap (λ k. get_or n k 0) (omega arith)

front : (b n : List ℕ) (p : ℕ) (xs : List ℕ) → length n ≤ length b → Stored n p xs → Stored (written b 0 n) p xs
front b n p xs l o = record {
  bytes = λ i k. front_at b n (p + i) (omega (arith, o.fits)) ∙ o.bytes i k;
  fits = omega (arith, o.fits, length_written b 0 n (omega arith));
}

front_same : (b n : List ℕ) (lo hi : ℕ) → length n ≡ 512 → 1024 ≤ length b → hi ≤ 512 → Same (take 512 b) n lo hi → Same b (written b 0 n) lo hi
front_same b n lo hi e l k s i x y = sym (get_or-take 512 b i 0 (omega arith)) ∙ s i x y ∙ sym (front_at b n i (omega arith))

abbrev pub headed : Header → ℕ → List ℕ → Header
headed h end guid = record { count = h.count + 1; end = end; generation = h.generation + 1; version = guid; hashed = h.hashed; log = h.log; root = h.root }

pub header_back : (b : List ℕ) (h : Header) (end : ℕ) (guid : List ℕ) → Headed b h → length guid ≡ 16 → h.count + 1 < 2 ^ 32 → h.generation + 1 < 2 ^ 64 → 1024 ≤ end → end ≤ 2 ^ 40 → end ≤ length b
    → Headed (applied b (header_write b h end guid ∷ [])) (headed h end guid)
unfolding applied
header_back b h end guid m g x y z w u =
    let whole = m.whole in
    let t : length (take 512 b) ≡ 512 = length-take 512 b ∙ omega arith in
    let f = fields (take 512 b) (h.count + 1) end guid (h.generation + 1) t g in
    let n : List ℕ = four (take 512 b) (h.count + 1) end guid (h.generation + 1) in
    let c : List ℕ = written b 0 n in
    let lc : length c ≡ length b = length_written b 0 n (omega arith) ∙ omega (arith, f.whole) in
    let s : Same b c 0 0x60 = front_same b n 0 0x60 f.whole whole (omega arith) f.before in
    let r : Same b c 0x64 0xC4 = front_same b n 0x64 0xC4 f.whole whole (omega arith) f.between in
    let e1 : le 4 c 0x60 ≡ h.count + 1 = four_stored c 0x60 (h.count + 1) x (front b n 0x60 _ (omega (arith, f.whole)) f.counts) in
    let e2 : le 8 c 0xC4 ≡ end = eight_stored c 0xC4 end (omega arith) (front b n 0xC4 _ (omega (arith, f.whole)) f.ends) in
    let e3 : le 8 c 0xE4 ≡ h.generation + 1 = eight_stored c 0xE4 (h.generation + 1) y (front b n 0xE4 _ (omega (arith, f.whole)) f.generations) in
    let e4 : piece c 0xD4 16 ≡ guid = rw g at (piece_stored c 0xD4 guid (front b n 0xD4 _ (omega (arith, f.whole)) f.versions)) in
    let q : h ≡ header_at b = m.fields in
    let a1 : h.hashed ≡ span_at c 0x94 = ap (λ (k : Header). k.hashed) q ∙ span_local b c 0x64 0xC4 0x94 r (omega arith) (omega arith) in
    let a2 : h.log ≡ span_at c 0xA0 = ap (λ (k : Header). k.log) q ∙ span_local b c 0x64 0xC4 0xA0 r (omega arith) (omega arith) in
    let a3 : h.root ≡ span_at c 0xAC = ap (λ (k : Header). k.root) q ∙ span_local b c 0x64 0xC4 0xAC r (omega arith) (omega arith) in
    record {
      fields = rw (e1, e2, e3, e4, a1, a2, a3);
      whole = omega arith;
      stored = omega arith;
      least = z;
      most = w;
      type = sym (piece_in b c 0 0x60 0 16 s (omega arith) (omega arith) (omega arith) (omega arith)) ∙ m.type;
      format = sym (piece_in b c 0 0x60 0x30 16 s (omega arith) (omega arith) (omega arith) (omega arith)) ∙ m.format;
      readable = rw (← le_in 4 b c 0 0x60 0x4C s (omega arith) (omega arith)) m.readable;
      counts = omega arith;
    }
