-- The write of the first 512 bytes: it has 512 bytes, at the place 0.
use Rattle.std.proofs.Common.{◌≡◌, ℕ, ◌+◌, ◌<◌, ◌≤◌, List, [], ◌∷◌, length, take, refl}
use Rattle.std.specs.List.{AllByRecursion}
use Rattle.std.proofs.ByRecursion.{All-take}
use Rattle.model.specs.declared.types.Header.{Header}
use Rattle.model.specs.Bytes.{digits, Write, put, Bytes}
use Rattle.model.specs.Committing.{header_write}
use Rattle.model.specs.Cuts.{WritesHeader}
use Rattle.lasting.proofs.Rows.{applied_bytes}
use Rattle.commits.proofs.Sums.{digits_bytes}
use Rattle.commits.proofs.HeadBack.{head_length}

module _ (b : List ℕ) (h : Header) (end : ℕ) (guid : List ℕ) where
  -- the four fields that change
  abbrev changes : List Write
  changes =
      put 0x60 (digits 4 (h.count + 1))
      ∷ put 0xC4 (digits 8 end)
      ∷ put 0xD4 guid
      ∷ put 0xE4 (digits 8 (h.generation + 1))
      ∷ []

  pub header_bytes : Bytes b → Bytes guid → Bytes (header_write b h end guid).new
  header_bytes x y =
      let each : AllByRecursion (λ w. Bytes w.new) changes = (digits_bytes 4 (h.count + 1), (digits_bytes 8 end, (y, (digits_bytes 8 (h.generation + 1), tt)))) in
      applied_bytes (take 512 b) changes (All-take (λ n. n < 256) 512 b x) each

  pub writes_header : 1024 ≤ length b → length guid ≡ 16 → WritesHeader (header_write b h end guid)
  writes_header l g = (refl, head_length b h end guid l g)
