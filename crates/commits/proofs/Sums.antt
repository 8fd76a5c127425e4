-- A sentinel's number takes 4 bytes.
use Rattle.std.proofs.Common.{ℕ, zero, suc, ◌/◌, ◌%◌, ◌^◌, ◌<◌, eqb, List, [], ◌∷◌, ◌++◌, inl, inr, arith}
use lib.Bits.{bit_xor, xor_lt}
use Rattle.std.specs.List.{AllByRecursion}
use Rattle.std.proofs.lemmas.Bool.{cases_Bool}
use Rattle.std.proofs.ByRecursion.{All-append}
use Rattle.model.specs.declared.types.Entry.{Entry}
use Rattle.model.specs.Bytes.{digits, Bytes}
use Rattle.model.specs.Crc.{stepped, steps, fed, run, crc_of, crc_32}
use Rattle.model.specs.LogFragments.{entry_bytes, sentinel}
use Rattle.model.specs.Means.{closed}
use Rattle.commits.proofs.FragmentBack.{Small}

stepped_small : (r : ℕ) → r < 2 ^ 32 → stepped crc_32 r < 2 ^ 32
stepped_small r h = elim (cases_Bool (eqb (r % 2) 1)) [
  | inl e ↦ rw e (xor_lt 32 (r / 2) 0xEDB88320 (omega arith) (omega arith))
  | inr e ↦ rw e (omega arith)
]

steps_small : (n r : ℕ) → r < 2 ^ 32 → steps crc_32 n r < 2 ^ 32
unfolding steps
steps_small zero r h = h
steps_small (suc n) r h = steps_small n (stepped crc_32 r) (stepped_small r h)

run_small : (bs : List ℕ) (r : ℕ) → Bytes bs → r < 2 ^ 32 → run crc_32 r bs < 2 ^ 32
unfolding run fed
run_small [] r a h = h
run_small (b ∷ bs) r (x, a) h = run_small bs (steps crc_32 8 (bit_xor r b)) a (steps_small 8 (bit_xor r b) (xor_lt 32 r b h (omega arith)))

pub crc_small : (bs : List ℕ) → Bytes bs → crc_of crc_32 bs < 2 ^ 32
unfolding crc_of
crc_small bs a = xor_lt 32 (run crc_32 0xFFFFFFFF bs) 0xFFFFFFFF (run_small bs 0xFFFFFFFF a (omega arith)) (omega arith)

pub digits_bytes : (n v : ℕ) → Bytes (digits n v)
unfolding digits
digits_bytes zero v = tt
digits_bytes (suc n) v = (omega arith, digits_bytes n (v / 256))

pub entries_bytes : (es : List Entry) → Bytes (entry_bytes es)
unfolding entry_bytes
entries_bytes [] = tt
entries_bytes (e ∷ es) = All-append (λ x. x < 256) (digits 4 e.source) (digits 4 e.number ++ entry_bytes es) (digits_bytes 4 e.source)
    (All-append (λ x. x < 256) (digits 4 e.number) (entry_bytes es) (digits_bytes 4 e.number) (entries_bytes es))

pub sentinel_small : (es : List Entry) → (sentinel es).number < 2 ^ 32
sentinel_small es = crc_small (entry_bytes es) (entries_bytes es)

-- a transaction with its sentinel
pub closed_small : (t : List Entry) → AllByRecursion Small t → AllByRecursion Small (closed t)
closed_small t a = All-append Small t (sentinel t ∷ []) a ((omega arith, sentinel_small t), tt)
