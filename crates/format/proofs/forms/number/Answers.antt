use Rattle.std.proofs.Common.{◌≡◌, ◌∙◌, ◌++◌, length, drop, replicate, arith}
use Rattle.std.proofs.lemmas.List.{places}
use Rattle.model.specs.Bytes.{le}
use Rattle.format.proofs.Fetched.{le_padded}
use Rattle.format.proofs.Numbers.{le_lt}
use Rattle.format.proofs.forms.number.Goals as goal

pub returns : goal.returns
unfolding le
returns c =
    let bytes = c.args.bytes.now in
    let eight = c.copy_from_slice.new.self ++ drop (length bytes) (replicate 8 0) in
    let e : c.from_le_bytes.result ≡ le 8 eight 0 = omega (arith, c.from_le_bytes.ensures) in
    let v : c.from_le_bytes.result ≡ le (length bytes) bytes 0 = e ∙ le_padded 8 (length bytes) eight bytes 0 0 c.requires (λ i l. grind (arith, places)) (λ i h l. grind (arith, places)) in
    record { value = v; bound = omega (arith, v, le_lt (length bytes) bytes 0 (λ i. omega (arith, c.type_inv.bytes i))) }
