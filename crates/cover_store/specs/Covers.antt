-- A cover: any store without its first 512 × c bytes.
use Rattle.std.specs.Prelude.{ℕ, ◌+◌, ◌-◌, cond, List, [], ◌∷◌, length, ◌==◌, nat_le}
use Rattle.model.specs.Bytes.{Write, put}

-- the ceiling of a row without its first k bytes; a row under k has none left, and no room
abbrev pub cut_most : List ℕ → ℕ → ℕ → ℕ
cut_most row most k = cond (nat_le k (length row)) (most - k) 0

-- writes to a row without its first k bytes, as writes to the whole row; one of no bytes writes nothing
abbrev pub shifted : ℕ → List Write → List Write
shifted k [] = []
shifted k (w ∷ ws) = cond (length w.new == 0) (shifted k ws) (put (k + w.place) w.new ∷ shifted k ws)
