-- A row of bytes: the numbers in it, what one write and a list of writes leave of it, and where two rows agree.
use Rattle.std.specs.Prelude.{◌≡◌, ℕ, zero, suc, ◌+◌, ◌*◌, ◌/◌, ◌%◌, ◌<◌, ◌≤◌, Bool, true, false, ◌&&◌, List, [], ◌∷◌, ◌++◌, length, take, drop, ◌==◌, slice_index}
use Rattle.std.specs.List.{AllByRecursion}

-- the number of n bytes at p, the lowest byte first; a byte past the end counts as 0
unfoldable pub le : ℕ → List ℕ → ℕ → ℕ
le zero b p = 0
le (suc n) b p = slice_index b p + 256 * le n b (p + 1)

-- the n lowest bytes of a number, the lowest first
unfoldable pub digits : ℕ → ℕ → List ℕ
digits zero v = []
digits (suc n) v = (v % 256) ∷ digits n (v / 256)

-- the n bytes from p on
unfoldable pub piece : List ℕ → ℕ → ℕ → List ℕ
piece b p n = take n (drop p b)

-- two rows of bytes are equal
unfoldable pub same_row : List ℕ → List ℕ → Bool
same_row [] [] = true
same_row [] (y ∷ ys) = false
same_row (x ∷ xs) [] = false
same_row (x ∷ xs) (y ∷ ys) = x == y && same_row xs ys

-- one write: the bytes `new` go to `place` and on
pub record Write : Type 0 where
  pub place : ℕ
  pub new : List ℕ

abbrev pub put : ℕ → List ℕ → Write
put p new = record { place = p; new = new }

-- b with `new` from p on: bytes are replaced, and past the end added
unfoldable pub written : List ℕ → ℕ → List ℕ → List ℕ
written b p new = take p b ++ (new ++ drop (p + length new) b)

-- b after a list of writes, the first one first
unfoldable pub applied : List ℕ → List Write → List ℕ
applied b [] = b
applied b (w ∷ ws) = applied (written b w.place w.new) ws

-- the place behind a write's last byte
abbrev pub behind : Write → ℕ
behind w = w.place + length w.new

-- each number of a row is a byte
abbrev pub Bytes : List ℕ → Type 0
Bytes b = AllByRecursion (λ x. x < 256) b

-- two rows have the same bytes from lo up to hi
abbrev pub Same : List ℕ → List ℕ → ℕ → ℕ → Type 0
Same b c lo hi = (i : ℕ) → lo ≤ i → i < hi → slice_index b i ≡ slice_index c i
