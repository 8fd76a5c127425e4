-- What writes leave of a row: its length, the bytes outside them, and that it stays a row of bytes.
use Rattle.std.proofs.Common.{◌≡◌, ℕ, ◌+◌, ◌<◌, ◌≤◌, max, ◌⊎◌, List, [], ◌∷◌, ◌++◌, length, get_or, take, drop, refl, ap, ◌∙◌, inl, inr, arith}
use Rattle.std.specs.List.{AllByRecursion}
use Rattle.std.proofs.ByRecursion.{All-append, All-take, All-drop}
use Rattle.model.specs.Bytes.{Write, written, applied, behind, Bytes}
use Rattle.model.specs.Laws.{Taken}
use Rattle.commits.proofs.Store.{length_written, written_below, written_above}

-- ---- one write

-- a place is outside a write
abbrev pub Outside : ℕ → Write → Type 0
Outside i w = (i < w.place) ⊎ (behind w ≤ i)

written_outside : (b : List ℕ) (w : Write) (i : ℕ) → w.place ≤ length b → Outside i w → get_or (written b w.place w.new) i 0 ≡ get_or b i 0
written_outside b w i h (inl x) = written_below b w.place w.new i h x
written_outside b w i h (inr x) = written_above b w.place w.new i h x

pub written_bytes : (b : List ℕ) (p : ℕ) (new : List ℕ) → Bytes b → Bytes new → Bytes (written b p new)
unfolding written
written_bytes b p new h k =
    All-append (λ x. x < 256) (take p b) (new ++ drop (p + length new) b) (All-take (λ x. x < 256) p b h)
    (All-append (λ x. x < 256) new (drop (p + length new) b) k (All-drop (λ x. x < 256) (p + length new) b h))

-- ---- a list of writes

-- how long a row of length n then is
abbrev pub length_after : ℕ → List Write → ℕ
length_after n [] = n
length_after n (w ∷ ws) = length_after (max n (behind w)) ws

pub length_after_append : (n : ℕ) (ws vs : List Write) → length_after n (ws ++ vs) ≡ length_after (length_after n ws) vs
length_after_append n [] vs = refl
length_after_append n (w ∷ ws) vs = length_after_append (max n (behind w)) ws vs

pub length_rises : (n : ℕ) (ws : List Write) → n ≤ length_after n ws
length_rises n [] = omega arith
length_rises n (w ∷ ws) = let k = length_rises (max n (behind w)) ws in omega arith

pub taken_append : (n ceiling : ℕ) (ws vs : List Write) → Taken n ceiling ws → Taken (length_after n ws) ceiling vs → Taken n ceiling (ws ++ vs)
taken_append n ceiling [] vs f g = g
taken_append n ceiling (w ∷ ws) vs (x, y, f) g = (x, y, taken_append (max n (behind w)) ceiling ws vs f g)

pub taken_front : (n ceiling : ℕ) (ws vs : List Write) → Taken n ceiling (ws ++ vs) → Taken n ceiling ws
taken_front n ceiling [] vs f = tt
taken_front n ceiling (w ∷ ws) vs (x, y, f) = (x, y, taken_front (max n (behind w)) ceiling ws vs f)

pub length_applied : (b : List ℕ) (ceiling : ℕ) (ws : List Write) → Taken (length b) ceiling ws → length (applied b ws) ≡ length_after (length b) ws
unfolding applied
length_applied b ceiling [] t = refl
length_applied b ceiling (w ∷ ws) t =
    let l = length_written b w.place w.new t.0 in
    length_applied (written b w.place w.new) ceiling ws (rw l t.2) ∙ ap (λ n. length_after n ws) l

pub applied_outside : (b : List ℕ) (ceiling : ℕ) (ws : List Write) (i : ℕ) → Taken (length b) ceiling ws → AllByRecursion (Outside i) ws → get_or (applied b ws) i 0 ≡ get_or b i 0
unfolding applied
applied_outside b ceiling [] i t o = refl
applied_outside b ceiling (w ∷ ws) i t o =
    let l = length_written b w.place w.new t.0 in
    applied_outside (written b w.place w.new) ceiling ws i (rw l t.2) o.1 ∙ written_outside b w i t.0 o.0

pub applied_bytes : (b : List ℕ) (ws : List Write) → Bytes b → AllByRecursion (λ w. Bytes w.new) ws → Bytes (applied b ws)
unfolding applied
applied_bytes b [] h k = h
applied_bytes b (w ∷ ws) h k = applied_bytes (written b w.place w.new) ws (written_bytes b w.place w.new h k.0) k.1
