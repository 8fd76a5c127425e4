-- One name more in a queue that holds the first 1,025 of all.
use Rattle.std.proofs.Common.{◌≡◌, ℕ, Bool, true, false, cond, ltb, List, [], ◌∷◌, ◌++◌, length, take, min, sym, ap, ◌∙◌, append_assoc, append-nil, arith}
use Rattle.std.proofs.lemmas.Grind.{common_steps}
use Rattle.std.proofs.lemmas.Bool.Decides.{nat_tests}
use Rattle.std.proofs.lemmas.List.{map-append, length-map, length-take, length-append, take-append-le, take_all}
use Rattle.model.specs.declared.types.Span.{Span}
use Rattle.tables.specs.declared.queue.Named.{Named}
use Rattle.tables.specs.Queues.{pair_of, Names}

-- a name that is pushed where there is room for it
pub name_pushed : (q after : List Named) (x : Named) (n : ℕ) (b : Bool) → n ≡ length q → b ≡ ltb n 1025 → after ≡ cond b (q ++ (x ∷ [])) q → Names q (pair_of x ∷ []) after
name_pushed q after x n b l t e all h =
    let more = pair_of x ∷ [] in
    let k : length q ≡ min 1025 (length all) = simp (length-map, length-take) at (ap length h) in
    grind (arith, nat_tests, common_steps, map-append pair_of q (x ∷ []), length-append all more, take_all 1025 all, take_all 1025 (all ++ more), take-append-le 1025 all more)

pub names_none : (q : List Named) → Names q [] q
names_none q all h = h ∙ ap (take 1025) (sym (append-nil all))

pub names_more : (q r s : List Named) (xs ys : List (ℕ × Span)) → Names q xs r → Names r ys s → Names q (xs ++ ys) s
names_more q r s xs ys f g all h = g (all ++ xs) (f all h) ∙ ap (take 1025) (append_assoc all xs ys)

-- a name that goes in by a test
pub named_then : (t : Bool) (q r : List Named) (x : ℕ × Span) → true ≡ t → Names q (x ∷ []) r → Names q (cond t (x ∷ []) []) r
named_then t q r x e n = rw (← e) n

pub named_else : (t : Bool) (q : List Named) (x : ℕ × Span) → false ≡ t → Names q (cond t (x ∷ []) []) q
named_else t q x e = rw (← e) (names_none q)
