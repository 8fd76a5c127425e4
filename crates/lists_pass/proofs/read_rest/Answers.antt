use Rattle.std.proofs.Common.{◌≡◌, ℕ, ◌<◌, Bool, true, false, cond, ltb, List, [], ◌∷◌, ◌++◌, length, refl, ap, arith}
use Rattle.std.proofs.lemmas.Bool.Decides.{nat_tests}
use Rattle.std.proofs.lemmas.List.{length-append}
use Rattle.tables.specs.declared.room.Row.{Row}
use Rattle.lists_pass.proofs.ListWalks.{listing_more, listing_whole, listing_bad, listing_refused, handed_on, taken_first}
use Rattle.lists_pass.proofs.read_rest.Goals as goal

-- a row is pushed, since there is room
pushed_row : (n : ℕ) (rows after : List Row) (row : Row) (b : Bool) → b ≡ ltb n 1024 → n < 1024 → after ≡ cond b (rows ++ (row ∷ [])) rows → after ≡ rows ++ (row ∷ [])
pushed_row n rows after row true e l s = s
pushed_row n rows after row false e l s = grind (arith, nat_tests)

pub returns-in_err-part-clause-answer : goal.returns-in_err-part-clause-answer
returns-in_err-part-clause-answer g c =
    λ less. rw (handed_on c.from_residual.result _ c.from_residual.ensures.1) (listing_bad (c.loop-sequence.invariant.4 less) c.in_err-part.ensures.answer)

pub returns-then-nodes-begun-clause-answer : goal.returns-then-nodes-begun-clause-answer
returns-then-nodes-begun-clause-answer g c =
    let i = c.loop-sequence.invariant in
    let room : length c.loop-sequence.room.lists < 1024 = omega (arith, ap length i.3, c.requires.room) in
    λ less.
    let l = i.4 less in
    let put = rw c.len-row.ensures at (c.put_piece.ensures (omega (arith, l.fewer, i.1))) in
    listing_whole l c.in_ok-part.ensures.answer (omega arith) (taken_first _ _ _ c.requires.held)
    (pushed_row _ _ _ _ _ c.push.ensures.room room c.push.ensures.items) i.3 refl put

pub returns-in_err-fragment-clause-answer : goal.returns-in_err-fragment-clause-answer
returns-in_err-fragment-clause-answer g c =
    let few = c.in_ok-part.ensures.few in
    λ less. rw (handed_on c.from_residual-in_err-fragment.result _ c.from_residual-in_err-fragment.ensures.1)
    (listing_refused (c.loop-sequence.invariant.4 less) c.in_ok-part.ensures.answer (omega arith) c.in_err-fragment.ensures.answer)

pub loop-sequence-preserved : goal.loop-sequence-preserved
loop-sequence-preserved g c =
    let i = c.loop-sequence.invariant in
    let few = c.in_ok-part.ensures.few in
    let (is, room, more) = c.in_ok-fragment.ensures.next in (
      omega arith,
      omega (arith, ap length more, length-append c.loop-sequence.room.fragments (c.in_ok-fragment.fragment.span ∷ []), room),
      i.2,
      i.3,
      λ less. let l = i.4 less in
          let put = rw c.len-row.ensures at (c.put_piece.ensures (omega (arith, l.fewer, i.1))) in
          listing_more l c.in_ok-part.ensures.answer (omega arith) is c.in_ok-fragment.ensures.answer more put,
    )
