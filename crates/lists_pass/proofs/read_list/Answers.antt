use Rattle.std.proofs.Common.{[], ◌∷◌, ap, length, arith}
use Rattle.std.proofs.lemmas.List.{length-append}
use Rattle.lists_pass.proofs.ListWalks.{first_before, handed_on}
use Rattle.lists_pass.proofs.FirstSteps.{listed_full, listed_refused, listed_rest}
use Rattle.lists_pass.proofs.read_list.Goals as goal

pub returns-then-len-ge-MOST_LISTS-clause-answer : goal.returns-then-len-ge-MOST_LISTS-clause-answer
returns-then-len-ge-MOST_LISTS-clause-answer g c = λ less.
    listed_full _ _ _ _ _ _ _ _ (omega (arith, c.len.ensures)) (grind (arith, c.past_last-why.ensures, c.at.ensures.why, c.at.ensures.place, c.into.ensures))

pub returns-in_err-begun-clause-answer : goal.returns-in_err-begun-clause-answer
returns-in_err-begun-clause-answer g c =
    λ less. rw (handed_on c.from_residual.result _ c.from_residual.ensures.1) (listed_refused _ _ _ _ _ _ c.args.named _ (omega arith) c.in_err-begun.ensures.answer)

pub returns-clause-answer : goal.returns-clause-answer
returns-clause-answer g c =
    let b = c.in_ok-begun.ensures.begun in
    let t = c.begin_list.ensures in
    let taken = c.in_ok-begun.ensures.fragments in
    λ less. listed_rest _ _ _ _ _ _ _ _ _ _ c.args.named c.in_ok-begun.begun _ _ _ _ _ _ c.read_rest.result (omega arith) b c.in_ok-begun.ensures.answer
    (first_before _ _ _ _ taken b.first) t.lists t.queue t.pieces
    (c.read_rest.ensures.answer (omega (arith, less, ap length t.pieces, ap length taken, length-append c.args.room.now.fragments (c.args.named.span ∷ []))))
