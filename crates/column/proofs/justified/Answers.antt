-- The digits from the right, until none is left.
use Rattle.std.proofs.Common.{rules, ◌∙◌, arith}
use Rattle.column.proofs.Steps.{filled_all, fewer, first_digit, digit_more, blank_less}
use Rattle.column.proofs.justified.Goals as goal

pub loop-at-init : goal.loop-at-init
loop-at-init c = search (rules, filled_all)

pub loop-at-preserved : goal.loop-at-preserved
loop-at-preserved c =
    let i = c.loop-at.invariant in
    record {
      size = search rules;
      blank = blank_less _ _ c.loop-at-test.true (omega arith) i.blank _;
      digits_left = digit_more _ _ c.loop-at-test.true (omega arith) i.blank c.loop-at.left (omega arith) ∙ i.digits_left;
      fits = fewer c.loop-at.left c.loop-at.at c.loop-at-test.true i.fits;
      some = omega arith;
    }

pub returns-then-left-eq0 : goal.returns-then-left-eq0
returns-then-left-eq0 c =
    let i = c.loop-at.invariant in
    first_digit _ _ c.loop-at-test.true (omega arith) i.blank c.loop-at.left (omega arith) ∙ i.digits_left
