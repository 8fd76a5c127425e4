-- The walk over the fragments.
use Rattle.std.proofs.Common.{◌-◌, ap₂, ◌∙◌, arith}
use Rattle.tables.specs.Misplacings.{log_misplaced}
use Rattle.log_pass.proofs.Refusing.{handed_on}
use Rattle.log_pass.proofs.Fragments.{walking_more, walking_ends, walking_wrong, walking_all}
use Rattle.log_pass.proofs.read_fragments.Goals as goal

pub returns-in_err-used-clause-log : goal.returns-in_err-used-clause-log
returns-in_err-used-clause-log g c =
    let w = c.loop-read.invariant.0 in
    rw (handed_on c.from_residual.result _ c.from_residual.ensures.1)
    (walking_wrong w _ _ (omega arith) c.loop-read.invariant.1 c.loop-read.counts.held.0
    (c.in_err-used.ensures.read (2047 - c.loop-read._read) w.to w.holds))

pub returns-in-Some-clause-log : goal.returns-in-Some-clause-log
returns-in-Some-clause-log g c =
    let w = c.loop-read.invariant.0 in
    let t = rw c.in-Some.is at (c.in_ok-used.ensures.read (2047 - c.loop-read._read) w.to w.holds) in
    walking_ends w _ _ _ c.read_fragment.new.counts c.read_fragment.new.crc (omega arith) (omega (arith, c.read_fragment.new.counts.held.0, c.read_fragment.ensures.room, c.loop-read.invariant.1)) t

pub loop-read-preserved : goal.loop-read-preserved
loop-read-preserved g c =
    let w = c.loop-read.invariant.0 in
    let t = rw c.in_default.is at (c.in_ok-used.ensures.read (2047 - c.loop-read._read) w.to w.holds) in
    (rw (c.span_at-span.ensures, c.next_field-field.ensures) (walking_more w (omega arith) t), c.read_fragment.ensures.room ∙ c.loop-read.invariant.1)

pub returns-clause-log : goal.returns-clause-log
returns-clause-log g c =
    walking_all c.loop-read.invariant.0 _ (omega arith) (omega (arith, c.loop-read.counts.held.0, c.loop-read.invariant.1)) _
    (c.into.ensures ∙ ap₂ log_misplaced (c.at.ensures.why ∙ c.past_last-why.ensures) c.at.ensures.place)
