-- Each entry is a step of the log's definition.
use Rattle.std.proofs.Common.{◌∙◌, arith}
use Rattle.log_pass.proofs.Refusing.{handed_on}
use Rattle.log_pass.proofs.Entries.{going_more, going_ends, going_wrong}
use Rattle.log_pass.proofs.read_entries.Goals as goal

pub returns-in_err-take_entry-clause-read : goal.returns-in_err-take_entry-clause-read
returns-in_err-take_entry-clause-read g c = λ k h.
    let w = c.loop-i.invariant.1 k h in
    let t = rw (c.at-entry.ensures.place, c.at-entry.ensures.entry) at (c.in_err-take_entry.ensures.takes w.to w.holds) in
    rw (handed_on c.from_residual.result _ c.from_residual.ensures.1)
    (going_wrong w _ (omega (arith, c.entries-i-end.ensures)) c.loop-i.invariant.0 c.loop-i.counts.held.0 t)

pub returns-then-branch-clause-read : goal.returns-then-branch-clause-read
returns-then-branch-clause-read g c = λ k h.
    let w = c.loop-i.invariant.1 k h in
    let t = rw (c.if-branch.true, c.at-entry.ensures.place, c.at-entry.ensures.entry) at (c.in_ok-take_entry.ensures.takes w.to w.holds) in
    going_ends w c.take_entry.new.counts c.take_entry.new.crc (omega (arith, c.entries-i-end.ensures)) t

pub loop-i-preserved : goal.loop-i-preserved
loop-i-preserved g c = (
  c.take_entry.ensures.room ∙ c.loop-i.invariant.0,
  λ k h.
      let w = c.loop-i.invariant.1 k h in
      let t = rw (c.if-branch.false, c.at-entry.ensures.place, c.at-entry.ensures.entry) at (c.in_ok-take_entry.ensures.takes w.to w.holds) in
      going_more w (omega (arith, c.entries-i-end.ensures)) t,
)
