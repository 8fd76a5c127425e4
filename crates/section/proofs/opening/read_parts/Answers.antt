use Rattle.std.proofs.Common.{vec_items, ap, ◌∙◌, arith}
use Rattle.model.specs.Headers.{header_at}
use Rattle.model.specs.References.{span}
use Rattle.model.specs.Section.{last_of}
use Rattle.counts.specs.declared.table.Counts.{Counts}
use Rattle.refusals.specs.declared.faults.OpenFault.TheVariants as opening
use Rattle.refusals.specs.Refusals.{header_told}
use Rattle.section.proofs.Joined.{header_refused}
use Rattle.section.proofs.Filled.{reads_err, log_err, lists_err, data_err, reads_as}
use Rattle.section.proofs.opening.read_parts.Goals as goal

pub returns-in_err-checked-clause-file : goal.returns-in_err-checked-clause-file
returns-in_err-checked-clause-file g c =
    reads_err _ _ _ _ c.from_residual.result (opening.Header c.in_err-checked.field-0.0) c.from_residual.ensures.1
    (header_refused _ (header_at (g.S.Store.bytes c.args.store.now)) _ (header_told c.in_err-checked.field-0.0) c.in_err-checked.ensures)
    (λ l. c.requires)

pub returns-in_err-used-clause-file : goal.returns-in_err-used-clause-file
returns-in_err-used-clause-file g c =
    log_err _ _ _ _ c.read_log.new.room _ c.in_err-used.field-0.0 c.from_residual-in_err-used.ensures.1 c.in_ok-checked.ensures c.in_err-used.ensures.log

pub returns-in_err-read_lists-clause-file : goal.returns-in_err-read_lists-clause-file
returns-in_err-read_lists-clause-file g c =
    lists_err _ _ _ _ _ _ _ c.in_ok-checked.ensures c.in_ok-used.ensures.log _ _ c.read_log.ensures.lists c.read_log.ensures.queue _ c.read_lists.new.room _ c.in_err-read_lists.field-0.0
    c.from_residual-in_err-read_lists.ensures.1 c.in_err-read_lists.ensures.answer

pub returns-in_err-check_data-clause-file : goal.returns-in_err-check_data-clause-file
returns-in_err-check_data-clause-file g c =
    data_err _ _ _ _ _ _ _ c.in_ok-checked.ensures c.in_ok-used.ensures.log _ _ c.read_log.ensures.lists c.read_log.ensures.queue _ c.read_lists.new.room c.in_ok-read_lists.ensures.answer
    _ c.in_err-check_data.field-0.0 c.from_residual-in_err-check_data.ensures.1 c.in_err-check_data.ensures

pub returns-clause-file : goal.returns-clause-file
returns-clause-file g c =
    reads_as _ _ _ _ _ _ _ c.in_ok-checked.ensures c.in_ok-used.ensures.log _ _ c.read_log.ensures.lists c.read_log.ensures.queue c.args.mark c.read_lists.new.room c.in_ok-read_lists.ensures.answer
    (ap (λ (x : Counts). vec_items x.changes) c.read_lists.ensures.counts) (ap (λ (x : Counts). x.finished) c.read_lists.ensures.counts) c.in_ok-check_data.ensures _ _ _ _
    (c.last_of-fragment.ensures ∙ ap (last_of (span 0 0)) c.as_slice.ensures.spans) (omega (arith, c.len.ensures)) _ c.as_slice-2.ensures.spans c.used_bytes.ensures c.highest.ensures
