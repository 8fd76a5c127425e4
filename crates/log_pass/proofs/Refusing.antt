-- A part that is refused makes the whole refused.
use Rattle.std.proofs.Common.{◌≡◌, ℕ, ◌+◌, List, [], ◌++◌, length, get_or, IsErrAnd, Err, Result, sym, refl, ap, ◌∙◌, arith}
use Rattle.std.proofs.lemmas.List.{length-append, get_or_append_left, get_or-append_right}
use Rattle.std.proofs.lemmas.Result.{err_from_is_err_and}
use Rattle.model.specs.declared.types.Fault.{Fault}
use Rattle.model.specs.Faults.{Outcome, refused}
use Rattle.refusals.specs.declared.faults.LogFault.{LogFault}
use Rattle.refusals.specs.declared.faults.LogFault.TheVariants as log
use Rattle.log_pass.specs.Logs.{Told, Refuses}
use Rattle.refusals.specs.Refusals.{log_told}

-- a refusal handed on is the same refusal
pub handed_on : {T : Type 0} (r : Result T LogFault) (x : LogFault) → IsErrAnd r (λ y. y ≡ x) → r ≡ Err x
handed_on r x h = let (y, is, same) = err_from_is_err_and r h in is ∙ ap Err same

-- a part w with the counts ps, where `before` were met before it and `after` come after it unless it is refused
module _ {A B : Type 0} (w : Outcome A) (v : Outcome B) (before ps after qs : List ℕ) (left room : ℕ) (q : qs ≡ before ++ (ps ++ after)) (l : room ≡ length before + left)
    (t : (x : Fault) → w ≡ refused x → (v ≡ refused x) × (after ≡ [])) where
  told_on : (x : LogFault) → Told w ps left x → Told v qs room x
  told_on x (e, s) =
      let r = t (log_told x) e in
      (r.0, omega (arith, ap length q, length-append before (ps ++ after), length-append ps after, ap length r.1))

  pub refuses_on : (x : LogFault) → Refuses w ps left x → Refuses v qs room x
  refuses_on (log.Outside p) r = told_on (log.Outside p) r
  refuses_on (log.Sum p) r = told_on (log.Sum p) r
  refuses_on (log.Backward p) r = told_on (log.Backward p) r
  refuses_on (log.Overlap p) r = told_on (log.Overlap p) r
  refuses_on (log.Full p) r = told_on (log.Full p) r
  refuses_on (log.Room p) (s, e) = (
    omega (arith, ap length q, length-append before (ps ++ after), length-append ps after),
    e ∙ sym (ap (λ xs. get_or xs room 0) q ∙ get_or-append_right before (ps ++ after) (length before) room 0 refl (omega arith)
        ∙ ap (λ i. get_or (ps ++ after) i 0) (omega arith) ∙ get_or_append_left ps after 0 left s),
  )
