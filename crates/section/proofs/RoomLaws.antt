-- Opening in a room, beside opening by the rules alone.
use Rattle.std.proofs.Common.{◌≡◌, ◌≢◌, true, false, eqb, List, [], ◌∷◌, length, get_or, refl, ap, ◌∙◌, subst, sym, inl, inr, arith}
use Rattle.std.proofs.lemmas.Bool.{cases_lt}
use Rattle.std.proofs.lemmas.Bool.Decides.{nat_tests}
use Rattle.model.specs.declared.types.Fault.{Fault}
use Rattle.model.specs.Headers.{header_at}
use Rattle.model.specs.Faults.{Check, Outcome, done, refused, unless}
use Rattle.model.specs.Section.{Section}
use Rattle.model.specs.Opened.{header_checks, part_log, opened}
use Rattle.meaning.proofs.Base.{unless_clean}
use Rattle.log_pass.specs.Logs.{all_counts}
use Rattle.section.specs.OpenAnswers.{within_room, opened_in, RoomSuffices, RoomWants, RoomAccepts, RoomRefuses}
use Rattle.section.proofs.Joined.{roomy, crowded}

pub room_suffices : RoomSuffices
unfolding opened opened_in
room_suffices room b l = ap (λ x. unless (header_checks b) x) (roomy b (header_at b) room (all_counts b (header_at b)) (part_log b (header_at b)) l)

pub room_wants : RoomWants
unfolding opened_in
room_wants room b l clean =
    let ps = all_counts b (header_at b) in
    unless_clean (header_checks b) (within_room room ps (part_log b (header_at b))) clean
    ∙ crowded b (header_at b) room ps (get_or ps room 0) (part_log b (header_at b)) l refl

-- a refusal behind some checks is no acceptance
unless_refused : (cs : List Check) (f : Fault) (s : Section) → unless cs (refused f) ≡ done s → ⊥
unless_refused [] f s e = cc
unless_refused (c ∷ cs) f s e = grind (arith, nat_tests, unless_refused cs f s)

pub room_accepts : RoomAccepts
unfolding opened_in
room_accepts room b s e =
    let ps = all_counts b (header_at b) in
    elim (cases_lt room (length ps)) [
      | inl l ↦ absurd (unless_refused (header_checks b) _ s (ap (λ x. unless (header_checks b) x) (sym (crowded b (header_at b) room ps (get_or ps room 0) (part_log b (header_at b)) l refl)) ∙ e))
      | inr l ↦ sym (room_suffices room b l) ∙ e
    ]

-- behind some checks one refusal is told, not another: so a check told it, whatever is behind them
unless_other : {A : Type 0} (cs : List Check) (g f : Fault) (x : Outcome A) → g ≢ f → unless {A = A} cs (refused g) ≡ refused f → unless cs x ≡ refused f
unless_other [] g f x n e = absurd (n cc)
unless_other ((true, h) ∷ cs) g f x n e = e
unless_other ((false, h) ∷ cs) g f x n e = unless_other cs g f x n e

pub room_refuses : RoomRefuses
unfolding opened opened_in
room_refuses room b f e other =
    let ps = all_counts b (header_at b) in
    elim (cases_lt room (length ps)) [
      | inl l ↦
          unless_other (header_checks b) _ f (part_log b (header_at b)) (λ i. let w = subst (λ (x : Fault). eqb x.number 100 ≡ false) (sym i) other in cc)
          (ap (λ x. unless (header_checks b) x) (sym (crowded b (header_at b) room ps (get_or ps room 0) (part_log b (header_at b)) l refl)) ∙ e)
      | inr l ↦ sym (room_suffices room b l) ∙ e
    ]
