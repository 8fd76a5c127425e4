-- What a call does to an opened file: it leaves it, begins or ends a draft without a write, grows the draft, or commits it.
use Rattle.std.proofs.Common.{◌≡◌, ℕ, ◌+◌, ◌^◌, not, ◌||◌, eqb, leb, List, [], ◌∷◌, ◌++◌, length, Some, None, Option, sym, refl, subst}
use Rattle.model.specs.declared.types.Fault.{Fault}
use Rattle.model.specs.Bytes.{Bytes}
use Rattle.model.specs.Faults.{Outcome, done, refused, Check, unless, then}
use Rattle.model.specs.Section.{Section}
use Rattle.model.specs.Opened.{opened}
use Rattle.model.specs.Layouts.{Add, plain, with_data, branch, Layout}
use Rattle.model.specs.Saving.{planned, layout}
use Rattle.model.specs.Committing.{committing}
use Rattle.model.specs.Calls.{Draft, Access, State, Call, open_file, begin, add, commit, abandon, looking, Answer, begun, committed, abandoned, Effect, access_of, saving, add_checks, add_answer, commit_checks, effect, answer_of, writes_of, access_after}
use Rattle.model.specs.Journal.{FitAdd, Fit, commits}
use Rattle.model.specs.Laws.{adds_of}
use Rattle.meaning.proofs.Base.{Clean, unless_tells}

-- either a rule is broken, and a fault is told, or none is
unless_either : {A : Type 0} (cs : List Check) (a : Outcome A) (P : Outcome A → Type 0) → ((f : Fault) → P (refused f)) → (Clean cs → P a) → P (unless cs a)
unless_either cs a P broken kept = unless_tells P cs a (λ f w. broken f) kept

-- an opened file
abbrev pub open_state : ℕ → List ℕ → Access → State
open_state ceiling b d = record { bytes = b; ceiling = ceiling; access = Some d }

-- the effect of a call on the opened file with the bytes b, which open as s
pub data Does (ceiling : ℕ) (b : List ℕ) (s : Section) (d : Access) : Call → Outcome Effect → Type 0 where
  -- a refusal or a look
  stays : {c : Call} {o : Outcome Effect} → commits (answer_of o) ≡ 0 → writes_of o ≡ [] → access_after (Some d) o ≡ Some d → Does ceiling b s d c o
  -- begin or abandon: then no add is done, and nothing is written
  rests : {c : Call} (a : Answer) (n : ℕ) (draft : Option (List Add)) → commits a ≡ 0 → adds_of draft ≡ []
      → Does ceiling b s d c (done (record { answer = a; writes = []; access = access_of d.mark n draft }))
  -- an add
  grows : (token : Draft) (a : Add) (x : Answer) → commits x ≡ 0 → FitAdd a → Clean (add_checks ceiling (layout s (adds_of d.draft)) a)
      → Does ceiling b s d (add token a)
      (done (record { answer = x; writes = (planned (layout s (adds_of d.draft)) a).writes; access = access_of d.mark d.begins (Some (adds_of d.draft ++ (a ∷ []))) }))
  -- a commit
  ends : (token : Draft) (guid : List ℕ) → Bytes guid → length guid ≡ 16 → Clean (commit_checks ceiling s (adds_of d.draft) guid)
      → Does ceiling b s d (commit token guid)
      (done (record { answer = committed; writes = committing b s (adds_of d.draft) guid; access = access_of d.mark d.begins None }))

not_committed : (y : Layout) (a : Add) → commits (add_answer y a) ≡ 0
not_committed y (plain list id payload) = refl
not_committed y (with_data list id payload content) = refl
not_committed y (branch list id payload first_id first_payload) = refl

module _ (ceiling : ℕ) (b : List ℕ) (s : Section) (opens : opened b ≡ done s) (mark begins : ℕ) where
  abbrev known : Option (List Add) → Access
  known draft = record { mark = mark; begins = begins; draft = draft }

  refuses : (draft : Option (List Add)) (c : Call) (f : Fault) → Does ceiling b s (known draft) c (refused f)
  refuses draft c f = stays refl refl refl

  -- 16 is told of a draft that is not the one open here
  foreign : Draft → List Check
  foreign token = (not (eqb token.mark mark) || not (eqb token.number begins), saving 16) ∷ []

  does_begin : (draft : Option (List Add)) → Does ceiling b s (known draft) begin (effect (open_state ceiling b (known draft)) begin)
  does_begin (Some adds) = refuses (Some adds) begin (saving 14)
  does_begin None =
      let x = begun (record { mark = mark; number = begins + 1 }) in
      let e : Effect = record { answer = x; writes = []; access = access_of mark (begins + 1) (Some []) } in
      let rest = λ (p : Clean ((leb (2 ^ 64) (begins + 1), saving 23) ∷ [])). rests x (begins + 1) (Some []) refl refl in
      unless_either ((leb (2 ^ 64) (begins + 1), saving 23) ∷ []) (done e) (Does ceiling b s (known None) begin) (refuses None begin) rest

  does_abandon : (draft : Option (List Add)) (token : Draft) → Does ceiling b s (known draft) (abandon token) (effect (open_state ceiling b (known draft)) (abandon token))
  unfolding foreign
  does_abandon None token = refuses None (abandon token) (saving 16)
  does_abandon (Some adds) token =
      let P : Outcome Effect → Type 0 = Does ceiling b s (known (Some adds)) (abandon token) in
      let e : Effect = record { answer = abandoned; writes = []; access = access_of mark begins None } in
      unless_either (foreign token) (done e) P (refuses (Some adds) (abandon token)) (λ p. rests abandoned begins None refl refl)

  does_add : (draft : Option (List Add)) (token : Draft) (a : Add) → FitAdd a → Does ceiling b s (known draft) (add token a) (effect (open_state ceiling b (known draft)) (add token a))
  unfolding foreign
  does_add None token a fit = refuses None (add token a) (saving 16)
  does_add (Some adds) token a fit =
      let P : Outcome Effect → Type 0 = Does ceiling b s (known (Some adds)) (add token a) in
      let x : Section → Answer = λ z. add_answer (planned (layout z adds) a).layout a in
      let e : Section → Effect = λ z. record { answer = x z; writes = (planned (layout z adds) a).writes; access = access_of mark begins (Some (adds ++ (a ∷ []))) } in
      let k : Section → Outcome Effect = λ z. unless (add_checks ceiling (layout z adds) a) (done (e z)) in
      let refuse = refuses (Some adds) (add token a) in
      let grow = λ (q : Clean (add_checks ceiling (layout s adds) a)). grows token a (x s) (not_committed (planned (layout s adds) a).layout a) fit q in
      let own : P (then (opened b) k) = subst (λ o. P (then o k)) (sym opens) (unless_either (add_checks ceiling (layout s adds) a) (done (e s)) P refuse grow) in
      unless_either (foreign token) (then (opened b) k) P refuse (λ p. own)

  does_commit : (draft : Option (List Add)) (token : Draft) (guid : List ℕ) → Bytes guid → length guid ≡ 16
      → Does ceiling b s (known draft) (commit token guid) (effect (open_state ceiling b (known draft)) (commit token guid))
  unfolding foreign
  does_commit None token guid x y = refuses None (commit token guid) (saving 16)
  does_commit (Some adds) token guid x y =
      let P : Outcome Effect → Type 0 = Does ceiling b s (known (Some adds)) (commit token guid) in
      let e : Section → Effect = λ z. record { answer = committed; writes = committing b z adds guid; access = access_of mark begins None } in
      let k : Section → Outcome Effect = λ z. unless (commit_checks ceiling z adds guid) (done (e z)) in
      let refuse = refuses (Some adds) (commit token guid) in
      let end = λ (q : Clean (commit_checks ceiling s adds guid)). ends token guid x y q in
      let own : P (then (opened b) k) = subst (λ o. P (then o k)) (sym opens) (unless_either (commit_checks ceiling s adds guid) (done (e s)) P refuse end) in
      unless_either (foreign token) (then (opened b) k) P refuse (λ p. own)

  pub does : (draft : Option (List Add)) (c : Call) → Fit c → Does ceiling b s (known draft) c (effect (open_state ceiling b (known draft)) c)
  does draft (open_file m) fit = refuses draft (open_file m) (saving 14)
  does draft begin fit = does_begin draft
  does draft (add token a) fit = does_add draft token a fit
  does draft (commit token guid) fit = does_commit draft token guid fit.0 fit.1
  does draft (abandon token) fit = does_abandon draft token
  does draft (looking l) fit = stays refl refl refl
