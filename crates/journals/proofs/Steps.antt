-- One call, and then the rest: what is left, once made, completes the whole.
use Rattle.std.proofs.Common.{◌≡◌, ℕ, List, [], ◌∷◌, ◌++◌, map, Some, None, Option, sym, refl, ap, append_assoc, append-nil, ◌∙◌, subst}
use Rattle.model.specs.Bytes.{Write}
use Rattle.model.specs.Section.{last_of}
use Rattle.model.specs.Calls.{Draft, State, Call, answer, writes, after}
use Rattle.model.specs.Journal.{Line, Follows}
use Rattle.journals.specs.declared.calls.Call as code
use Rattle.journals.specs.declared.calls.Line as told
use Rattle.section.specs.declared.drafting.Draft as token
use Rattle.section.specs.declared.files.File.{File}
use Rattle.journals.specs.Telling.{in_hand, call_as, TellsAnswer}
use Rattle.journals.specs.Making.{StandsAt, Leaves, Makes}
use Rattle.journals.specs.Running.{TellsNext, Tells, writes_in, Ran, Runs}

-- no call
pub ran_none : (st : State) (hand : Option Draft) → Ran st hand [] [] hand st []
ran_none st hand = record { lines = []; follows = tt; tells = (refl, refl); last = refl; writes' = refl }

-- the state after a call, and its writes, if it is one of the rules'
abbrev pub then_state : State → Option Call → State
then_state st None = st
then_state st (Some c) = after st c

abbrev pub then_writes : State → Option Call → List Write
then_writes st None = []
then_writes st (Some c) = writes st c

module _ (At : State → Type 0) (Wrote : List Write → Type 0) (st : State) (hand : Option Draft) (call : code.Call) (a : told.Line) (next : Option Draft) where
  -- what is there then
  left_at : (c : Option Call) → Leaves At Wrote st hand call c a next → At (then_state st c) × Wrote (then_writes st c)
  left_at None l = (l.2, l.3)
  left_at (Some c) l = (l.3, l.4)

  module _ (Rest : State → Option Draft → List Line → Type 0) (end' : State) (ws : List Write) where
    -- the lines from here on
    abbrev pub Lines : Option Call → Type 0
    Lines c = (ls : List Line) × Follows st ls × TellsNext Rest st hand call c a ls × (last_of st (map (λ l. l.state) ls) ≡ end') × (writes_in st ls ≡ then_writes st c ++ ws)

    lines_next : (c : Option Call) → Leaves At Wrote st hand call c a next → (ls : List Line) → Follows (then_state st c) ls → Rest (then_state st c) next ls → last_of (then_state st c) (map (λ l. l.state) ls) ≡ end'
        → writes_in (then_state st c) ls ≡ ws → Lines c
    lines_next None (quiet, same, at, wrote) ls follows rest last is = (ls, follows, (quiet, subst (λ h. Rest st h ls) same rest), last, is)
    lines_next (Some c) (fit, tells, same, at, wrote) ls follows rest last is =
        let line : Line = record { call = c; answer = answer st c; state = after st c } in (
          line ∷ ls,
          (fit, refl, refl, follows),
          (refl, subst (λ h. TellsAnswer h a (answer st c)) same tells, subst (λ h. Rest (after st c) h ls) same rest),
          last,
          ap (λ vs. writes st c ++ vs) is,
        )

  ran_next : (end' : State) (ws : List Write) (left : Option Draft) (cs : List code.Call) (as' : List told.Line) → Leaves At Wrote st hand call (call_as hand call a) a next
      → Ran (then_state st (call_as hand call a)) next cs as' left end' ws → Ran st hand (call ∷ cs) (a ∷ as') left end' (then_writes st (call_as hand call a) ++ ws)
  ran_next end' ws left cs as' l r =
      let (ls, follows, tells, last, is) = lines_next (λ now h ms. Tells now h cs as' ms left) end' ws (call_as hand call a) l r.lines r.follows r.tells r.last r.writes' in
      record { lines = ls; follows = follows; tells = tells; last = last; writes' = is }

-- between two calls: what is left of them, once made, completes the whole
pub record Going {S : Type 0} (bytes : S → List ℕ) (most : S → ℕ) (wrote : S → List Write → S → Type 0) (old : File S) (hand : Option token.Draft) (cs : List code.Call) (before : List told.Line)
    (now : File S) (behind : List told.Line) (held : Option token.Draft) (rest : List code.Call) : Type 0 where
  pub done : List told.Line
  pub behind' : behind ≡ before ++ done
  pub completes : (st : State) → StandsAt bytes most old st
      → (mid : State) × (ws : List Write) × StandsAt bytes most now mid × wrote old.store ws now.store
      × ((more : List told.Line) (left : Option Draft) (end' : State) (vs : List Write) → Ran mid (in_hand held) rest more left end' vs → Ran st (in_hand hand) cs (done ++ more) left end' (ws ++ vs))

module _ {S : Type 0} (bytes : S → List ℕ) (most : S → ℕ) (wrote : S → List Write → S → Type 0) (old : File S) (hand : Option token.Draft) (cs : List code.Call) (before : List told.Line) where
  pub going_first : ((s : S) → wrote s [] s) → (rest : List code.Call) → rest ≡ cs → Going bytes most wrote old hand cs before old before hand rest
  going_first none rest e = record {
    done = [];
    behind' = sym (append-nil before);
    completes = λ st k. (st, [], k, none old.store, λ more left end' vs r. subst (λ xs. Ran st (in_hand hand) xs more left end' vs) e r);
  }

  pub going_on : ((s t u : S) (a b : List Write) → wrote s a t → wrote t b u → wrote s (a ++ b) u)
      → (now new : File S) (behind new_behind : List told.Line) (held next : Option token.Draft) (c : code.Call) (rest rest' : List code.Call) (a : told.Line)
      → Going bytes most wrote old hand cs before now behind held rest → rest ≡ c ∷ rest' → Makes bytes most wrote now held c new a next → new_behind ≡ behind ++ (a ∷ [])
      → Going bytes most wrote old hand cs before new new_behind next rest'
  going_on join now new behind new_behind held next c rest rest' a g e makes b = record {
    done = g.done ++ (a ∷ []);
    behind' = b ∙ ap (λ ls. ls ++ (a ∷ [])) g.behind' ∙ append_assoc before g.done (a ∷ []);
    completes = λ st k.
        let (mid, ws, at, trail, whole) = g.completes st k in
        let Wrote : List Write → Type 0 = λ ws. wrote now.store ws new.store in
        let leaves = makes mid at in
        let call = call_as (in_hand held) c a in
        let (then, added) = left_at (StandsAt bytes most new) Wrote mid (in_hand held) c a (in_hand next) call leaves in (
          then_state mid call,
          ws ++ then_writes mid call,
          then,
          join old.store now.store new.store ws (then_writes mid call) trail added,
          λ more left end' vs r.
              let all = whole (a ∷ more) left end' (then_writes mid call ++ vs)
              (subst (λ xs. Ran mid (in_hand held) xs (a ∷ more) left end' (then_writes mid call ++ vs)) (sym e)
              (ran_next (StandsAt bytes most new) Wrote mid (in_hand held) c a (in_hand next) end' vs left rest' more leaves r)) in
              subst (λ ls. Ran st (in_hand hand) cs ls left end' ((ws ++ then_writes mid call) ++ vs)) (sym (append_assoc g.done (a ∷ []) more))
              (subst (λ us. Ran st (in_hand hand) cs (g.done ++ (a ∷ more)) left end' us) (sym (append_assoc ws (then_writes mid call) vs)) all),
        );
  }

  pub going_last : (now : File S) (behind : List told.Line) (held : Option token.Draft) (rest : List code.Call) → Going bytes most wrote old hand cs before now behind held rest → rest ≡ []
      → Runs bytes most wrote old hand cs before now behind held
  going_last now behind held rest g e = record {
    lines = g.done;
    behind' = g.behind';
    ran = λ st k.
        let (mid, ws, at, trail, whole) = g.completes st k in
        let all = whole [] (in_hand held) mid [] (subst (λ xs. Ran mid (in_hand held) xs [] (in_hand held) mid []) (sym e) (ran_none mid (in_hand held))) in (
          mid,
          ws,
          subst (λ ls. Ran st (in_hand hand) cs ls (in_hand held) mid ws) (append-nil g.done) (subst (λ us. Ran st (in_hand hand) cs (g.done ++ []) (in_hand held) mid us) (append-nil ws) all),
          trail,
          at,
        );
  }
