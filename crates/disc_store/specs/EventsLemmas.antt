-- Laws of what is handed on.
use Rattle.std.specs.Prelude.{◌≡◌, List, [], ◌∷◌, ◌++◌, Option, Some, None, Ok, Err, Result, IsSome, IsNone, IsErr, Bool, true, false, cond, nat_le, refl}
use Rattle.std.proofs.Common.{sym, ap, subst, ◌∙◌}
use Rattle.std.proofs.lemmas.List.{append-nil, append_assoc}
use Rattle.model.specs.Bytes.{Write}
use Rattle.disc_store.specs.Events.{Event, took, synced, around, planned, taken, HandedOn, Tried, if_took}

pub planned_append : (a b : List Write) → planned (a ++ b) ≡ planned a ++ planned b
planned_append [] b = refl
planned_append (w ∷ a) b = ap (λ es. around w ++ es) (planned_append a b) ∙ sym (append_assoc (around w) (planned a) (planned b))

pub planned_one : (w : Write) → planned (w ∷ []) ≡ around w
planned_one w = append-nil (around w)

no_error : true ≡ false → ⊥
no_error h = cc

not_both : {E : Type 0} (u : Option E) (e : E) → u ≡ Some e → IsNone u → ⊥
not_both None e h n = cc
not_both (Some x) e h n = cc

still_none : {E : Type 0} (s : Option E) → None ≡ s → IsSome s → ⊥
still_none None h n = cc
still_none (Some x) h n = cc

-- nothing asked, nothing done
pub handed_none : {E : Type 0} (old : List Event) (t : Option E) → HandedOn (planned []) old old t t
handed_none old t = record {
  did = [];
  left = [];
  parts = refl;
  grown = sym (append-nil old);
  whole = λ n. refl;
  kept = λ h. (refl, refl);
}

-- the second of two plans, where the first is done as a whole
after_whole : {E : Type 0} (p q x y z : List Event) (s u : Option E) → HandedOn {E = E} p x y s None → HandedOn {E = E} q y z None u → HandedOn (p ++ q) x z s u
after_whole p q x y z s u f g =
    let e : p ≡ f.did = f.parts ∙ ap (λ l. f.did ++ l) (f.whole refl) ∙ append-nil f.did in
    record {
      did = f.did ++ g.did;
      left = g.left;
      parts = ap (λ l. l ++ q) e ∙ ap (λ l. f.did ++ l) g.parts ∙ sym (append_assoc f.did g.did g.left);
      grown = g.grown ∙ ap (λ l. l ++ g.did) f.grown ∙ append_assoc x f.did g.did;
      whole = g.whole;
      kept = λ h. absurd (still_none s (f.kept h).1 h);
    }

-- and where an error stands between them
after_trouble : {E : Type 0} (p q x y z : List Event) (s : Option E) (e : E) (u : Option E) → HandedOn p x y s (Some e) → HandedOn q y z (Some e) u → HandedOn (p ++ q) x z s u
after_trouble p q x y z s e u f g =
    record {
      did = f.did;
      left = f.left ++ q;
      parts = ap (λ l. l ++ q) f.parts ∙ append_assoc f.did f.left q;
      grown = g.grown ∙ ap (λ l. y ++ l) (g.kept refl).0 ∙ append-nil y ∙ f.grown;
      whole = λ n. absurd (not_both u e (g.kept refl).1 n);
      kept = λ h. ((f.kept h).0, (g.kept refl).1 ∙ (f.kept h).1);
    }

handed_both : {E : Type 0} (p q x y z : List Event) (s t u : Option E) → HandedOn p x y s t → HandedOn q y z t u → HandedOn (p ++ q) x z s u
handed_both p q x y z s None u f g = after_whole p q x y z s u f g
handed_both p q x y z s (Some e) u f g = after_trouble p q x y z s e u f g

-- two plans, one after the other
pub handed_more : {E : Type 0} (a b : List Write) (x y z : List Event) (s t u : Option E) → HandedOn (planned a) x y s t → HandedOn (planned b) y z t u → HandedOn (planned (a ++ b)) x z s u
handed_more a b x y z s t u f g = subst (λ p. HandedOn p x z s u) (sym (planned_append a b)) (handed_both (planned a) (planned b) x y z s t u f g)

-- three events, of which the last is tried, or the second fails
pub tried_last : {T E : Type 0} (a b c : Event) (old x y z : List Event) (r : Result T E) → x ≡ old ++ (a ∷ []) → y ≡ x ++ (b ∷ []) → z ≡ y ++ if_took r c
    → Tried (a ∷ (b ∷ (c ∷ []))) old z r
tried_last a b c old x y z (Ok v) f g h = h ∙ ap (λ l. l ++ (c ∷ [])) (g ∙ ap (λ l. l ++ (b ∷ [])) f ∙ append_assoc old (a ∷ []) (b ∷ [])) ∙ append_assoc old (a ∷ (b ∷ [])) (c ∷ [])
tried_last a b c old x y z (Err e) f g h = (a ∷ (b ∷ []), c ∷ [], refl, h ∙ append-nil y ∙ g ∙ ap (λ l. l ++ (b ∷ [])) f ∙ append_assoc old (a ∷ []) (b ∷ []))

pub tried_middle : {T E : Type 0} (a b c : Event) (old x y : List Event) (r : Result T E) → IsErr r → x ≡ old ++ (a ∷ []) → y ≡ x ++ []
    → Tried (a ∷ (b ∷ (c ∷ []))) old y r
tried_middle a b c old x y (Ok v) n f g = absurd (no_error (sym n))
tried_middle a b c old x y (Err e) n f g = (a ∷ [], b ∷ (c ∷ []), refl, g ∙ append-nil x ∙ f)

-- the writes of a plan
pub taken_append : (a b : List Event) → taken (a ++ b) ≡ taken a ++ taken b
taken_append [] b = refl
taken_append (took w ∷ a) b = ap (λ ws. w ∷ ws) (taken_append a b)
taken_append (synced ∷ a) b = taken_append a b

taken_either : (t : Bool) (w : Write) → taken (cond t (took w ∷ []) (synced ∷ (took w ∷ (synced ∷ [])))) ≡ w ∷ []
taken_either true w = refl
taken_either false w = refl

pub taken_planned : (ws : List Write) → taken (planned ws) ≡ ws
taken_planned [] = refl
taken_planned (w ∷ ws) = taken_append (around w) (planned ws) ∙ ap (λ l. l ++ taken (planned ws)) (taken_either (nat_le 1024 w.place) w) ∙ ap (λ l. w ∷ l) (taken_planned ws)

pub taken_front : (ws : List Write) (did left : List Event) → planned ws ≡ did ++ left → ws ≡ taken did ++ taken left
taken_front ws did left e = sym (taken_planned ws) ∙ ap taken e ∙ taken_append did left
