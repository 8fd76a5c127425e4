-- Writes to the free zone of an accepted file, done or cut, leave the finished file as it was.
use Rattle.std.proofs.Common.{◌≡◌, ℕ, ◌≤◌, max, List, [], ◌∷◌, ◌++◌, length, get_or, ◌∙◌, inl, inr, arith}
use Rattle.std.specs.List.{AllByRecursion}
use Rattle.std.proofs.lemmas.Bool.{cases_lt}
use Rattle.model.specs.Bytes.{Write, applied, behind}
use Rattle.model.specs.Faults.{done}
use Rattle.model.specs.Section.{Section}
use Rattle.model.specs.Opened.{opened}
use Rattle.model.specs.Looks.{Look, look}
use Rattle.model.specs.Cuts.{WritesHeader, Cut, old_header, new_header, torn}
use Rattle.model.specs.Contents.{held}
use Rattle.model.specs.Laws.{in_header, Footprint, Free, WritesFree, Taken}
use Rattle.meaning.proofs.Base.{all_front}
use Rattle.lasting.proofs.Places.{meant}
use Rattle.lasting.proofs.SameLooks.{local, held_same}
use Rattle.lasting.proofs.FreeApart.{free_apart}
use Rattle.lasting.proofs.Rows.{Outside, length_rises, length_applied, taken_front, applied_outside}
use Rattle.lasting.proofs.Steps.{Steps}

-- t holds the same finished file as b
pub record SameFile (b t : List ℕ) (s : Section) : Type 0 where
  pub opens : opened t ≡ done s
  pub looks : (l : Look) → look t l ≡ look b l
  pub holds : (id : ℕ) → held t id ≡ held b id

-- a place that is not free is outside a write to the free zone
outside : (s : Section) (i : ℕ) (w : Write) → (Free s i → ⊥) → WritesFree s w → Outside i w
outside s i w x a = elim (cases_lt i w.place) [
  | inl l ↦ inl l
  | inr l ↦ elim (cases_lt i (behind w)) [
    | inl k ↦ absurd (x (a i l k))
    | inr k ↦ inr k
  ]
]

pub all_outside : (s : Section) (i : ℕ) (ws : List Write) → (Free s i → ⊥) → AllByRecursion (WritesFree s) ws → AllByRecursion (Outside i) ws
all_outside s i [] x a = tt
all_outside s i (w ∷ ws) x a = (outside s i w x a.0, all_outside s i ws x a.1)

module _ (b : List ℕ) (s : Section) (opens : opened b ≡ done s) where
  pub long : s.header.end ≤ length b
  long = (meant b s opens).header.stored

  -- a row that has all bytes that are not free
  pub kept : (t : List ℕ) → length b ≤ length t → ((i : ℕ) → (Free s i → ⊥) → get_or t i 0 ≡ get_or b i 0) → SameFile b t s
  kept t n h =
      let l = long in
      let used : (i : ℕ) → Footprint s i → get_or t i 0 ≡ get_or b i 0 = λ i f. h i (λ x. free_apart b s opens i f x) in
      let (x, y) = local b t s opens (omega arith) used in
      record { opens = x; looks = y; holds = held_same b t s (meant b s opens) (omega arith) used opens x }

  -- no write to the free zone is the header's
  pub not_header : (w : Write) → WritesFree s w → WritesHeader w → ⊥
  not_header w a (p, n) = free_apart b s opens 0 (in_header (omega arith, omega arith)) (a 0 (omega arith) (omega arith))

  -- a cut in one leaves what is outside it
  torn_outside : (x : List ℕ) (w : Write) (t : List ℕ) → WritesFree s w → Cut x w t → (length x ≤ length t) × ((i : ℕ) → Outside i w → get_or t i 0 ≡ get_or x i 0)
  torn_outside x w t a (old_header h) = absurd (not_header w a h)
  torn_outside x w t a (new_header h) = absurd (not_header w a h)
  torn_outside x w t a (torn h c d e o) = (d, o)

  module _ (from to : ℕ) (reach : from ≤ length b) where
    -- a row takes the writes of a step; here no ceiling matters
    took : (ws : List Write) → Steps s from to ws → Taken (length b) (max (length b) to) ws
    took ws st = st.taken (length b) (max (length b) to) reach (omega arith) (omega arith)

    -- all writes of a step
    pub steps_kept : (ws : List Write) → Steps s from to ws → SameFile b (applied b ws) s
    steps_kept ws st =
        let t = took ws st in
        let e = length_applied b (max (length b) to) ws t in
        let r = length_rises (length b) ws in
        kept (applied b ws) (omega arith) (λ i x. applied_outside b (max (length b) to) ws i t (all_outside s i ws x st.free))

    -- then the row reaches the new end
    pub steps_length : (ws : List Write) → Steps s from to ws → length (applied b ws) ≡ max (length b) to
    steps_length ws st = length_applied b (max (length b) to) ws (took ws st) ∙ st.reaches (length b) reach

    -- a cut in one of them: those before it stand
    pub cut_kept : (before later : List Write) (w : Write) (t : List ℕ) → Steps s from to (before ++ (w ∷ later)) → Cut (applied b before) w t → SameFile b t s
    cut_kept before later w t st cut =
        let (x, y) = all_front (WritesFree s) before (w ∷ later) st.free in
        let k = taken_front (length b) (max (length b) to) before (w ∷ later) (took (before ++ (w ∷ later)) st) in
        let e = length_applied b (max (length b) to) before k in
        let r = length_rises (length b) before in
        let (d, o) = torn_outside (applied b before) w t y.0 cut in
        kept t (omega arith) (λ i f. o i (outside s i w f y.0) ∙ applied_outside b (max (length b) to) before i k (all_outside s i before f x))
