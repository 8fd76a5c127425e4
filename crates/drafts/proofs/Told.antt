-- The checks in the code, one after the other, are those of an add.
use Rattle.std.proofs.Common.{◌≡◌, ℕ, ◌+◌, ◌^◌, ◌<◌, ◌≤◌, Bool, true, false, cond, not, ◌||◌, ◌&&◌, eqb, leb, ltb, List, [], ◌∷◌, map, length, Some, None, Ok, Err, Option, Result, IfOk, is_some, refl, ap, sym, subst, ◌∙◌, inl, inr, arith}
use Rattle.std.specs.List.{AllByRecursion}
use Rattle.std.proofs.lemmas.Bool.{cases_Bool}
use Rattle.std.proofs.lemmas.Bool.Decides.{nat_tests}
use Rattle.std.proofs.lemmas.List.{length-map}
use Rattle.model.specs.Faults.{Outcome, refused, Check, unless}
use Rattle.model.specs.Means.{Inside}
use Rattle.model.specs.Section.{Section}
use Rattle.model.specs.Layouts.{Add, plain, with_data, branch, Tail, Layout, member, touch, find_tail}
use Rattle.model.specs.Saving.{planned}
use Rattle.model.specs.Calls.{Effect, saving, list_of, too_large, bad_ids, add_checks}
use Rattle.adding.specs.declared.adds.NewAdd.{NewAdd}
use Rattle.adding.specs.declared.adds.With.{With}
use Rattle.adding.specs.declared.adds.With.TheVariants.{Nothing, Data, List as NewList}
use Rattle.adding.specs.Adds.{add_with, add_of}
use Rattle.meaning.proofs.Base.{Clean}
use Rattle.commits.specs.Parts.{Part}
use Rattle.refusals.specs.CallRefusals.{save_told}
use Rattle.refusals.specs.declared.calls.SaveFault.{SaveFault}
use Rattle.tables.specs.declared.room.Row.{Row}
use Rattle.writing.specs.declared.tails.Tail.{Tail as CodeTail}
use Rattle.writing.specs.Tails.{as_tail, InReach}
use Rattle.drafts.specs.declared.layout.DraftLayout.{DraftLayout}
use Rattle.drafts.specs.declared.step.Step.{Step}
use Rattle.drafts.specs.Lays.{Holds, Bounds}
use Rattle.drafts.specs.Steps.{one, fits, step_of, capped}
use Rattle.drafts.specs.Plans.{Plans, Makes, made_touched, made_tails, stepped, step_checks, Says, Tells}
use Rattle.drafts.specs.Rowed.{RowFor}
use Rattle.drafts.specs.Looked.{tail_for, TailOf, RowOf}
use Rattle.drafts.proofs.Tails.{ids_of, member_touch, length_touch, touch_again, member_more, find_with, tail_for_member}
use Rattle.drafts.proofs.Taken.{own_touched}
use Rattle.drafts.proofs.Planned.{Planned, step_for, planned_step}

-- the tail of a list in a layout is within bounds
found_held : (P : Tail → Type 0) (ts : List Tail) (id : ℕ) → AllByRecursion P ts → member id (ids_of ts) ≡ true → P (find_tail ts id)
unfolding find_tail
found_held P [] id a m = absurd (grind arith)
found_held P (t ∷ ts) id (p, a) m = elim (cases_Bool (eqb t.id id)) [
  | inl e ↦ rw e p
  | inr e ↦ rw e (found_held P ts id a (rw e at m))
]

reach : (y : Layout) (t : CodeTail) (id end : ℕ) → Bounds y → member id (ids_of y.tails) ≡ true → as_tail t ≡ find_tail y.tails id → end ≡ y.end → InReach end t
reach y t id end b m e f =
    let (i, fr, n, c) = subst (λ (u : Tail). Inside 36 (2 ^ 40) u.fragment × (u.free ≤ 2 ^ 40) × (u.number < 2048) × (u.count < 2 ^ 32)) (sym e)
    (found_held (λ u. Inside 36 (2 ^ 40) u.fragment × (u.free ≤ 2 ^ 40) × (u.number < 2048) × (u.count < 2 ^ 32)) y.tails id b.tails m) in
    let g = b.end' in
    record { end' = omega arith; number = omega arith; fragment = i; free = fr }

module _ (s : Section) (y : Layout) (ps : List Part) (d : DraftLayout) (h : Holds s y ps d) (p : Step) (k : member p.tail.list (ids_of y.tails) ≡ true) where
  new_list : (m : ℕ) → m ≡ y.highest + 1 → member m (ids_of y.tails) ≡ false
  new_list m e = elim (cases_Bool (member m (ids_of y.tails))) [ inl x ↦ (let b = h.below m x in absurd (omega arith)) | inr x ↦ x ]

  not_touched : (m : ℕ) → m ≡ y.highest + 1 → member m (touch p.tail.list y.touched) ≡ false
  not_touched m e =
      let low = h.below p.tail.list k in
      let x : eqb p.tail.list m ≡ false = grind (arith, nat_tests) in
      let z = sym (h.known m) ∙ new_list m e in
      member_touch m p.tail.list y.touched ∙ rw (neither (member m y.touched) (member m (map (λ l. l.id) s.lists)) z, x) refl
    where
      neither : (b c : Bool) → (b || c) ≡ false → b ≡ false
      neither true c e = e
      neither false c e = refl

  touched_length : (made : Option CodeTail) → Makes y.highest y.lists p made
      → length (touch p.tail.list (made_touched p.tail.list made y.touched)) ≡ length d.touched + one (not (is_some (tail_for p.tail.list d.touched))) + one (is_some made)
  touched_length made w = by_made made w ∙ rw (tail_for_member p.tail.list d.touched, h.touched) (ap (λ n. n + one (not (member p.tail.list y.touched)) + one (is_some made)) lengths)
    where
      lengths : length y.touched ≡ length d.touched
      lengths = sym (ap length h.touched) ∙ length-map d.touched (λ (t : CodeTail). t.list)

      by_made : (made : Option CodeTail) → Makes y.highest y.lists p made
          → length (touch p.tail.list (made_touched p.tail.list made y.touched)) ≡ length y.touched + one (not (member p.tail.list y.touched)) + one (is_some made)
      by_made None w = let n = length_touch p.tail.list y.touched in omega arith
      by_made (Some m) (i, r, e, l) =
          let x = not_touched m.list i in
          let n = length_touch p.tail.list y.touched in
          let o : length (touch m.list (touch p.tail.list y.touched)) ≡ length (touch p.tail.list y.touched) + 1 = length_touch m.list (touch p.tail.list y.touched) ∙ rw x refl in
          ap length (touch_again p.tail.list (touch m.list (touch p.tail.list y.touched)) (own_touched p.tail.list m.list y.touched)) ∙ (omega arith)

-- the same checks, by the step
module _ (s : Section) (y : Layout) (ps : List Part) (d : DraftLayout) (h : Holds s y ps d) (b : Bounds y) (ceiling : ℕ) (a : Add) (p : Step)
    (known : member (list_of a) (ids_of y.tails) ≡ true) (w : Planned y a p) where
  own_known : member p.tail.list (ids_of y.tails) ≡ true
  own_known = rw w.list known

  counted : (find_tail (planned y a).layout.tails (list_of a)).count ≡ p.before.count + 1
  counted =
      let e : find_tail (planned y a).layout.tails (list_of a) ≡ find_tail (stepped y p).tails (list_of a) = ap (λ (z : Layout). find_tail z.tails (list_of a)) w.layout in
      let f = find_with (as_tail p.tail) (made_tails p.made y.tails) (list_of a) (kept p.made) in
      let g : eqb p.tail.list (list_of a) ≡ true = let l = w.list in grind (arith, nat_tests) in
      let r : cond (eqb p.tail.list (list_of a)) (as_tail p.tail) (find_tail (made_tails p.made y.tails) (list_of a)) ≡ as_tail p.tail = rw g refl in
      ap (λ (t : Tail). t.count) (e ∙ f ∙ r) ∙ w.count
    where
      kept : (made : Option CodeTail) → member p.tail.list (ids_of (made_tails made y.tails)) ≡ true
      kept None = own_known
      kept (Some m) = member_more (as_tail m) y.tails p.tail.list ∙ rw own_known refl

  highest_past : (made : Option CodeTail) → Makes y.highest y.lists p made → leb (2 ^ 32) p.highest ≡ (is_some made && leb (2 ^ 32) (d.highest + 1))
  highest_past None (e, l) = let z = b.highest in grind (arith, nat_tests)
  highest_past (Some m) (i, r, e, l) = ap (leb (2 ^ 32)) (e ∙ ap (λ n. n + 1) (sym h.highest))

  same_checks : add_checks ceiling y a
      ≡ (not (member (list_of a) (ids_of y.tails)), saving 17) ∷ (too_large a, saving 18) ∷ (bad_ids a, saving 19) ∷ step_checks d.end d.highest ceiling d.touched p
  same_checks =
      let l = w.layout in
      let x20 : length (planned y a).layout.touched ≡ length d.touched + one (not (is_some (tail_for p.tail.list d.touched))) + one (is_some p.made)
      = ap (λ (z : Layout). length z.touched) l ∙ touched_length s y ps d h p own_known p.made w.makes in
      let lists : (planned y a).layout.lists ≡ p.lists = ap (λ (z : Layout). z.lists) l in
      let fragments : (planned y a).layout.fragments ≡ p.fragments = ap (λ (z : Layout). z.fragments) l in
      let end : (planned y a).layout.end ≡ p.end = ap (λ (z : Layout). z.end) l in
      let highest : (planned y a).layout.highest ≡ p.highest = ap (λ (z : Layout). z.highest) l in
      let x23 = highest_past p.made w.makes in
      rw (x20, lists, fragments, end, highest, counted, x23, sym h.end') refl

-- the first three checks are made before
first_three : (t17 t18 t19 : Bool) (cs : List Check) → t17 ≡ true → t18 ≡ false → t19 ≡ false → (f : (rest : Outcome Effect) → Outcome Effect) → ((rest : Outcome Effect) → unless cs rest ≡ f rest)
    → (rest : Outcome Effect) → unless ((not t17, saving 17) ∷ (t18, saving 18) ∷ (t19, saving 19) ∷ cs) rest ≡ f rest
first_three t17 t18 t19 cs a b c f k rest = rw (a, b, c) (k rest)

-- a step whose numbers are capped has the same checks
capped_checks : (end fragments lists highest id count id' count' : ℕ) (t : CodeTail) (a : Add) (e h ceiling : ℕ) (ts : List CodeTail)
    → step_checks e h ceiling ts (step_of end fragments lists highest id count t a) ≡ step_checks e h ceiling ts (step_of end fragments lists highest id' count' t a)
unfolding step_of
capped_checks end fragments lists highest id count id' count' t (plain list i payload) e h ceiling ts =
    elim (cases_Bool (fits t (4 + length payload))) [ inl x ↦ rw x refl | inr x ↦ rw x refl ]
capped_checks end fragments lists highest id count id' count' t (with_data list i payload content) e h ceiling ts =
    elim (cases_Bool (fits t (16 + length payload))) [ inl x ↦ rw x refl | inr x ↦ rw x refl ]
capped_checks end fragments lists highest id count id' count' t (branch list i payload first_id first_payload) e h ceiling ts =
    elim (cases_Bool (fits t (16 + length payload))) [ inl x ↦ rw x refl | inr x ↦ rw x refl ]

-- and where they pass, no number is capped
is_capped : (n : ℕ) → n < 2 ^ 32 → capped n ≡ n
is_capped n h = omega arith

count_passes : (n : ℕ) (b : Bool) → (leb (2 ^ 32) n || b) ≡ false → n < 2 ^ 32
count_passes n b e = grind (arith, nat_tests)

highest_passes : (n m : ℕ) → (leb (2 ^ 32) n || (true && leb (2 ^ 32) m)) ≡ false → m < 2 ^ 32
highest_passes n m e = grind (arith, nat_tests)

uncapped : (end fragments lists highest : ℕ) (t : CodeTail) (a : Add) (e ceiling : ℕ) (ts : List CodeTail)
    → Clean (step_checks e highest ceiling ts (step_of end fragments lists highest (highest + 1) (t.count + 1) t a))
    → step_of end fragments lists highest (capped (highest + 1)) (capped (t.count + 1)) t a ≡ step_of end fragments lists highest (highest + 1) (t.count + 1) t a
unfolding step_of
uncapped end fragments lists highest t (plain list i payload) e ceiling ts k =
    rw (is_capped (t.count + 1) (count_passes (t.count + 1) _ k.1.1.0)) refl
uncapped end fragments lists highest t (with_data list i payload content) e ceiling ts k =
    rw (is_capped (t.count + 1) (count_passes (t.count + 1) _ k.1.1.0)) refl
uncapped end fragments lists highest t (branch list i payload first_id first_payload) e ceiling ts k =
    rw (is_capped (t.count + 1) (count_passes (t.count + 1) _ k.1.1.0), is_capped (highest + 1) (highest_passes (t.count + 1) (highest + 1) k.1.1.0)) refl

-- what the code finds is what is told
module _ (s : Section) (y : Layout) (ps : List Part) (d : DraftLayout) (h : Holds s y ps d) (b : Bounds y) (ceiling : ℕ) (a : Add) (t : CodeTail)
    (id : ℕ) (own : list_of a ≡ id) (tail' : TailOf y id (Some t)) (size : too_large a ≡ false) (kind : bad_ids a ≡ false)
    (step : Step)
    (made : InReach d.end t → d.fragments ≤ 2048 → d.lists ≤ 1024 → too_large a ≡ false
    → step ≡ step_of d.end d.fragments d.lists d.highest (capped (d.highest + 1)) (capped (t.count + 1)) t a) where
  known : member (list_of a) (ids_of y.tails) ≡ true
  known = rw own tail'.0

  before : as_tail t ≡ find_tail y.tails (list_of a)
  before = rw own tail'.1

  planned_one : Planned y a (step_for y t a)
  planned_one = planned_step y t a known before size

  capped_step : step ≡ step_of y.end y.fragments y.lists y.highest (capped (y.highest + 1)) (capped (t.count + 1)) t a
  capped_step =
      let f = h.fragments in
      let l = h.lists in
      let bf = b.fragments in
      let bl = b.lists in
      let e = made (reach y t (list_of a) d.end b known before h.end') (omega arith) (omega arith) size in
      e ∙ rw (h.end', h.fragments, h.lists, h.highest) refl

  checks_alike : step_checks d.end d.highest ceiling d.touched step ≡ step_checks d.end d.highest ceiling d.touched (step_for y t a)
  checks_alike =
      ap (step_checks d.end d.highest ceiling d.touched) capped_step
      ∙ capped_checks y.end y.fragments y.lists y.highest (capped (y.highest + 1)) (capped (t.count + 1)) (y.highest + 1) (t.count + 1) t a d.end d.highest ceiling d.touched

  all_checks : add_checks ceiling y a ≡ (not (member (list_of a) (ids_of y.tails)), saving 17) ∷ (too_large a, saving 18) ∷ (bad_ids a, saving 19) ∷ step_checks d.end d.highest ceiling d.touched step
  all_checks =
      same_checks s y ps d h b ceiling a (step_for y t a) known planned_one
      ∙ ap (λ cs. (not (member (list_of a) (ids_of y.tails)), saving 17) ∷ (too_large a, saving 18) ∷ (bad_ids a, saving 19) ∷ cs) (sym checks_alike)

  told_err : (e : SaveFault) → ((rest : Outcome Effect) → unless (step_checks d.end d.highest ceiling d.touched step) rest ≡ refused (save_told e)) → Says {T = Step} (add_checks ceiling y a) (Err e)
  told_err e k rest =
      ap (λ cs. unless cs rest) all_checks
      ∙ first_three (member (list_of a) (ids_of y.tails)) (too_large a) (bad_ids a) (step_checks d.end d.highest ceiling d.touched step) known size kind (λ r. refused (save_told e)) k rest

  told_ok : Clean (step_checks d.end d.highest ceiling d.touched step) → Tells ceiling y a (Ok step)
  unfolding step_of
  told_ok k =
      let clean : Clean (add_checks ceiling y a) = subst Clean (sym all_checks) (rw known refl, (size, (kind, k))) in
      let k1 : Clean (step_checks d.end d.highest ceiling d.touched (step_for y t a)) = subst Clean checks_alike k in
      let k2 : Clean (step_checks d.end y.highest ceiling d.touched (step_for y t a)) = rw h.highest at k1 in
      let u = capped_step ∙ uncapped y.end y.fragments y.lists y.highest t a d.end ceiling d.touched k2 in
      let wide = passes_wide (length (planned y a).layout.touched) clean.1.1.1.0 in
      let full = passes_full (step_for y t a).lists (step_for y t a).fragments k1.1.0 in
      (clean, subst (λ p. Plans y a p) (sym u) (planned_one.plans (reach y t (list_of a) y.end b known before refl) wide full))
    where
      passes_wide : (n : ℕ) → ltb 16 n ≡ false → n ≤ 16
      passes_wide n e = grind (arith, nat_tests)

      passes_full : (l f : ℕ) → (ltb 1024 l || ltb 2048 f) ≡ false → f ≤ 2048
      passes_full l f e = grind (arith, nat_tests)

  pub told : (r : Result Step SaveFault) → Says (step_checks d.end d.highest ceiling d.touched step) r → IfOk r (λ p. p ≡ step) → Tells ceiling y a r
  told (Ok p) k e = rw e (told_ok k)
  told (Err f) k e = (told_err f k, e)

pub list_added : (a : NewAdd) → list_of (add_of a) ≡ a.list
list_added a = with_any a.with
  where
    with_any : (w : With) → list_of (add_with a.list a.id a.payload.now w) ≡ a.list
    with_any Nothing = refl
    with_any (Data content) = refl
    with_any (NewList first payload) = refl

pub row_told : (rows : List Row) (ts : List CodeTail) (id : ℕ) (t : CodeTail) (p : Step) → RowOf rows ts id (Some t) → p.before ≡ t → (r : Result Step SaveFault)
    → IfOk r (λ q. q ≡ p) → IfOk r (λ q. RowFor rows ts q.before)
row_told rows ts id t p f b (Ok q) e = rw (e, b) f.1
row_told rows ts id t p f b (Err x) e = tt
