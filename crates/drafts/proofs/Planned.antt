-- The step is what the rules plan.
use Rattle.std.proofs.Common.{◌≡◌, ℕ, ◌+◌, ◌-◌, ◌%◌, ◌≤◌, true, false, not, eqb, leb, List, [], ◌∷◌, ◌++◌, map, length, replicate, Some, None, Option, is_some, refl, ap, sym, ◌∙◌, inl, inr, arith}
use Rattle.std.proofs.lemmas.Bool.{cases_Bool}
use Rattle.std.proofs.lemmas.Bool.Decides.{nat_tests}
use Rattle.std.proofs.lemmas.List.{length-append, length-replicate, map-append}
use Rattle.model.specs.Bytes.{behind}
use Rattle.model.specs.References.{span}
use Rattle.model.specs.Nodes.{plain_node, referring_node}
use Rattle.model.specs.ListFragments.{nodes_to, new_fragment}
use Rattle.model.specs.Layouts.{Add, plain, with_data, branch, Tail, tail, Layout, member, touch, find_tail, touching, ending_at, more_fragments, more_lists}
use Rattle.model.specs.Saving.{at_end, with_node, planned}
use Rattle.model.specs.Calls.{list_of, too_large}
use Rattle.commits.specs.Parts.{part, node_part, new_parts}
use Rattle.commits.proofs.Sizes.{length_plain, length_referring, length_new_fragment}
use Rattle.writing.specs.declared.tails.Tail.{Tail as CodeTail}
use Rattle.writing.specs.Tails.{as_tail, InReach}
use Rattle.drafts.specs.declared.step.Step.{Step}
use Rattle.drafts.specs.Lays.{part_of}
use Rattle.drafts.specs.Steps.{one, next_eight, fits, moved, spilt, first_piece, highest_with, step_with, step_of, maybe}
use Rattle.drafts.specs.Plans.{Plans, Makes, Spills, branches, made_touched, made_tails, stepped}
use Rattle.drafts.proofs.Tails.{ids_of}
use Rattle.drafts.proofs.Stepped.{short}

-- a new piece ends at the next place divisible by 8
piece_end : (y : Layout) (new : List ℕ) → behind (at_end y new) ≡ next_eight (y.end + length new)
piece_end y new =
    let k = (8 - (y.end + length new) % 8) % 8 in
    let zeros : List ℕ = replicate k 0 in
    let n : length (new ++ zeros) ≡ length new + length zeros = length-append new zeros in
    let m : length zeros ≡ k = length-replicate k 0 in
    omega arith

fragment_end : (y : Layout) (id number : ℕ) (node : List ℕ) → length node ≤ 988 → behind (at_end y (new_fragment id number node)) ≡ next_eight (y.end + 1024)
fragment_end y id number node h = piece_end y (new_fragment id number node) ∙ ap (λ n. next_eight (y.end + n)) (length_new_fragment id number node h)

layout_is : {e e' f f' l l' h h' : ℕ} {ids ids' : List ℕ} {ts ts' : List Tail} → e ≡ e' → f ≡ f' → l ≡ l' → h ≡ h' → ids ≡ ids' → ts ≡ ts'
    → (let y : Layout = record { end = e; fragments = f; lists = l; touched = ids; tails = ts; highest = h } in y)
    ≡ record { end = e'; fragments = f'; lists = l'; touched = ids'; tails = ts'; highest = h' }
layout_is a b c d i t = rw (a, b, c, d, i, t) refl

find_front : (ts us : List Tail) (id : ℕ) → member id (ids_of ts) ≡ true → find_tail (ts ++ us) id ≡ find_tail ts id
unfolding find_tail
find_front [] us id m = absurd (grind arith)
find_front (t ∷ ts) us id m = elim (cases_Bool (eqb t.id id)) [
  | inl e ↦ rw e refl
  | inr e ↦ rw e (find_front ts us id (rw e at m))
]

-- the plan for a node, over a layout z, to the list with the tail t
module _ (z : Layout) (t : CodeTail) (new : List ℕ) (size : ℕ) (found : find_tail z.tails t.list ≡ as_tail t) (len : length new ≡ size) (few : size ≤ 988) where
  node_fits : fits t size ≡ true
      → (with_node z t.list new).layout ≡ touching (tail t.list t.fragment t.number (t.free + size) (t.count + 1)) z
  node_fits e = rw (found, len, e) refl

  node_spills : fits t size ≡ false
      → (with_node z t.list new).layout ≡ touching (tail t.list (span z.end 1024) (t.number + 1) (z.end + 16 + size) (t.count + 1)) (more_fragments (ending_at (next_eight (z.end + 1024)) z))
  node_spills e =
      let g = fragment_end z t.list (t.number + 1) new (omega arith) in
      let e1 : leb (t.free + length new) (nodes_to t.fragment) ≡ false = rw len e in
      rw (found, e1) (
      ap (λ k. touching (tail t.list (span z.end 1024) (t.number + 1) (z.end + 16 + length new) (t.count + 1)) (more_fragments (ending_at k z))) g
      ∙ ap (λ n. touching (tail t.list (span z.end 1024) (t.number + 1) (z.end + 16 + n) (t.count + 1)) (more_fragments (ending_at (next_eight (z.end + 1024)) z))) len)

  parts_fit : fits t size ≡ true → node_part z t.list new ≡ []
  parts_fit e = rw (found, len, e) refl

  parts_spill : fits t size ≡ false → node_part z t.list new ≡ part t.list t.count (span z.end 1024) ∷ []
  parts_spill e = rw (found, len, e) refl

-- the layout before the node, where a list was made, if one is
abbrev middle : Layout → Add → ℕ → Option CodeTail → ℕ → Layout
middle y a at made list =
    record {
      end = at;
      fragments = y.fragments + one (is_some made);
      lists = y.lists + one (is_some made);
      touched = made_touched list made y.touched;
      tails = made_tails made y.tails;
      highest = highest_with y.highest made;
    }

abbrev going : Layout → ℕ → ℕ → Option CodeTail → CodeTail → Step
going y at size made t = step_with at (y.fragments + one (is_some made)) (y.lists + one (is_some made)) (highest_with y.highest made) size (t.count + 1) made t

-- a step is planned: the layout is its, and the rest follows if there is room
pub record Planned (y : Layout) (a : Add) (p : Step) : Type 0 where
  pub layout : (planned y a).layout ≡ stepped y p
  pub before : as_tail p.before ≡ find_tail y.tails (list_of a)
  pub list : p.tail.list ≡ list_of a
  pub count : p.tail.count ≡ p.before.count + 1
  pub makes : Makes y.highest y.lists p p.made
  pub plans : InReach y.end p.before → length (planned y a).layout.touched ≤ 16 → p.fragments ≤ 2048 → Plans y a p

first_length : (made : Option CodeTail) → length (maybe (first_piece made)) ≡ one (is_some made)
first_length None = refl
first_length (Some m) = refl

module _ (y : Layout) (a : Add) (t : CodeTail) (made : Option CodeTail) (at size : ℕ) (new : List ℕ)
    (found : find_tail (made_tails made y.tails) t.list ≡ as_tail t) (len : length new ≡ size) (few : size ≤ 988) where
  to_step : (with_node (middle y a at made t.list) t.list new).layout ≡ stepped y (going y at size made t)
  to_step = elim (cases_Bool (fits t size)) [
    | inl e ↦ node_fits (middle y a at made t.list) t new size found len few e ∙ rw e (layout_is refl (omega arith) refl refl refl refl)
    | inr e ↦ node_spills (middle y a at made t.list) t new size found len few e ∙ rw e (layout_is refl refl refl refl refl refl)
  ]

  to_parts : node_part (middle y a at made t.list) t.list new ≡ map part_of (maybe (spilt t at size))
  to_parts = elim (cases_Bool (fits t size)) [
    | inl e ↦ parts_fit (middle y a at made t.list) t new size found len few e ∙ rw e refl
    | inr e ↦ parts_spill (middle y a at made t.list) t new size found len few e ∙ rw e refl
  ]

  same_list : (moved t at size (t.count + 1)).list ≡ t.list
  same_list = elim (cases_Bool (fits t size)) [ inl e ↦ rw e refl | inr e ↦ rw e refl ]

  same_row : (moved t at size (t.count + 1)).row ≡ t.row
  same_row = elim (cases_Bool (fits t size)) [ inl e ↦ rw e refl | inr e ↦ rw e refl ]

  next_count : (moved t at size (t.count + 1)).count ≡ t.count + 1
  next_count = elim (cases_Bool (fits t size)) [ inl e ↦ rw e refl | inr e ↦ rw e refl ]

  spills_one : Spills (moved t at size (t.count + 1)) (spilt t at size)
  spills_one = elim (cases_Bool (fits t size)) [ inl e ↦ rw e tt | inr e ↦ rw e (refl, refl) ]

  spilt_length : length (maybe (spilt t at size)) ≡ one (not (fits t size))
  spilt_length = elim (cases_Bool (fits t size)) [ inl e ↦ rw e refl | inr e ↦ rw e refl ]

  planned_with : member (list_of a) (ids_of y.tails) ≡ true → as_tail t ≡ find_tail y.tails (list_of a) → t.list ≡ list_of a
      → (planned y a).layout ≡ (with_node (middle y a at made t.list) t.list new).layout
      → new_parts y a ≡ map part_of (maybe (first_piece made)) ++ node_part (middle y a at made t.list) t.list new
      → is_some made ≡ branches a → Makes y.highest y.lists (going y at size made t) made → Planned y a (going y at size made t)
  planned_with known before own l ps branch' makes =
      let n = length-append (maybe (first_piece made)) (maybe (spilt t at size)) in
      let n1 = first_length made in
      let n2 = spilt_length in
      record {
        layout = l ∙ to_step;
        before = before;
        list = same_list ∙ own;
        count = next_count;
        makes = makes;
        plans = λ reach touched fragments. record {
          known = known;
          before = before;
          reach = reach;
          layout = l ∙ to_step;
          parts = ps ∙ ap (λ qs. map part_of (maybe (first_piece made)) ++ qs) to_parts ∙ sym (map-append part_of (maybe (first_piece made)) (maybe (spilt t at size)));
          fragments = omega arith;
          list = same_list ∙ own;
          same = same_list;
          row = same_row;
          branch' = branch';
          makes = makes;
          first = refl;
          spills = spills_one;
          few_touched = touched;
          few_fragments = fragments;
        };
      }

found_id : (ts : List Tail) (id : ℕ) → member id (ids_of ts) ≡ true → (find_tail ts id).id ≡ id
unfolding find_tail
found_id [] id m = absurd (grind arith)
found_id (t ∷ ts) id m = elim (cases_Bool (eqb t.id id)) [
  | inl e ↦ rw e (grind (arith, nat_tests))
  | inr e ↦ rw e (found_id ts id (rw e at m))
]

-- each kind of add --------------------------------------------------------------------------------------------------------------

abbrev pub step_for : Layout → CodeTail → Add → Step
step_for y t a = step_of y.end y.fragments y.lists y.highest (y.highest + 1) (t.count + 1) t a

none_more : (y : Layout) (a : Add) (at list : ℕ) → ending_at at y ≡ middle y a at None list
none_more y a at list = layout_is refl (omega arith) (omega arith) refl refl refl

short_first : (list id : ℕ) (payload : List ℕ) (first_id : ℕ) (first_payload : List ℕ) → too_large (branch list id payload first_id first_payload) ≡ false → 4 + length first_payload ≤ 988
short_first list id payload first_id first_payload e = grind (arith, nat_tests)

pub planned_step : (y : Layout) (t : CodeTail) (a : Add) → member (list_of a) (ids_of y.tails) ≡ true → as_tail t ≡ find_tail y.tails (list_of a) → too_large a ≡ false → Planned y a (step_for y t a)
unfolding planned new_parts step_of
planned_step y t (plain list id payload) known before large =
    let a : Add = plain list id payload in
    let new = plain_node id payload in
    let own : t.list ≡ list = ap (λ (u : Tail). u.id) before ∙ found_id y.tails list known in
    let z = none_more y a y.end t.list in
    planned_with y a t None y.end (4 + length payload) new (ap (find_tail y.tails) own ∙ sym before) (length_plain id payload) (short a large) known before own
    (ap (λ l. (with_node y l new).layout) (sym own) ∙ ap (λ w. (with_node w t.list new).layout) z)
    (ap (λ l. node_part y l new) (sym own) ∙ ap (λ w. node_part w t.list new) z)
    refl (refl, omega arith)
planned_step y t (with_data list id payload content) known before large =
    let a : Add = with_data list id payload content in
    let new = referring_node id 1 (span y.end (length content)) payload in
    let own : t.list ≡ list = ap (λ (u : Tail). u.id) before ∙ found_id y.tails list known in
    let at = next_eight (y.end + length content) in
    let z : ending_at (behind (at_end y content)) y ≡ middle y a at None t.list = ap (λ e. ending_at e y) (piece_end y content) ∙ none_more y a at t.list in
    planned_with y a t None at (16 + length payload) new (ap (find_tail y.tails) own ∙ sym before) (length_referring id 1 (span y.end (length content)) payload) (short a large) known before own
    (ap (λ l. (with_node (ending_at (behind (at_end y content)) y) l new).layout) (sym own) ∙ ap (λ w. (with_node w t.list new).layout) z)
    (ap (λ l. node_part (ending_at (behind (at_end y content)) y) l new) (sym own) ∙ ap (λ w. node_part w t.list new) z)
    refl (refl, omega arith)
planned_step y t (branch list id payload first_id first_payload) known before large =
    let a : Add = branch list id payload first_id first_payload in
    let own : t.list ≡ list = ap (λ (u : Tail). u.id) before ∙ found_id y.tails list known in
    let first = plain_node first_id first_payload in
    let made = y.highest + 1 in
    let fresh = span y.end 1024 in
    let new = referring_node id 2 fresh payload in
    let at = next_eight (y.end + 1024) in
    let m : CodeTail = record { list = made; row = y.lists; fragment = fresh; number = 0; free = y.end + 16 + (4 + length first_payload); count = 1 } in
    let n = length_plain first_id first_payload in
    let few : length first ≤ 988 = rw n (short_first list id payload first_id first_payload large) in
    let z : more_lists list (tail made fresh 0 (y.end + 16 + length first) 1) (more_fragments (ending_at (behind (at_end y (new_fragment made 0 first))) y)) ≡ middle y a at (Some m) t.list
    = layout_is (fragment_end y made 0 first few) refl refl refl (ap (λ l. touch made (touch l y.touched)) (sym own)) (ap (λ k. y.tails ++ (tail made fresh 0 (y.end + 16 + k) 1 ∷ [])) n) in
    let w = more_lists list (tail made fresh 0 (y.end + 16 + length first) 1) (more_fragments (ending_at (behind (at_end y (new_fragment made 0 first))) y)) in
    let k : member t.list (ids_of y.tails) ≡ true = rw own known in
    planned_with y a t (Some m) at (16 + length payload) new (find_front y.tails (as_tail m ∷ []) t.list k ∙ ap (find_tail y.tails) own ∙ sym before)
    (length_referring id 2 fresh payload) (short a large) known before own
    (ap (λ l. (with_node w l new).layout) (sym own) ∙ ap (λ u. (with_node u t.list new).layout) z)
    (ap (λ ps. part made 0 fresh ∷ ps) (ap (λ l. node_part w l new) (sym own) ∙ ap (λ u. node_part u t.list new) z))
    refl (refl, refl, refl, refl)
