-- One add over an accepted file: it keeps what is known of a draft's layout, and writes to the free zone only.
use Rattle.std.proofs.Common.{◌≡◌, ℕ, ◌+◌, ◌<◌, ◌≤◌, true, cond, eqb, leb, List, [], ◌∷◌, ◌++◌, map, length, refl, ap, ◌∙◌, inl, inr, arith}
use Rattle.std.specs.List.{AllByRecursion}
use Rattle.std.proofs.lemmas.Bool.{cases_Bool, cond_both, leb-true}
use Rattle.std.proofs.lemmas.Bool.Decides.{nat_tests}
use Rattle.std.proofs.ByRecursion.{All-append, All-weaker}
use Rattle.model.specs.declared.types.Span.{Span}
use Rattle.model.specs.Bytes.{Write, put, behind, Bytes}
use Rattle.model.specs.References.{span, end_of, span_bytes}
use Rattle.model.specs.Nodes.{plain_node, referring_node, terminator}
use Rattle.model.specs.ListFragments.{nodes_from, nodes_to, new_fragment}
use Rattle.model.specs.Section.{NodeList, Section}
use Rattle.model.specs.Layouts.{Add, plain, with_data, branch, Tail, tail, Layout, member, find_tail, ending_at, more_fragments, more_lists}
use Rattle.model.specs.Saving.{at_end, Plan, after_write, fitting, spilling, with_node, planned}
use Rattle.model.specs.Calls.{add_checks}
use Rattle.model.specs.Journal.{FitAdd}
use Rattle.model.specs.Laws.{past_end, in_list, last_fragment, Free}
use Rattle.meaning.proofs.Base.{Clean}
use Rattle.meaning.proofs.Members.{In, has_from_in}
use Rattle.commits.proofs.Sizes.{length_digits, length_span_bytes, length_plain, length_referring, length_new_fragment}
use Rattle.commits.proofs.Sums.{digits_bytes}
use Rattle.commits.proofs.Drafts.{tails_with}
use Rattle.lasting.proofs.Sizes.{piece_ends, span_bytes_bytes, plain_bytes, referring_bytes, fragment_bytes}
use Rattle.lasting.proofs.Steps.{Steps, steps_append, steps_none, steps_at_end, steps_within}

-- ---- what is known of a draft over s

-- the last fragment of a list is the one that it has in s, where its nodes end no earlier, or one that the draft made
pub data Grown (s : Section) (t : Tail) : Type 0 where
  old : (l : NodeList) → In l s.lists → t.fragment ≡ last_fragment l.fragments → l.free ≤ t.free → Grown s t
  fresh : s.header.end ≤ t.fragment.start → Grown s t

pub record TailHeld (s : Section) (end : ℕ) (t : Tail) : Type 0 where
  pub grown : Grown s t
  pub size : 36 ≤ t.fragment.size
  pub to : end_of t.fragment ≤ end
  pub free_from : nodes_from t.fragment ≤ t.free
  pub free_to : t.free ≤ nodes_to t.fragment

pub record DraftHeld (s : Section) (y : Layout) : Type 0 where
  pub end : s.header.end ≤ y.end
  pub tails : AllByRecursion (TailHeld s y.end) y.tails

-- a plan keeps it, and writes to the free zone
pub record Kept (s : Section) (y : Layout) (p : Plan) : Type 0 where
  pub held : DraftHeld s p.layout
  pub steps : Steps s y.end p.layout.end p.writes

-- ---- tails

find_held : (P : Tail → Type 0) (ts : List Tail) (id : ℕ) → AllByRecursion P ts → member id (map (λ t. t.id) ts) ≡ true → P (find_tail ts id)
unfolding find_tail
find_held P [] id a m = absurd (grind arith)
find_held P (t ∷ ts) id a m = cond_both (eqb t.id id) t (find_tail ts id) P (λ e. a.0) (λ e. find_held P ts id a.1 (grind (arith, nat_tests)))

member_append : (id : ℕ) (ts us : List Tail) → member id (map (λ t. t.id) ts) ≡ true → member id (map (λ t. t.id) (ts ++ us)) ≡ true
member_append id [] us m = absurd (grind arith)
member_append id (t ∷ ts) us m = elim (cases_Bool (eqb t.id id)) [
  | inl e ↦ rw e
  | inr e ↦ let ih = member_append id ts us (grind (arith, nat_tests)) in rw e ih
]

-- at a later end
tails_later : (s : Section) (a b : ℕ) (ts : List Tail) → a ≤ b → AllByRecursion (TailHeld s a) ts → AllByRecursion (TailHeld s b) ts
tails_later s a b ts h x =
    All-weaker (TailHeld s a) (TailHeld s b) (λ t y. record { grown = y.grown; size = y.size; to = omega arith; free_from = y.free_from; free_to = y.free_to }) ts x

-- what stands behind the last node of a tail, up to the last mark, is free
tail_free : {s : Section} {t : Tail} → Grown s t → nodes_from t.fragment ≤ t.free → (i : ℕ) → t.free ≤ i → i + 8 < end_of t.fragment → Free s i
tail_free {s} {t} (old l j e k) f i x y =
    in_list (has_from_in s.lists l j) (omega arith) (let z : end_of t.fragment ≡ end_of (last_fragment l.fragments) = ap end_of e in omega arith)
tail_free (fresh e) f i x y = past_end (omega arith)

grown_more : {s : Section} {t : Tail} (u : Tail) → Grown s t → u.fragment ≡ t.fragment → t.free ≤ u.free → Grown s u
grown_more u (old l i e k) f h = old l i (f ∙ e) (omega arith)
grown_more u (fresh e) f h = fresh (rw f e)

-- ---- one node

-- the old fragment's terminator and next reference
module _ {s : Section} {a b : ℕ} {t : Tail} (x : TailHeld s a t) (h : a ≤ b) where
  steps_terminator : t.free + 4 ≤ nodes_to t.fragment → Steps s b b (put t.free terminator ∷ [])
  steps_terminator k =
      let n = length_digits 4 0x800010FF in
      steps_within t.free terminator (omega arith) (digits_bytes 4 0x800010FF) (λ i u v. tail_free x.grown x.free_from i u (omega arith))

  steps_close : Steps s b b (cond (leb (t.free + 4) (nodes_to t.fragment)) (put t.free terminator ∷ []) [])
  steps_close =
      let room = λ (e : leb (t.free + 4) (nodes_to t.fragment) ≡ true). steps_terminator (leb-true (t.free + 4) (nodes_to t.fragment) e) in
      cond_both (leb (t.free + 4) (nodes_to t.fragment)) (put t.free terminator ∷ []) [] (Steps s b b) room (λ e. steps_none)

  steps_next : (r : Span) → Steps s b b (put (nodes_to t.fragment) (span_bytes r) ∷ [])
  steps_next r =
      let n = length_span_bytes r in
      let free : (i : ℕ) → nodes_to t.fragment ≤ i → i < nodes_to t.fragment + length (span_bytes r) → Free s i
      = λ i u v. tail_free x.grown x.free_from i (omega arith) (omega arith) in
      steps_within (nodes_to t.fragment) (span_bytes r) (omega arith) (span_bytes_bytes r) free

module _ {s : Section} {y : Layout} (d : DraftHeld s y) (id : ℕ) (new : List ℕ) (bytes : Bytes new) (t : Tail) (x : TailHeld s y.end t) where
  -- behind the last node
  kept_fitting : t.free + length new ≤ nodes_to t.fragment → Kept s y (fitting y id new t)
  kept_fitting k =
      let u : Tail = tail id t.fragment t.number (t.free + length new) (t.count + 1) in
      let held : TailHeld s y.end u
      = record { grown = grown_more u x.grown refl (omega arith); size = x.size; to = x.to; free_from = omega arith; free_to = omega arith } in
      record {
        held = record { end = d.end; tails = tails_with (TailHeld s y.end) u y.tails held d.tails };
        steps = steps_within t.free new (omega arith) bytes (λ i u v. tail_free x.grown x.free_from i u (omega arith));
      }

  -- in a new fragment
  kept_spilling : length new ≤ 988 → Kept s y (spilling y id new t)
  kept_spilling small =
      let f = span y.end 1024 in
      let new_piece = new_fragment id (t.number + 1) new in
      let z = length_new_fragment id (t.number + 1) new small in
      let p = piece_ends y new_piece in
      let end = behind (at_end y new_piece) in
      let q : y.end + 1024 ≤ end = omega arith in
      let u : Tail = tail id f (t.number + 1) (nodes_from f + length new) (t.count + 1) in
      let held : TailHeld s end u = record { grown = fresh d.end; size = omega arith; to = q; free_from = omega arith; free_to = omega arith } in
      let close : Steps s end end _ = steps_append (steps_close x (omega arith)) (steps_next x (omega arith) f) in
      record {
        held = record { end = omega arith; tails = tails_with (TailHeld s end) u y.tails held (tails_later s y.end end y.tails (omega arith) d.tails) };
        steps = steps_append (steps_at_end y new_piece d.end (fragment_bytes id (t.number + 1) new bytes)) close;
      }

kept_node : {s : Section} {y : Layout} (id : ℕ) (new : List ℕ) → DraftHeld s y → member id (map (λ t. t.id) y.tails) ≡ true → length new ≤ 988 → Bytes new
    → Kept s y (with_node y id new)
kept_node {s} {y} id new d m small bytes =
    let t = find_tail y.tails id in
    let x = find_held (TailHeld s y.end) y.tails id d.tails m in
    let fits = λ (e : leb (t.free + length new) (nodes_to t.fragment) ≡ true). kept_fitting d id new bytes t x (leb-true (t.free + length new) (nodes_to t.fragment) e) in
    cond_both (leb (t.free + length new) (nodes_to t.fragment)) (fitting y id new t) (spilling y id new t) (Kept s y) fits (λ e. kept_spilling d id new bytes t x small)

-- ---- adds

-- with a write before the others
kept_after : {s : Section} {y z : Layout} {w : Write} {p : Plan} → Steps s y.end z.end (w ∷ []) → Kept s z p → Kept s y (after_write w p)
kept_after a k = record { held = k.held; steps = steps_append a k.steps }

held_later : {s : Section} {y : Layout} (end : ℕ) → DraftHeld s y → y.end ≤ end → DraftHeld s (ending_at end y)
held_later {s} {y} end d h = record { end = omega arith; tails = tails_later s y.end end y.tails h d.tails }

held_list : {s : Section} {y : Layout} (parent made end size : ℕ) → DraftHeld s y → size ≤ 988 → y.end + 1024 ≤ end
    → DraftHeld s (more_lists parent (tail made (span y.end 1024) 0 (nodes_from (span y.end 1024) + size) 1) (more_fragments (ending_at end y)))
held_list {s} {y} parent made end size d small h =
    let f = span y.end 1024 in
    let t : Tail = tail made f 0 (nodes_from f + size) 1 in
    let old_tails = tails_later s y.end end y.tails (omega arith) d.tails in
    let held : TailHeld s end t = record { grown = fresh d.end; size = omega arith; to = h; free_from = omega arith; free_to = omega arith } in
    record { end = omega arith; tails = All-append (TailHeld s end) y.tails (t ∷ []) old_tails (held, tt) }

-- ADD: one that passes its checks keeps what is known of the draft, and writes to the free zone
pub kept_planned : {s : Section} {y : Layout} (ceiling : ℕ) (a : Add) → DraftHeld s y → FitAdd a → Clean (add_checks ceiling y a) → Kept s y (planned y a)
unfolding planned
kept_planned {s} {y} ceiling (plain list id payload) d fit p =
    let k : 4 + length payload ≤ 988 = grind (arith, nat_tests) in
    kept_node list (plain_node id payload) d (grind (arith, nat_tests)) (omega (arith, length_plain id payload)) (plain_bytes id payload fit)
kept_planned {s} {y} ceiling (with_data list id payload content) d fit p =
    let r = span y.end (length content) in
    let node = referring_node id 1 r payload in
    let k : 16 + length payload ≤ 988 = grind (arith, nat_tests) in
    let q = piece_ends y content in
    let z = length_referring id 1 r payload in
    let first = steps_at_end {s = s} y content d.end fit.1 in
    kept_after first (kept_node list node (held_later _ d (omega arith)) (grind (arith, nat_tests)) (omega arith) (referring_bytes id 1 r payload fit.0))
kept_planned {s} {y} ceiling (branch list id payload first_id first_payload) d fit p =
    let r = span y.end 1024 in
    let made = y.highest + 1 in
    let first_node = plain_node first_id first_payload in
    let k : 16 + length payload ≤ 988 = grind (arith, nat_tests) in
    let f : 4 + length first_payload ≤ 988 = grind (arith, nat_tests) in
    let g : length first_node ≤ 988 = omega (arith, length_plain first_id first_payload) in
    let new_piece = new_fragment made 0 first_node in
    let z = length_new_fragment made 0 first_node g in
    let q = piece_ends y new_piece in
    let n = length_referring id 2 r payload in
    let m : member list (map (λ t. t.id) y.tails) ≡ true = grind (arith, nat_tests) in
    let first = steps_at_end {s = s} y new_piece d.end (fragment_bytes made 0 first_node (plain_bytes first_id first_payload fit.1)) in
    let held = held_list list made (behind (at_end y new_piece)) (length first_node) d g (omega arith) in
    kept_after first (kept_node list (referring_node id 2 r payload) held (member_append list y.tails _ m) (omega arith) (referring_bytes id 2 r payload fit.0))
