-- What a step makes of a draft.
use Rattle.std.proofs.Common.{◌≡◌, ℕ, ◌≤◌, true, false, cond, ◌||◌, eqb, List, [], ◌∷◌, ◌++◌, map, length, Bool, Some, None, Option, refl, ap, subst, sym, ◌∙◌, inl, inr, arith}
use Rattle.std.proofs.lemmas.Bool.{cases_Bool}
use Rattle.std.proofs.lemmas.Bool.Decides.{nat_tests}
use Rattle.std.proofs.lemmas.List.{length-append, length-map, append-nil, append_assoc, map-append}
use Rattle.model.specs.Section.{Section}
use Rattle.model.specs.Layouts.{Add, Tail, Layout, tail_of, member, touch, find_tail, touching, blank}
use Rattle.model.specs.Saving.{planned, laid, layout}
use Rattle.commits.specs.Parts.{Part, new_parts, parts}
use Rattle.pieces.specs.declared.piece.Piece.{Piece}
use Rattle.writing.specs.declared.tails.Tail.{Tail as CodeTail}
use Rattle.writing.specs.Tails.{as_tail}
use Rattle.drafts.specs.declared.layout.DraftLayout.{DraftLayout}
use Rattle.drafts.specs.declared.step.Step.{Step}
use Rattle.drafts.specs.Lays.{Holds, Lays, tail_in, part_of}
use Rattle.drafts.specs.Steps.{maybe, pieces_of}
use Rattle.drafts.specs.Plans.{Plans, Makes, made_touched, made_tails, stepped}
use Rattle.drafts.specs.Looked.{put_tail, put_made}
use Rattle.drafts.proofs.Tails.{ids_of, lists_of, member_touch, touch_again, member_with, find_with, member_more, find_more, put_ids, put_in}

-- the calls append an add, the definitions begin with the first ---------------------------------------------------------------

laid_push : (y : Layout) (adds : List Add) (a : Add) → laid y (adds ++ (a ∷ [])) ≡ (planned (laid y adds) a).layout
unfolding laid
laid_push y [] a = refl
laid_push y (x ∷ xs) a = laid_push (planned y x).layout xs a

parts_push : (y : Layout) (adds : List Add) (a : Add) → parts y (adds ++ (a ∷ [])) ≡ parts y adds ++ new_parts (laid y adds) a
unfolding parts laid
parts_push y [] a = append-nil (new_parts y a)
parts_push y (x ∷ xs) a =
    ap (λ ps. new_parts y x ++ ps) (parts_push (planned y x).layout xs a)
    ∙ sym (append_assoc (new_parts y x) (parts (planned y x).layout xs) (new_parts (laid (planned y x).layout xs) a))

pub own_touched : (x m : ℕ) (ids : List ℕ) → member x (touch m (touch x ids)) ≡ true
own_touched x m ids = member_touch x m (touch x ids) ∙ ap (λ b. b || eqb m x) (member_touch x x ids) ∙ grind (arith, nat_tests)

-- a step over a layout -------------------------------------------------------------------------------------------------------

-- the draft after a step
abbrev pub after : DraftLayout → Step → DraftLayout
after d p =
    record {
      end = p.end;
      fragments = p.fragments;
      lists = p.lists;
      highest = p.highest;
      touched = put_made p.made (put_tail p.tail d.touched);
      added = (d.added ++ maybe p.made_piece) ++ maybe p.piece;
    }

one_more : (T S E : Bool) → (E ≡ true → (T || S) ≡ true) → (T || S) ≡ ((T || E) || S)
one_more true S E h = refl
one_more false S false h = refl
one_more false S true h = h refl

two_more : (T S E M : Bool) → (E ≡ true → (T || S) ≡ true) → ((T || S) || M) ≡ (((T || E) || M) || S)
two_more true S E M h = refl
two_more false true true M h = refl
two_more false true false true h = refl
two_more false true false false h = refl
two_more false false true M h = absurd (let e = h refl in cc)
two_more false false false true h = refl
two_more false false false false h = refl

swapped : {X : Type 0} (E M : Bool) (x y z : X) → (E ≡ true → M ≡ false) → cond E x (cond M y z) ≡ cond M y (cond E x z)
swapped true true x y z h = absurd (let e = h refl in cc)
swapped true false x y z h = refl
swapped false M x y z h = refl

-- what is told of the lists after a step, by what the step makes: the touched ones, and the tails by their IDs
pub record Moves (s : Section) (ts : List CodeTail) (t : CodeTail) (made : Option CodeTail) (z : Layout) : Type 0 where
  pub touched : lists_of (put_made made (put_tail t ts)) ≡ z.touched
  pub tails : (id : ℕ) → find_tail z.tails id ≡ tail_in (put_made made (put_tail t ts)) (map tail_of s.lists) id
  pub known : (id : ℕ) → member id (ids_of z.tails) ≡ (member id z.touched || member id (map (λ l. l.id) s.lists))
  pub below : (id : ℕ) → member id (ids_of z.tails) ≡ true → id ≤ z.highest

module _ (s : Section) (y : Layout) (ps : List Part) (d : DraftLayout) (h : Holds s y ps d) (p : Step) (k : member p.tail.list (ids_of y.tails) ≡ true) where
  -- an ID is that of the list itself, so it is known
  same_known : (id : ℕ) → eqb p.tail.list id ≡ true → (member id y.touched || member id (map (λ l. l.id) s.lists)) ≡ true
  same_known id e = let f : p.tail.list ≡ id = grind (arith, nat_tests) in sym (h.known id) ∙ rw f at k

  pub moves : (made : Option CodeTail) → Makes y.highest y.lists p made
      → Moves s d.touched p.tail made
      (touching (as_tail p.tail) (record {
        end = p.end;
        fragments = p.fragments;
        lists = p.lists;
        touched = made_touched p.tail.list made y.touched;
        tails = made_tails made y.tails;
        highest = p.highest;
      }))
  moves None (e, l) =
      let t : CodeTail = p.tail in
      record {
        touched = put_ids t d.touched ∙ ap (touch t.list) h.touched;
        tails = λ id. find_with (as_tail t) y.tails id k ∙ ap (λ u. cond (eqb t.list id) (as_tail t) u) (h.tails id) ∙ sym (put_in t d.touched (map tail_of s.lists) id);
        known = λ id.
            let S = member id (map (λ l. l.id) s.lists) in
            member_with (as_tail t) y.tails id ∙ h.known id ∙ one_more (member id y.touched) S (eqb t.list id) (same_known id) ∙ ap (λ b. b || S) (sym (member_touch id t.list y.touched));
        below = λ id m. let b = h.below id (sym (member_with (as_tail t) y.tails id) ∙ m) in omega arith;
      }
  moves (Some m) (i, r, e, l) =
      let t : CodeTail = p.tail in
      let us : List CodeTail = put_tail t d.touched in
      let ts : List Tail = y.tails ++ (as_tail m ∷ []) in
      let low = h.below t.list k in
      let new : member m.list (ids_of y.tails) ≡ false = elim (cases_Bool (member m.list (ids_of y.tails))) [ inl x ↦ (let b = h.below m.list x in absurd (omega arith)) | inr x ↦ x ] in
      let both : member t.list (ids_of ts) ≡ true = member_more (as_tail m) y.tails t.list ∙ rw k refl in
      let apart : (id : ℕ) → eqb t.list id ≡ true → eqb m.list id ≡ false = λ id x. grind (arith, nat_tests) in
      let twice : touch t.list (touch m.list (touch t.list y.touched)) ≡ touch m.list (touch t.list y.touched)
      = touch_again t.list (touch m.list (touch t.list y.touched)) (own_touched t.list m.list y.touched) in
      record {
        touched = put_ids m us ∙ ap (touch m.list) (put_ids t d.touched ∙ ap (touch t.list) h.touched) ∙ sym twice;
        tails = λ id.
            find_with (as_tail t) ts id both
            ∙ ap (λ u. cond (eqb t.list id) (as_tail t) u) (find_more (as_tail m) y.tails id new ∙ ap (λ u. cond (eqb m.list id) (as_tail m) u) (h.tails id))
            ∙ swapped (eqb t.list id) (eqb m.list id) (as_tail t) (as_tail m) (tail_in d.touched (map tail_of s.lists) id) (apart id)
            ∙ sym (put_in m us (map tail_of s.lists) id ∙ ap (λ u. cond (eqb m.list id) (as_tail m) u) (put_in t d.touched (map tail_of s.lists) id));
        known = λ id.
            let S = member id (map (λ l. l.id) s.lists) in
            member_with (as_tail t) ts id ∙ member_more (as_tail m) y.tails id ∙ ap (λ b. b || eqb m.list id) (h.known id)
            ∙ two_more (member id y.touched) S (eqb t.list id) (eqb m.list id) (same_known id)
            ∙ ap (λ b. b || S) (sym (ap (member id) twice ∙ member_touch id m.list (touch t.list y.touched) ∙ ap (λ b. b || eqb m.list id) (member_touch id t.list y.touched)));
        below = λ id x.
            let z : (member id (ids_of y.tails) || eqb m.list id) ≡ true = sym (member_with (as_tail t) ts id ∙ member_more (as_tail m) y.tails id) ∙ x in
            elim (cases_Bool (member id (ids_of y.tails))) [
              | inl q ↦ let b = h.below id q in omega arith
              | inr q ↦ let g : m.list ≡ id = grind (arith, nat_tests) in omega arith
            ];
      }

  -- all that a draft has, after the step
  pub holds_after : (a : Add) → Plans y a p → Holds s (stepped y p) (ps ++ new_parts y a) (after d p)
  holds_after a w =
      let m = moves p.made w.makes in
      let n = length-append (d.added ++ maybe p.made_piece) (maybe p.piece) in
      let n1 = length-append d.added (maybe p.made_piece) in
      let n2 = length-append (maybe p.made_piece) (maybe p.piece) in
      let f = w.fragments in
      let g = h.fragments in
      let few = h.few in
      record {
        end' = refl;
        fragments = refl;
        lists = refl;
        highest = refl;
        touched = m.touched;
        tails = m.tails;
        known = m.known;
        parts = ap (map part_of) (append_assoc d.added (maybe p.made_piece) (maybe p.piece)) ∙ map-append part_of d.added (pieces_of p)
            ∙ ap (λ qs. qs ++ map part_of (pieces_of p)) h.parts ∙ ap (λ qs. ps ++ qs) (sym w.parts);
        below = m.below;
        few = omega arith;
      }

pub taken : (s : Section) (adds : List Add) (a : Add) (d : DraftLayout) (p : Step) → Lays s adds d → Plans (layout s adds) a p → Lays s (adds ++ (a ∷ [])) (after d p)
taken s adds a d p h w =
    let k : member p.tail.list (ids_of (layout s adds).tails) ≡ true = rw w.list w.known in
    let g = holds_after s (layout s adds) (parts (blank s) adds) d h p k a w in
    let y : layout s (adds ++ (a ∷ [])) ≡ stepped (layout s adds) p = laid_push (blank s) adds a ∙ w.layout in
    subst (λ z. Holds s z (parts (blank s) (adds ++ (a ∷ []))) (after d p)) (sym y)
    (subst (λ qs. Holds s (stepped (layout s adds) p) qs (after d p)) (sym (parts_push (blank s) adds a)) g)

put_grows : (t : CodeTail) (ts : List CodeTail) → length ts ≤ length (put_tail t ts)
put_grows t [] = omega arith
put_grows t (u ∷ ts) = elim (cases_Bool (eqb u.list t.list)) [
  | inl e ↦ rw e (omega arith)
  | inr e ↦ let ih = put_grows t ts in rw e (omega arith)
]

made_grows : (made : Option CodeTail) (ts : List CodeTail) → length ts ≤ length (put_made made ts)
made_grows None ts = omega arith
made_grows (Some m) ts = put_grows m ts

-- there is room for what the step touches and makes
pub few_after : (s : Section) (y : Layout) (ps : List Part) (d : DraftLayout) (a : Add) (p : Step) → Holds s y ps d → Plans y a p
    → (length (put_tail p.tail d.touched) ≤ 16) × (length (put_made p.made (put_tail p.tail d.touched)) ≤ 16)
    × (length (d.added ++ maybe p.made_piece) ≤ 2048) × (length ((d.added ++ maybe p.made_piece) ++ maybe p.piece) ≤ 2048)
few_after s y ps d a p h w =
    let k : member p.tail.list (ids_of y.tails) ≡ true = rw w.list w.known in
    let us : List CodeTail = put_tail p.tail d.touched in
    let vs : List CodeTail = put_made p.made us in
    let e : lists_of vs ≡ (planned y a).layout.touched = (moves s y ps d h p k p.made w.makes).touched ∙ sym (ap (λ (z : Layout). z.touched) w.layout) in
    let n : length vs ≡ length (planned y a).layout.touched = sym (length-map vs (λ (t : CodeTail). t.list)) ∙ ap length e in
    let few = w.few_touched in
    let more = made_grows p.made us in
    let n1 = length-append d.added (maybe p.made_piece) in
    let n2 = length-append (d.added ++ maybe p.made_piece) (maybe p.piece) in
    let n3 = length-append (maybe p.made_piece) (maybe p.piece) in
    let f = w.fragments in
    let g = h.fragments in
    let l = h.few in
    let m = w.few_fragments in
    (omega arith, omega arith, omega arith, omega arith)

-- the code's calls, one after the other, leave the draft after the step
pub made_after : (P : DraftLayout → Type 0) (d : DraftLayout) (p : Step)
    → (length (put_tail p.tail d.touched) ≤ 16) × (length (put_made p.made (put_tail p.tail d.touched)) ≤ 16)
    × (length (d.added ++ maybe p.made_piece) ≤ 2048) × (length ((d.added ++ maybe p.made_piece) ++ maybe p.piece) ≤ 2048)
    → (us : List CodeTail) → (length (put_tail p.tail d.touched) ≤ 16 → us ≡ put_tail p.tail d.touched)
    → (vs : List CodeTail) → (length (put_made p.made us) ≤ 16 → vs ≡ put_made p.made us)
    → (qs : List Piece) → (length (d.added ++ maybe p.made_piece) ≤ 2048 → qs ≡ d.added ++ maybe p.made_piece)
    → (rs : List Piece) → (length (qs ++ maybe p.piece) ≤ 2048 → rs ≡ qs ++ maybe p.piece)
    → P (after d p) → P (record { end = p.end; fragments = p.fragments; lists = p.lists; highest = p.highest; touched = vs; added = rs })
made_after P d p (a, b, e, f) us u vs v qs q rs r x =
    let u1 = u a in
    let v1 : vs ≡ put_made p.made (put_tail p.tail d.touched) = rw u1 at v b in
    let q1 = q e in
    let r1 : rs ≡ (d.added ++ maybe p.made_piece) ++ maybe p.piece = rw q1 at r f in
    rw (v1, r1) x
