-- What a commit leaves: the log's new end, each list's tail, where its nodes stand, and the highest ID known.
use Rattle.std.proofs.Common.{◌≡◌, ℕ, ◌+◌, ◌<◌, ◌≤◌, false, ◌||◌, eqb, ◌≢◌, List, [], ◌∷◌, ◌++◌, map, length, sym, refl, ap, ◌∙◌, subst, inl, inr, arith}
use Rattle.std.specs.List.{AllByRecursion}
use Rattle.std.proofs.lemmas.List.{length-append}
use Rattle.std.proofs.lemmas.Bool.Decides.{nat_tests}
use Rattle.model.specs.declared.types.Span.{Span}
use Rattle.model.specs.Faults.{done}
use Rattle.model.specs.Section.{NodeList, Section, list_fragments}
use Rattle.model.specs.OpenedLists.{taken}
use Rattle.model.specs.Means.{Apart, Pairwise, Stands, Means}
use Rattle.model.specs.Layouts.{Tail, Layout, tail_of, member, find_tail, blank}
use Rattle.model.specs.Saving.{layout}
use Rattle.model.specs.Committing.{logged}
use Rattle.meaning.proofs.Base.{pairs_split}
use Rattle.meaning.proofs.Members.{In, all_in, all_from_in, has_from_in, pick, in_without, flat_append}
use Rattle.meaning.proofs.OpensMeans.{opens_means}
use Rattle.commits.specs.Extends.{sizes}
use Rattle.commits.specs.Parts.{Part, parts, Grown, longer, made, Leaves, CommitLeaves}
use Rattle.commits.proofs.HeadBack.{headed}
use Rattle.commits.proofs.Extended.{sizes_append, extends_as, extends_both}
use Rattle.commits.proofs.Parting.{parted_from, parted_to, Grew, old, new}
use Rattle.commits.proofs.Drafts.{blank_drafted}
use Rattle.commits.proofs.DraftCommitted.{tails_own}
use Rattle.commits.proofs.CommitReads.{taken_in, taken_same, read_after}
use Rattle.commits.proofs.Highest.{highest_after}

-- the lists in another order ---------------------------------------------------------------------------------------------

-- a measure that adds up over appended rows, taken of the fragments of lists: no less of those that are among others
module _ (size : List Span → ℕ) (adds_up : (xs ys : List Span) → size (xs ++ ys) ≡ size xs + size ys) where
  fragments_most : (xs ys : List NodeList) → Pairwise (λ l m. l.id ≢ m.id) xs → ((l : NodeList) → In l xs → In l ys) → size (list_fragments xs) ≤ size (list_fragments ys)
  fragments_most [] ys d k = let e = adds_up [] [] in omega arith
  fragments_most (x ∷ xs) ys (p, d) k =
      let (as', bs, e) = pick ys x (k x (inl refl)) in
      let ih = fragments_most xs (as' ++ bs) d (λ l i. elim (in_without as' bs x l (subst (λ w. In l w) e (k l (inr i)))) [
        | inl q ↦ absurd (all_in (λ m. x.id ≢ m.id) xs l p i (ap (λ (m : NodeList). m.id) q))
        | inr j ↦ j
      ]) in
      let F : NodeList → List Span = λ l. l.fragments in
      let u : size (list_fragments ys) ≡ size (list_fragments as' ++ (x.fragments ++ list_fragments bs)) = ap size (ap list_fragments e ∙ flat_append F as' (x ∷ bs)) in
      let v : size (list_fragments (as' ++ bs)) ≡ size (list_fragments as' ++ list_fragments bs) = ap size (flat_append F as' bs) in
      let a = adds_up (list_fragments as') (x.fragments ++ list_fragments bs) in
      let c = adds_up (list_fragments as') (list_fragments bs) in
      let g = adds_up x.fragments (list_fragments bs) in
      let h = adds_up x.fragments (list_fragments xs) in
      omega arith

  -- and as much of the same lists in another order
  fragments_alike : (xs ys : List NodeList) → Pairwise (λ l m. l.id ≢ m.id) xs → Pairwise (λ l m. l.id ≢ m.id) ys → ((l : NodeList) → In l xs → In l ys) → ((l : NodeList) → In l ys → In l xs)
      → size (list_fragments ys) ≡ size (list_fragments xs)
  fragments_alike xs ys d e f g =
      let up = fragments_most xs ys d f in
      let down = fragments_most ys xs e g in
      omega arith

-- the lists of a layout, by the tails
taken_member : (ls : List NodeList) (id : ℕ) → taken id ls ≡ member id (map (λ t. t.id) (map tail_of ls))
taken_member [] id = refl
taken_member (l ∷ ls) id = ap (λ z. eqb l.id id || z) (taken_member ls id)

-- the parts of each list -------------------------------------------------------------------------------------------------

none_above : (ls : List NodeList) (h id : ℕ) → AllByRecursion (λ l. l.id ≤ h) ls → h < id → taken id ls ≡ false
none_above [] h id a k = refl
none_above (l ∷ ls) h id (p, a) k = let e : eqb l.id id ≡ false = grind (arith, nat_tests) in rw e (none_above ls h id a k)

pub fragments_apart : (ls : List NodeList) (l : NodeList) → Pairwise Apart (list_fragments ls) → In l ls → Pairwise Apart l.fragments
fragments_apart [] l p i = absurd i
fragments_apart (m ∷ ls) l p i =
    let (x, y, z) = pairs_split Apart m.fragments (list_fragments ls) p in
    elim i [
      | inl e ↦ subst (λ (k : NodeList). Pairwise Apart k.fragments) e x
      | inr j ↦ fragments_apart ls l y j
    ]

grown_from : (b : List ℕ) (s : Section) (h : ℕ) (ps : List Part) (l : NodeList) → Means b s → AllByRecursion (λ l. l.id ≤ h) s.lists → Grew h s.lists ps l → Grown s.lists ps l
grown_from b s h ps l m k (new u p) = made (none_above s.lists h l.id k u) (parted_from l.id p)
grown_from b s h ps l m k (old o i e w) =
    let part = (all_in (Stands b s.header s.log) s.lists o m.lists i).part in
    let (x, y, z) = pairs_split Apart s.log.fragments (list_fragments s.lists) m.fragments_apart.1 in
    longer o (has_from_in s.lists o i) e (λ qs p. parted_from l.id (w qs (parted_to b s.header.end l.id part.spread (fragments_apart s.lists o y i) part.inside p)))

same_done : {A : Type 0} (x y : A) → done x ≡ done y → x ≡ y
same_done x y e = grind arith

-- what a commit leaves ---------------------------------------------------------------------------------------------------

pub commit_leaves : CommitLeaves
commit_leaves b ceiling s adds guid a _ g o k cs t ot =
    let m = (opens_means b s o).0 in
    let r = read_after b ceiling s adds guid a g m k cs in
    let y : Layout = layout s adds in
    let (d0, f0) = blank_drafted b s a m in
    let differ = r.laid.body.ids_differ in
    let st = r.stock in
    let each : AllByRecursion (λ l. find_tail y.tails l.id ≡ tail_of l) r.draft
    = subst (λ (z : List Tail). AllByRecursion (λ l. find_tail z l.id ≡ tail_of l) r.draft) (sym r.laid.tails) (tails_own r.draft differ) in
    let lg = length-append r.log.fragments (list_fragments r.draft) in
    let lt = length-append r.log.fragments (list_fragments r.lists) in
    let number = fragments_alike length length-append r.draft r.lists differ st.ids st.from st.to in
    let bytes = fragments_alike sizes sizes_append r.draft r.lists differ st.ids st.from st.to in
    let rf = r.fragments in
    let u : Section = record { header = headed s.header (logged s y).end guid; log = r.log; lists = r.lists } in
    subst (λ z. Leaves s adds z) (same_done u t (sym r.opens ∙ ot)) (record {
      hashed = refl;
      first_log = refl;
      root = refl;
      transactions = r.transactions;
      last = r.last;
      used = r.used;
      fragments = omega arith;
      extended = extends_both s.log.fragments (list_fragments s.lists) r.log.fragments (list_fragments r.lists) r.extended
          (extends_as (list_fragments s.lists) (list_fragments r.draft) (list_fragments r.lists) number bytes r.counting.extended);
      lists = st.same ∙ sym r.laid.lists;
      ids = λ id. taken_same r.draft r.lists id st.from st.to ∙ taken_member r.draft id ∙ ap (λ (z : List Tail). member id (map (λ t. t.id) z)) (sym r.laid.tails);
      tails = all_from_in (λ l. tail_of l ≡ find_tail y.tails l.id) r.lists (λ l i. sym (all_in (λ l. find_tail y.tails l.id ≡ tail_of l) r.draft l each (st.to l i)));
      parts = all_from_in (Grown s.lists (parts (blank s) adds)) r.lists
          (λ l i. grown_from b s (blank s).highest (parts (blank s) adds) l m d0.laid.known (all_in (Grew (blank s).highest s.lists (parts (blank s) adds)) r.draft l r.parting.each (st.to l i)));
      highest = highest_after s y r.draft u r.transactions r.counting r.laid.known st.to
          (λ id e. let (l, i, q) = taken_in s.lists id e in r.known id (subst (λ z. z ≤ (blank s).highest) q (all_in (λ l. l.id ≤ (blank s).highest) s.lists l d0.laid.known i)) ∙ e);
    })
