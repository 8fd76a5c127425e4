-- One node more in one of a file's lists.
use Rattle.std.proofs.Common.{◌≡◌, ℕ, ◌+◌, ◌^◌, ◌<◌, ◌≤◌, ◌&&◌, eqb, ◌≢◌, List, [], ◌∷◌, ◌++◌, map, length, sym, refl, ap, ◌∙◌, subst, inl, inr, arith}
use Rattle.std.specs.List.{AllByRecursion}
use Rattle.std.proofs.lemmas.List.{append_assoc, map-append}
use Rattle.std.proofs.lemmas.Bool.{cases_Bool}
use Rattle.std.proofs.ByRecursion.{All-append, All-weaker}
use Rattle.model.specs.declared.types.Span.{Span}
use Rattle.model.specs.declared.types.Header.{Header}
use Rattle.model.specs.Bytes.{written}
use Rattle.model.specs.References.{span, end_of, present}
use Rattle.model.specs.Headers.{header_span}
use Rattle.model.specs.Nodes.{Node, referring}
use Rattle.model.specs.ListFragments.{nodes_to, new_fragment}
use Rattle.model.specs.Section.{NodeList, Section, last_of, list_fragments}
use Rattle.model.specs.Means.{Apart, Pairwise, Inside, Spread, within, across, Stands, data_spans, Means}
use Rattle.model.specs.Laws.{last_fragment}
use Rattle.meaning.proofs.Base.{all_front, pairs_split, apart_back, references, DataFits}
use Rattle.meaning.proofs.Members.{flat_append}
use Rattle.commits.specs.Around.{Around}
use Rattle.commits.specs.Body.{Right, Body, Tied, with_one, with_fragment, up_to}
use Rattle.meaning.proofs.Members.{all_flat, flat_all}
use Rattle.meaning.proofs.Growth.{last_push}
use Rattle.commits.proofs.Rows.{all_between, all_both, pair_between, pair_instead, flat_instead}
use Rattle.commits.proofs.PartKept.{part_kept, ahead_other}
use Rattle.commits.proofs.NodeAdded.{Made, fits_list, spill_list, spilt}
use Rattle.commits.proofs.Around.{Kept, other_same}

-- the body and the ties of an accepted file
pub body_means : (b : List ℕ) (s : Section) → Means b s → Body b s.header s.log.fragments s.lists × Tied s.header s.lists
body_means b s m = (
  record {
    whole = m.header.stored;
    least = m.header.least;
    lists = All-weaker (Stands b s.header s.log) (Right b s.header) (λ l x. record { part = x.part; ends = x.ends }) s.lists m.lists;
    ids_differ = m.ids_differ;
    log_inside = All-weaker (Inside 12 s.header.end) (λ f. end_of f ≤ s.header.end) (λ f x. x.1) s.log.fragments m.log.part.inside;
    apart = m.fragments_apart;
    data_inside = m.data_inside;
    data_apart = m.data_apart;
  },
  record { reached = m.reached; named = m.named; once = m.once },
)

-- one list among the others ---------------------------------------------------------------------------------------------

-- what holds of each fragment of a list holds of its last
spread_last : (b : List ℕ) (P : Span → Type 0) (d : Span) {fs : List Span} {ns : List Node} {q : ℕ} → Spread b fs ns q → AllByRecursion P fs → P (last_of d fs)
spread_last b P d (within h) a = a.0
spread_last b P d (across {f = f} ns ms p h o e t u) a = spread_last b P f t a.1

-- the list's fragments are apart from each other, and its last from those of the others
own : (b : List ℕ) (h : Header) (gs : List Span) (pre : List NodeList) (l : NodeList) (post : List NodeList) → Right b h l
    → Pairwise Apart (header_span ∷ (gs ++ list_fragments (pre ++ (l ∷ post))))
    → Pairwise Apart l.fragments × AllByRecursion (λ m. AllByRecursion (Apart (last_fragment l.fragments)) m.fragments) pre × AllByRecursion (λ m. AllByRecursion (Apart (last_fragment l.fragments)) m.fragments) post
    × AllByRecursion (Apart (last_fragment l.fragments)) (header_span ∷ gs) × ((x : Span) → AllByRecursion (Apart x) (list_fragments (pre ++ (l ∷ post))) → Apart (last_fragment l.fragments) x)
own b h gs pre l post r (p0, p) =
    let A = list_fragments pre in
    let B = list_fragments post in
    let fs = l.fragments in
    let g = last_fragment l.fragments in
    let (x0, p1, x1) = pairs_split Apart gs (list_fragments (pre ++ (l ∷ post))) p in
    let p2 : Pairwise Apart (A ++ (fs ++ B)) = subst (λ z. Pairwise Apart z) (flat_append (λ (m : NodeList). m.fragments) pre (l ∷ post)) p1 in
    let (x2, p3, a1) = pairs_split Apart A (fs ++ B) p2 in
    let (p4, x3, a2) = pairs_split Apart fs B p3 in
    let k1 : AllByRecursion (Apart g) A = All-weaker (λ x. AllByRecursion (Apart x) (fs ++ B)) (Apart g) (λ x u. apart_back x g (spread_last b (Apart x) (span 0 0) r.part.spread (all_front (Apart x) fs B u).0)) A a1 in
    let k2 : AllByRecursion (Apart g) B = spread_last b (λ x. AllByRecursion (Apart x) B) (span 0 0) r.part.spread a2 in
    let L : List Span = list_fragments (pre ++ (l ∷ post)) in
    let from : (x : Span) → AllByRecursion (Apart x) L → Apart g x = λ x u.
    let v : AllByRecursion (Apart x) (A ++ (fs ++ B)) = subst (λ z. AllByRecursion (Apart x) z) (flat_append (λ (m : NodeList). m.fragments) pre (l ∷ post)) u in
    apart_back x g (spread_last b (Apart x) (span 0 0) r.part.spread (all_front (Apart x) fs B (all_front (Apart x) A (fs ++ B) v).1).0) in (
      p4,
      all_flat (Apart g) (λ (m : NodeList). m.fragments) pre k1,
      all_flat (Apart g) (λ (m : NodeList). m.fragments) post k2,
      (from header_span (all_front (Apart header_span) gs L p0).1, All-weaker (λ x. AllByRecursion (Apart x) L) (Apart g) from gs x1),
      from,
    )

-- the other lists are kept
others : (b c : List ℕ) (h h' : Header) (g : Span) (lo : ℕ) (ms : List NodeList) → Around b c h.end g lo 16 8 → h.end ≤ h'.end
    → AllByRecursion (λ m. AllByRecursion (Apart g) m.fragments) ms → AllByRecursion (Right b h) ms → AllByRecursion (Right c h') ms
others b c h h' g lo ms o k a r = all_both (λ m. AllByRecursion (Apart g) m.fragments) (Right b h) (Right c h') ms
    (λ m x y. record { part = part_kept b c h h' g lo m.id m.fragments m.nodes m.free o k (ahead_other g lo m.fragments m.free x) y.part; ends = y.ends }) a r

-- data references --------------------------------------------------------------------------------------------------------

pub referring_row : (base : ℕ) (ns ms : List Node) → referring base (ns ++ ms) ≡ referring base ns ++ referring base ms
unfolding referring
referring_row base [] ms = refl
referring_row base (n ∷ ns) ms = elim (cases_Bool (eqb n.base base && present n.reference)) [
  | inl e ↦ rw (e, referring_row base ns ms)
  | inr e ↦ rw (e, referring_row base ns ms)
]

data_push : (P : Span → Type 0) (pre : List NodeList) (l l' : NodeList) (post : List NodeList) (n : Node) → l'.nodes ≡ l.nodes ++ (n ∷ [])
    → AllByRecursion P (data_spans (pre ++ (l ∷ post))) → AllByRecursion P (references (n ∷ [])) → AllByRecursion P (data_spans (pre ++ (l' ∷ post)))
data_push P pre l l' post n e a c =
    let (x, y) = all_front (λ m. AllByRecursion P (references m.nodes)) pre (l ∷ post) (all_flat P (λ (m : NodeList). references m.nodes) (pre ++ (l ∷ post)) a) in
    let q : references l'.nodes ≡ references l.nodes ++ references (n ∷ [])
    = ap (λ (z : List Node). references z) e ∙ ap (λ (z : List Node). map (λ m. m.reference) z) (referring_row 1 l.nodes (n ∷ [])) ∙ map-append (λ (m : Node). m.reference) (referring 1 l.nodes) (referring 1 (n ∷ [])) in
    flat_all P (λ (m : NodeList). references m.nodes) (pre ++ (l' ∷ post)) (All-append (λ m. AllByRecursion P (references m.nodes)) pre (l' ∷ post) x
    (subst (λ z. AllByRecursion P z) (sym q) (All-append P (references l.nodes) (references (n ∷ [])) y.0 c), y.1))

-- it fits ------------------------------------------------------------------------------------------------------------

-- the lists with one node more
pub body_fits : (b : List ℕ) (h : Header) (gs : List Span) (pre : List NodeList) (l : NodeList) (post : List NodeList) (new : List ℕ) (n : ℕ → Node)
    → Made new n → Body b h gs (pre ++ (l ∷ post)) → l.free + length new ≤ nodes_to (last_fragment l.fragments)
    → AllByRecursion (DataFits h.end (gs ++ list_fragments (pre ++ (l ∷ post)))) (references (n l.free ∷ []))
    → Body (written b l.free new) h gs (pre ++ (with_one l (n l.free) (l.free + length new) ∷ post)) × AllByRecursion (Kept b (written b l.free new)) (header_span ∷ gs)
    × ((r : Span) → DataFits h.end (gs ++ list_fragments (pre ++ (l ∷ post))) r → Kept b (written b l.free new) r)
body_fits b h gs pre l post new n m d k w =
    let c : List ℕ = written b l.free new in
    let g = last_fragment l.fragments in
    let l' : NodeList = with_one l (n l.free) (l.free + length new) in
    let refs : List Span = references (n l.free ∷ []) in
    let (r0, r1) = all_front (Right b h) pre (l ∷ post) d.lists in
    let (ap, a0, a1, a2, away) = own b h gs pre l post r1.0 d.apart in
    let (o, p) = fits_list b h l.id l.fragments l.nodes l.free new n m d.whole ap r1.0.part k in
    let e : list_fragments (pre ++ (l' ∷ post)) ≡ list_fragments (pre ++ (l ∷ post)) = flat_instead (λ (m : NodeList). m.fragments) pre l l' post refl in
    let up = r1.0.ends in (
      record {
        whole = o.after;
        least = d.least;
        lists = All-append (Right c h) pre (l' ∷ post) (others b c h h g l.free pre o (omega arith) a0 r0)
            (record { part = p; ends = omega arith }, others b c h h g l.free post o (omega arith) a1 r1.1);
        ids_differ = pair_instead (λ l m. l.id ≢ m.id) pre l l' post (λ x q. q) (λ x q. q) d.ids_differ;
        log_inside = d.log_inside;
        apart = subst (λ z. Pairwise Apart (header_span ∷ (gs ++ z))) (sym e) d.apart;
        data_inside = data_push (λ r. end_of r ≤ h.end) pre l l' post (n l.free) refl d.data_inside
            (All-weaker (DataFits h.end (gs ++ list_fragments (pre ++ (l ∷ post)))) (λ r. end_of r ≤ h.end) (λ r x. x.0) refs w);
        data_apart = subst (λ z. AllByRecursion (λ r. AllByRecursion (Apart r) (header_span ∷ (gs ++ z))) (data_spans (pre ++ (l' ∷ post)))) (sym e)
            (data_push (λ r. AllByRecursion (Apart r) (header_span ∷ (gs ++ list_fragments (pre ++ (l ∷ post))))) pre l l' post (n l.free) refl d.data_apart
            (All-weaker (DataFits h.end (gs ++ list_fragments (pre ++ (l ∷ post)))) (λ r. AllByRecursion (Apart r) (header_span ∷ (gs ++ list_fragments (pre ++ (l ∷ post))))) (λ r x. x.1) refs w));
      },
      all_both (Apart g) (λ f. end_of f ≤ h.end) (Kept b c) (header_span ∷ gs) (λ f u v. other_same b c h.end g l.free 16 8 o f u v) a2 (d.least, d.log_inside),
      λ r x. other_same b c h.end g l.free 16 8 o r (away r (all_front (Apart r) gs (list_fragments (pre ++ (l ∷ post))) x.1.1).1) x.0,
    )

-- it goes into a new fragment --------------------------------------------------------------------------------------------

-- every fragment ends by the end
pub all_by_end : (b : List ℕ) (h : Header) (gs : List Span) (ls : List NodeList) → Body b h gs ls → AllByRecursion (λ f. end_of f ≤ h.end) (header_span ∷ (gs ++ list_fragments ls))
all_by_end b h gs ls d = (
  d.least,
  All-append (λ f. end_of f ≤ h.end) gs (list_fragments ls) d.log_inside
      (flat_all (λ f. end_of f ≤ h.end) (λ (m : NodeList). m.fragments) ls
      (All-weaker (Right b h) (λ m. AllByRecursion (λ f. end_of f ≤ h.end) m.fragments) (λ m x. All-weaker (Inside 36 h.end) (λ f. end_of f ≤ h.end) (λ f y. y.1) m.fragments x.part.inside) ls d.lists)),
)

-- what stands behind the end is apart from what ends by it
pub past_apart : (e : ℕ) (f r : Span) → e ≤ f.start → end_of r ≤ e → Apart r f
past_apart e f r h k i (x, y) (z, w) = omega arith

-- the row of all fragments, split behind those of the list
pub row_old : (gs : List Span) (pre : List NodeList) (l : NodeList) (post : List NodeList)
    → header_span ∷ (gs ++ list_fragments (pre ++ (l ∷ post))) ≡ (header_span ∷ (gs ++ (list_fragments pre ++ l.fragments))) ++ list_fragments post
row_old gs pre l post = ap (λ z. header_span ∷ z)
    (ap (λ z. gs ++ z) (flat_append (λ (m : NodeList). m.fragments) pre (l ∷ post) ∙ sym (append_assoc (list_fragments pre) l.fragments (list_fragments post)))
    ∙ sym (append_assoc gs (list_fragments pre ++ l.fragments) (list_fragments post)))

pub row_new : (gs : List Span) (pre : List NodeList) (l l' : NodeList) (post : List NodeList) (f : Span) → l'.fragments ≡ l.fragments ++ (f ∷ [])
    → header_span ∷ (gs ++ list_fragments (pre ++ (l' ∷ post))) ≡ (header_span ∷ (gs ++ (list_fragments pre ++ l.fragments))) ++ (f ∷ list_fragments post)
row_new gs pre l l' post f e = ap (λ z. header_span ∷ z)
    (ap (λ z. gs ++ z) (flat_append (λ (m : NodeList). m.fragments) pre (l' ∷ post)
    ∙ ap (λ z. list_fragments pre ++ z) (ap (λ z. z ++ list_fragments post) e ∙ append_assoc l.fragments (f ∷ []) (list_fragments post))
    ∙ sym (append_assoc (list_fragments pre) l.fragments (f ∷ list_fragments post)))
    ∙ sym (append_assoc gs (list_fragments pre ++ l.fragments) (f ∷ list_fragments post)))

-- what holds of each fragment, with one more
row_all : (P : Span → Type 0) (gs : List Span) (pre : List NodeList) (l l' : NodeList) (post : List NodeList) (f : Span) → l'.fragments ≡ l.fragments ++ (f ∷ [])
    → P f → AllByRecursion P (header_span ∷ (gs ++ list_fragments (pre ++ (l ∷ post)))) → AllByRecursion P (header_span ∷ (gs ++ list_fragments (pre ++ (l' ∷ post))))
row_all P gs pre l l' post f e p a =
    let X : List Span = header_span ∷ (gs ++ (list_fragments pre ++ l.fragments)) in
    subst (λ z. AllByRecursion P z) (sym (row_new gs pre l l' post f e)) (all_between P X f (list_fragments post) (subst (λ z. AllByRecursion P z) (row_old gs pre l post) a) p)

row_pairs : (gs : List Span) (pre : List NodeList) (l l' : NodeList) (post : List NodeList) (f : Span) → l'.fragments ≡ l.fragments ++ (f ∷ [])
    → AllByRecursion (λ x. Apart x f) (header_span ∷ (gs ++ list_fragments (pre ++ (l ∷ post))))
    → Pairwise Apart (header_span ∷ (gs ++ list_fragments (pre ++ (l ∷ post)))) → Pairwise Apart (header_span ∷ (gs ++ list_fragments (pre ++ (l' ∷ post))))
row_pairs gs pre l l' post f e a p =
    let X : List Span = header_span ∷ (gs ++ (list_fragments pre ++ l.fragments)) in
    let B : List Span = list_fragments post in
    let (u, v) = all_front (λ x. Apart x f) X B (subst (λ z. AllByRecursion (λ x. Apart x f) z) (row_old gs pre l post) a) in
    subst (λ z. Pairwise Apart z) (sym (row_new gs pre l l' post f e))
    (pair_between Apart X f B (subst (λ z. Pairwise Apart z) (row_old gs pre l post) p) u (All-weaker (λ x. Apart x f) (Apart f) (λ x y. apart_back x f y) B v))

-- the lists with one node more, in a new fragment at the end
pub body_spill : (b : List ℕ) (h : Header) (e : ℕ) (gs : List Span) (pre : List NodeList) (l : NodeList) (post : List NodeList) (new pad : List ℕ) (n : ℕ → Node)
    → Made new n → Body b h gs (pre ++ (l ∷ post)) → h.end + 1024 + length pad ≡ e → h.end < 2 ^ 64 → l.id < 2 ^ 32 → length l.fragments < 2 ^ 32
    → AllByRecursion (DataFits h.end (gs ++ list_fragments (pre ++ (l ∷ post)))) (references (n (h.end + 16) ∷ []))
    → let c = spilt b h.end (new_fragment l.id (length l.fragments) new ++ pad) l.free (nodes_to (last_fragment l.fragments)) in
    Body c (up_to h e) gs (pre ++ (with_fragment l (span h.end 1024) (n (h.end + 16)) (h.end + 16 + length new) ∷ post))
    × AllByRecursion (Kept b c) (header_span ∷ gs) × ((r : Span) → DataFits h.end (gs ++ list_fragments (pre ++ (l ∷ post))) r → Kept b c r)
body_spill b h e gs pre l post new pad n m d k u i j w =
    let E = h.end in
    let h' : Header = up_to h e in
    let fresh : Span = span E 1024 in
    let c : List ℕ = spilt b E (new_fragment l.id (length l.fragments) new ++ pad) l.free (nodes_to (last_fragment l.fragments)) in
    let g = last_fragment l.fragments in
    let l' : NodeList = with_fragment l fresh (n (E + 16)) (E + 16 + length new) in
    let refs : List Span = references (n (E + 16) ∷ []) in
    let F : List Span = header_span ∷ (gs ++ list_fragments (pre ++ (l ∷ post))) in
    let (r0, r1) = all_front (Right b h) pre (l ∷ post) d.lists in
    let (ap, a0, a1, a2, away) = own b h gs pre l post r1.0 d.apart in
    let (o, z, p) = spill_list b h h' l.id l.fragments l.nodes l.free new pad n m d.whole (omega arith) u i j ap r1.0.part in
    let by_end : AllByRecursion (λ f. end_of f ≤ E) F = all_by_end b h gs (pre ++ (l ∷ post)) d in
    let q : last_of (span 0 0) (l.fragments ++ (fresh ∷ [])) ≡ fresh = last_push (span 0 0) l.fragments fresh in
    let lives : AllByRecursion (λ r. (end_of r ≤ E) × AllByRecursion (Apart r) F) (data_spans (pre ++ (l ∷ post)))
    = all_both (λ r. end_of r ≤ E) (λ r. AllByRecursion (Apart r) F) (λ r. (end_of r ≤ E) × AllByRecursion (Apart r) F) (data_spans (pre ++ (l ∷ post))) (λ r x y. (x, y)) d.data_inside d.data_apart in
    let grown : AllByRecursion (λ r. (end_of r ≤ E) × AllByRecursion (Apart r) F) (data_spans (pre ++ (l' ∷ post))) = data_push (λ r. (end_of r ≤ E) × AllByRecursion (Apart r) F) pre l l' post (n (E + 16)) refl lives w in (
      record {
        whole = omega arith;
        least = omega (arith, d.least);
        lists = All-append (Right c h') pre (l' ∷ post) (others b c h h' g l.free pre o (omega arith) a0 r0)
            (record { part = p; ends = rw q (omega (arith, m.some)) }, others b c h h' g l.free post o (omega arith) a1 r1.1);
        ids_differ = pair_instead (λ l m. l.id ≢ m.id) pre l l' post (λ x y. y) (λ x y. y) d.ids_differ;
        log_inside = All-weaker (λ f. end_of f ≤ E) (λ f. end_of f ≤ e) (λ f x. omega arith) gs d.log_inside;
        apart = row_pairs gs pre l l' post fresh refl (All-weaker (λ f. end_of f ≤ E) (λ x. Apart x fresh) (λ x y. past_apart E fresh x (omega arith) y) F by_end) d.apart;
        data_inside = All-weaker (λ r. (end_of r ≤ E) × AllByRecursion (Apart r) F) (λ r. end_of r ≤ e) (λ r x. omega (arith, x.0)) (data_spans (pre ++ (l' ∷ post))) grown;
        data_apart = All-weaker (λ r. (end_of r ≤ E) × AllByRecursion (Apart r) F) (λ r. AllByRecursion (Apart r) (header_span ∷ (gs ++ list_fragments (pre ++ (l' ∷ post))))) (λ r x. row_all (Apart r) gs pre l l' post fresh refl (past_apart E fresh r (omega arith) x.0) x.1) (data_spans (pre ++ (l' ∷ post))) grown;
      },
      all_both (Apart g) (λ f. end_of f ≤ E) (Kept b c) (header_span ∷ gs) (λ f u v. other_same b c E g l.free 16 8 o f u v) a2 (d.least, d.log_inside),
      λ r x. other_same b c E g l.free 16 8 o r (away r (all_front (Apart r) gs (list_fragments (pre ++ (l ∷ post))) x.1.1).1) x.0,
    )
