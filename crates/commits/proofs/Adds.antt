-- One add: the lists after it.
use Rattle.std.proofs.Common.{◌≡◌, ℕ, ◌+◌, ◌-◌, ◌%◌, ◌^◌, ◌<◌, ◌≤◌, true, cond, ◌&&◌, eqb, ◌≢◌, List, [], ◌∷◌, ◌++◌, map, length, replicate, Some, None, sym, refl, ap, ◌∙◌, subst, inl, inr, arith}
use Rattle.std.specs.List.{AllByRecursion}
use Rattle.std.proofs.lemmas.List.{append_assoc, append-nil, length-append, length-replicate, map-append}
use Rattle.std.proofs.lemmas.Bool.{cases_Bool}
use Rattle.std.proofs.ByRecursion.{All-append, All-weaker}
use Rattle.model.specs.declared.types.Span.{Span}
use Rattle.model.specs.declared.types.Header.{Header}
use Rattle.model.specs.Bytes.{piece, written, applied, behind}
use Rattle.model.specs.References.{span, end_of, present}
use Rattle.model.specs.Headers.{header_span}
use Rattle.model.specs.Nodes.{Node, plain_node, referring_node, field_of, referring}
use Rattle.model.specs.ListFragments.{new_fragment}
use Rattle.model.specs.Section.{NodeList, Section, list_fragments}
use Rattle.model.specs.OpenedLists.{taken, Named, named_by}
use Rattle.model.specs.Means.{Apart, Headed, Logs}
use Rattle.model.specs.Looks.{nodes_of}
use Rattle.model.specs.Layouts.{Add, plain, with_data, branch, Tail, tail, Layout, tail_of, member, touch, find_tail, ending_at, more_fragments, more_lists}
use Rattle.model.specs.Saving.{at_end, with_node, planned}
use Rattle.model.specs.Contents.{Content, content_of, holds, saved_by}
use Rattle.meaning.proofs.Base.{all_front, DataFits, references}
use Rattle.meaning.proofs.Members.{flat_append}
use Rattle.commits.specs.Body.{Right, Body, Tied, up_to}
use Rattle.commits.specs.Laid.{Laid}
use Rattle.commits.specs.Parts.{Part, part, node_part, new_parts}
use Rattle.commits.proofs.Sizes.{length_new_fragment}
use Rattle.commits.proofs.NodeBack.{Fair, plain_of, referring_of}
use Rattle.commits.proofs.NodeAdded.{Made, plain_made, referring_made}
use Rattle.commits.proofs.Bodies.{referring_row, all_by_end, past_apart}
use Rattle.commits.proofs.Longer.{body_longer, body_list, new_list}
use Rattle.commits.proofs.Ties.{tied_header, tied_push, tied_branch}
use Rattle.commits.proofs.Store.{stored_written, stored_front, piece_stored}
use Rattle.commits.proofs.Contents.{taken_push, taken_list, plain_holds, branch_holds, data_holds}
use Rattle.commits.proofs.Parting.{Parting, parting_list, parting_then}
use Rattle.commits.proofs.Layouts.{found, Addable, node_pushed, pushed_parting, with_node_highest, with_node_touched}
use Rattle.commits.proofs.Counting.{Counting, counting_push, counting_list, touch_again, touch_other, touch_same}
use Rattle.commits.proofs.Growth.{Grows, longer_held, pushed_holds, list_holds, either_sum}
use Rattle.commits.proofs.SameRow.{logs_same, headed_same}
use Rattle.commits.proofs.Around.{Kept, past_kept}

-- the lists of a draft, and that they are the reached ones
pub record Drafted (c : List ℕ) (s : Section) (y : Layout) (ls : List NodeList) : Type 0 where
  pub laid : Laid c s y ls
  pub tied : Tied (up_to s.header y.end) ls
  -- the header and the finished log are as they were
  pub later : s.header.end ≤ y.end
  pub head : Headed c s.header
  pub logs : Logs c s.header s.log
  -- the draft's counts
  pub counting : Counting s y.touched y.highest ls

-- the header and the log in a row that has their bytes
carried : (c c' : List ℕ) (s : Section) → AllByRecursion (Kept c c') (header_span ∷ s.log.fragments) → s.header.end ≤ length c' → Headed c s.header × Logs c s.header s.log
    → Headed c' s.header × Logs c' s.header s.log
carried c c' s (k, ks) l (h, g) = (headed_same c c' s.header k l h, logs_same c c' s.header s.log ks g)

-- the numbers of a layout that is within bounds
pub record Fine (y : Layout) : Type 0 where
  pub end : y.end ≤ 2 ^ 40
  pub highest : y.highest < 2 ^ 32
  pub fragments : y.fragments ≤ 2048
  pub lists : y.lists ≤ 1024
  pub touched : length y.touched ≤ 16
  pub counts : AllByRecursion (λ t. t.count < 2 ^ 32) y.tails

-- names ----------------------------------------------------------------------------------------------------------------

abbrev as_named : List Node → List Named
as_named ns = map (λ n. (field_of n, n.reference)) ns

named_push : (l l' : NodeList) (n : Node) → l'.nodes ≡ l.nodes ++ (n ∷ []) → named_by l' ≡ named_by l ++ as_named (referring 2 (n ∷ []))
named_push l l' n e =
    ap (λ (z : List Node). as_named (referring 2 z)) e ∙ ap (λ (z : List Node). as_named z) (referring_row 2 l.nodes (n ∷ []))
    ∙ map-append (λ (n : Node). (field_of n, n.reference)) (referring 2 l.nodes) (referring 2 (n ∷ []))

named_none : (l l' : NodeList) (n : Node) → l'.nodes ≡ l.nodes ++ (n ∷ []) → referring 2 (n ∷ []) ≡ [] → named_by l' ≡ named_by l
named_none l l' n e f = named_push l l' n e ∙ ap (λ (z : List Node). named_by l ++ as_named z) f ∙ append-nil (named_by l)

-- a node that names no list --------------------------------------------------------------------------------------------------

simple_step : (c : List ℕ) (s : Section) (y : Layout) (ls : List NodeList) (id : ℕ) (new : List ℕ) (n : ℕ → Node) (X : Content)
    → Drafted c s y ls → Addable s y ls new n → y.end < 2 ^ 64 → y.highest < 2 ^ 32 → y.fragments < 2 ^ 32 → member id (map (λ t. t.id) y.tails) ≡ true
    → ((p : ℕ) → referring 2 (n p ∷ []) ≡ []) → ((p : ℕ) → holds c (n p) ≡ X)
    → (ms : List NodeList) × Drafted (applied c (with_node y id new).writes) s (with_node y id new).layout ms
    × Grows c y ls (applied c (with_node y id new).writes) (with_node y id new).layout ms (λ whose. cond (eqb id whose) (X ∷ []) []) (node_part y id new)
simple_step c s y ls id new n X d a x1 x2 x3 k w what =
    let f = found ls id (subst (λ (z : List Tail). member id (map (λ t. t.id) z) ≡ true) d.laid.tails k) in
    at_split f.pre f.list f.post f.split f.same f.tail'
  where
    goal : ℕ → Type 0
    goal i = (ms : List NodeList) × Drafted (applied c (with_node y i new).writes) s (with_node y i new).layout ms
        × Grows c y ls (applied c (with_node y i new).writes) (with_node y i new).layout ms (λ whose. cond (eqb i whose) (X ∷ []) []) (node_part y i new)

    at_split : (pre : List NodeList) (l : NodeList) (post : List NodeList) → ls ≡ pre ++ (l ∷ post) → l.id ≡ id → find_tail (map tail_of ls) id ≡ tail_of l → goal id
    at_split pre l post e i t =
        let d1 : Laid c s y (pre ++ (l ∷ post)) = subst (λ z. Laid c s y z) e d.laid in
        let a1 : Addable s y (pre ++ (l ∷ post)) new n = subst (λ z. Addable s y z new n) e a in
        let t1 : Tied (up_to s.header y.end) (pre ++ (l ∷ post)) = subst (λ z. Tied (up_to s.header y.end) z) e d.tied in
        let t2 : find_tail y.tails l.id ≡ tail_of l = ap (λ z. find_tail y.tails z) i ∙ ap (λ z. find_tail z id) d.laid.tails ∙ t in
        let p = node_pushed c s y pre l post new n d1 a1 x1 x2 x3 t2 in
        let ri = p.rises in
        let la = d.later in
        let wh = p.laid.body.whole in
        let (hd, lg) = carried c (applied c (with_node y l.id new).writes) s p.kept (omega arith) (d.head, d.logs) in
        let ms : List NodeList = pre ++ (p.list ∷ post) in
        let ct : Counting s (touch l.id y.touched) y.highest ms = counting_push s y.touched y.highest pre l p.list post d1.body.ids_differ p.same
        (ap length p.nodes ∙ length-append l.nodes (n p.place ∷ [])) p.extended (subst (λ z. Counting s y.touched y.highest z) e d.counting) in
        subst goal i (
          pre ++ (p.list ∷ post),
          record {
            laid = p.laid;
            counting = subst (λ z. Counting s z (with_node y l.id new).layout.highest ms) (sym (with_node_touched y l.id new)) (subst (λ z. Counting s (touch l.id y.touched) z ms) (sym (with_node_highest y l.id new)) ct);
            later = omega arith;
            head = hd;
            logs = lg;
            tied = tied_header (up_to s.header y.end) (up_to s.header (with_node y l.id new).layout.end) (pre ++ (p.list ∷ post)) refl
                (tied_push (up_to s.header y.end) pre l p.list post p.first (named_none l p.list (n p.place) p.nodes (w p.place)) t1);
          },
          record {
            grown = λ x. pushed_holds c s y pre l post new n (with_node y l.id new) (node_part y l.id new) X x d1 a1 p what
                ∙ ap (λ (z : List NodeList). map (holds c) (nodes_of z x) ++ cond (eqb l.id x) (X ∷ []) []) (sym e);
            known = λ x h. taken_push pre l p.list post x p.same ∙ ap (λ (z : List NodeList). taken x z) (sym e);
            parting = subst (λ z. Parting y.highest z (with_node y l.id new).layout.highest ms (node_part y l.id new)) (sym e)
                (subst (λ z. Parting y.highest (pre ++ (l ∷ post)) z ms (node_part y l.id new)) (sym (with_node_highest y l.id new))
                (pushed_parting c s y n pre l post (with_node y l.id new) (node_part y l.id new) d1 p));
          },
        )

-- the lists after an add: still those of a draft, and grown by what it saves
abbrev pub Stepped : List ℕ → Section → Layout → List NodeList → Add → Type 0
Stepped c s y ls a = (ms : List NodeList) × Drafted (applied c (planned y a).writes) s (planned y a).layout ms
    × Grows c y ls (applied c (planned y a).writes) (planned y a).layout ms (saved_by y a) (new_parts y a)

-- a node that refers to nothing
pub plain_step : (c : List ℕ) (s : Section) (y : Layout) (ls : List NodeList) (list id : ℕ) (payload : List ℕ) → Drafted c s y ls → Fine y → Fair id → 4 + length payload ≤ 988
    → member list (map (λ t. t.id) y.tails) ≡ true
    → Stepped c s y ls (plain list id payload)
unfolding planned referring new_parts
plain_step c s y ls list id payload d f i k m =
    simple_step c s y ls list (plain_node id payload) (λ p. plain_of p id payload) (content_of id 0 None payload []) d (record { made = plain_made id payload i k; data_fits = λ p. tt })
    (omega (arith, f.end)) f.highest (omega (arith, f.fragments)) m (λ p. refl) (λ p. plain_holds c p id payload)

-- a node with data, which goes behind the draft's end before it
pub data_step : (c : List ℕ) (s : Section) (y : Layout) (ls : List NodeList) (list id : ℕ) (payload content : List ℕ) → Drafted c s y ls → Fine y → Fair id → 16 + length payload ≤ 988
    → 1 ≤ length content → length content ≤ 65536 → member list (map (λ t. t.id) y.tails) ≡ true
    → Stepped c s y ls (with_data list id payload content)
unfolding planned referring applied new_parts
data_step c s y ls list id payload content d f i k o z m =
    let E = y.end in
    let h : Header = up_to s.header E in
    let gs = s.log.fragments in
    let pad : List ℕ = replicate ((8 - (E + length content) % 8) % 8) 0 in
    let P : List ℕ = content ++ pad in
    let e : ℕ = E + length P in
    let lp : length P ≡ length content + length pad = length-append content pad in
    let lq : length pad ≡ (8 - (E + length content) % 8) % 8 = length-replicate ((8 - (E + length content) % 8) % 8) 0 in
    let y1 : Layout = ending_at e y in
    let r : Span = span E (length content) in
    let fe = f.end in
    let b1 : Body (written c E P) (up_to s.header e) gs ls = body_longer c h e gs ls P d.laid.body refl in
    let la = d.later in
    let wh = b1.whole in
    let kp : AllByRecursion (Kept c (written c E P)) (header_span ∷ gs) = past_kept c E P (header_span ∷ gs) d.laid.body.whole (d.laid.body.least, d.laid.body.log_inside) in
    let (hd, lg) = carried c (written c E P) s kp (omega arith) (d.head, d.logs) in
    let d1 : Drafted (written c E P) s y1 ls = record {
      later = omega arith;
      head = hd;
      logs = lg;
      counting = d.counting;
      laid = record { body = b1; tails = d.laid.tails; lists = d.laid.lists; fragments = d.laid.fragments; known = d.laid.known };
      tied = tied_header h (up_to s.header e) ls refl d.tied;
    } in
    let far : AllByRecursion (Apart r) (header_span ∷ (gs ++ list_fragments ls))
    = All-weaker (λ x. end_of x ≤ E) (Apart r) (λ x u i v w. past_apart E r x (omega arith) u i w v) (header_span ∷ (gs ++ list_fragments ls)) (all_by_end c h gs ls d.laid.body) in
    let fit : DataFits e (gs ++ list_fragments ls) r = (omega arith, far) in
    let st : piece (written c E P) E (length content) ≡ content = piece_stored (written c E P) E content (stored_front (written c E P) E content pad (stored_written c E P d.laid.body.whole)) in
    let (ms, dr, gr) = simple_step (written c E P) s y1 ls list (referring_node id 1 r payload) (λ p. referring_of p id 1 r payload) (content_of id 1 (Some r) payload content) d1
    (record { made = referring_made id 1 r payload i (omega arith) (omega arith) k (omega arith) (omega arith); data_fits = λ p. one_fits (DataFits e (gs ++ list_fragments ls)) (referring_of p id 1 r payload) fit })
    (omega arith) f.highest (omega (arith, f.fragments)) m (λ p. refl) (λ p. data_holds (written c E P) p id E payload content o st) in (
      ms,
      dr,
      record {
        grown = λ x. gr.grown x ∙ ap (λ (z : List Content). z ++ cond (eqb list x) (content_of id 1 (Some r) payload content ∷ []) []) (longer_held c s y ls P x d.laid);
        known = gr.known;
        parting = gr.parting;
      },
    )
  where
    one_fits : (Q : Span → Type 0) (n : Node) → Q n.reference → AllByRecursion Q (references (n ∷ []))
    one_fits Q n q = elim (cases_Bool (eqb n.base 1 && present n.reference)) [
      | inl e ↦ rw e (q, tt)
      | inr e ↦ rw e tt
    ]

-- a tail among the first is found among all
find_left : (id : ℕ) (ts us : List Tail) → member id (map (λ t. t.id) ts) ≡ true → find_tail (ts ++ us) id ≡ find_tail ts id
unfolding find_tail
find_left id [] us e = absurd (grind arith)
find_left id (t ∷ ts) us e = elim (cases_Bool (eqb t.id id)) [
  | inl x ↦ rw x
  | inr x ↦ rw x (find_left id ts us (rw x at e))
]

-- the new list of a branch stands, and no node names it yet
with_list_laid : (c : List ℕ) (s : Section) (y : Layout) (ls : List NodeList) (list first_id : ℕ) (first : List ℕ) → Laid c s y ls → Fine y → Fair first_id → 4 + length first ≤ 988
    → 16 ≤ y.highest → y.highest + 1 < 2 ^ 32
    → let node = plain_node first_id first in
    let nf = new_fragment (y.highest + 1) 0 node in
    let piece = at_end y nf in
    Laid (written c y.end piece.new) s
    (more_lists list (tail (y.highest + 1) (span y.end 1024) 0 (y.end + 16 + length node) 1) (more_fragments (ending_at (behind piece) y)))
    (ls ++ (new_list (y.highest + 1) y.end (plain_of (y.end + 16) first_id first) (y.end + 16 + length node) ∷ []))
unfolding referring
with_list_laid c s y ls list first_id first d f i k u v =
    let E = y.end in
    let h : Header = up_to s.header E in
    let gs = s.log.fragments in
    let id : ℕ = y.highest + 1 in
    let node : List ℕ = plain_node first_id first in
    let nf : List ℕ = new_fragment id 0 node in
    let pad : List ℕ = replicate ((8 - (E + length nf) % 8) % 8) 0 in
    let m : Made node (λ p. plain_of p first_id first) = plain_made first_id first i k in
    let l : NodeList = new_list id E (plain_of (E + 16) first_id first) (E + 16 + length node) in
    let ln : length nf ≡ 1024 = length_new_fragment id 0 node m.short in
    let e : ℕ = E + length (nf ++ pad) in
    let lp : length (nf ++ pad) ≡ length nf + length pad = length-append nf pad in
    let q1 : length (gs ++ list_fragments (ls ++ (l ∷ []))) ≡ length (gs ++ list_fragments ls) + 1
    = ap (λ z. length (gs ++ z)) (flat_append (λ (m : NodeList). m.fragments) ls (l ∷ [])) ∙ ap length (sym (append_assoc gs (list_fragments ls) (span E 1024 ∷ []))) ∙ length-append (gs ++ list_fragments ls) (span E 1024 ∷ []) in
    let df = d.fragments in
    let dl = d.lists in
    let q2 = length-append ls (l ∷ []) in
    record {
      body = body_list c h e gs ls id node pad (λ p. plain_of p first_id first) m d.body (omega arith) (omega arith) v
          (All-weaker (λ l. l.id ≤ y.highest) (λ l. l.id ≢ id) (λ l x z. omega arith) ls d.known) refl;
      tails = ap (λ z. z ++ (tail_of l ∷ [])) d.tails ∙ sym (map-append tail_of ls (l ∷ []));
      lists = omega arith;
      fragments = omega arith;
      known = All-append (λ m. m.id ≤ id) ls (l ∷ []) (All-weaker (λ l. l.id ≤ y.highest) (λ l. l.id ≤ id) (λ l x. omega arith) ls d.known) (omega arith, tt);
    }

-- a node that names a new list
pub branch_step : (c : List ℕ) (s : Section) (y : Layout) (ls : List NodeList) (list id : ℕ) (payload : List ℕ) (first_id : ℕ) (first : List ℕ) → Drafted c s y ls → Fine y
    → Fair id → 16 + length payload ≤ 988 → Fair first_id → 4 + length first ≤ 988 → y.highest + 1 < 2 ^ 32 → member list (map (λ t. t.id) y.tails) ≡ true
    → Stepped c s y ls (branch list id payload first_id first)
unfolding planned referring applied new_parts
branch_step c s y ls list id payload first_id first d f i k j l0 v m =
    let fd = found ls list (subst (λ (z : List Tail). member list (map (λ t. t.id) z) ≡ true) d.laid.tails m) in
    at_split fd.pre fd.list fd.post fd.split fd.same fd.tail'
  where
    E : ℕ
    E = y.end

    fresh : Span
    fresh = span E 1024

    node : List ℕ
    node = plain_node first_id first

    new : List ℕ
    new = referring_node id 2 fresh payload

    nf : List ℕ
    nf = new_fragment (y.highest + 1) 0 node

    pad : List ℕ
    pad = replicate ((8 - (E + length nf) % 8) % 8) 0

    y1 : ℕ → Layout
    y1 x = more_lists x (tail (y.highest + 1) fresh 0 (E + 16 + length node) 1) (more_fragments (ending_at (E + length (nf ++ pad)) y))

    c1 : List ℕ
    c1 = written c E (nf ++ pad)

    l2 : NodeList
    l2 = new_list (y.highest + 1) E (plain_of (E + 16) first_id first) (E + 16 + length node)

    X : Content
    X = content_of id 2 (Some fresh) payload []

    Y : Content
    Y = content_of first_id 0 None first []

    goal : ℕ → Type 0
    goal x = (ms : List NodeList) × Drafted (applied c1 (with_node (y1 x) x new).writes) s (with_node (y1 x) x new).layout ms
        × Grows c y ls (applied c1 (with_node (y1 x) x new).writes) (with_node (y1 x) x new).layout ms (λ whose. cond (eqb x whose) (X ∷ []) (cond (eqb (y.highest + 1) whose) (Y ∷ []) []))
        (part (y.highest + 1) 0 fresh ∷ node_part (y1 x) x new)

    at_split : (pre : List NodeList) (l : NodeList) (post : List NodeList) → ls ≡ pre ++ (l ∷ post) → l.id ≡ list → find_tail (map tail_of ls) list ≡ tail_of l → goal list
    at_split pre l post e q t =
        let h : Header = up_to s.header E in
        let d0 : Laid c s y (pre ++ (l ∷ post)) = subst (λ z. Laid c s y z) e d.laid in
        let t0 : Tied h (pre ++ (l ∷ post)) = subst (λ z. Tied h z) e d.tied in
        let (r0, r1) = all_front (Right c h) pre (l ∷ post) d0.body.lists in
        let (u0, u1) = all_front (λ m. m.id ≤ y.highest) pre (l ∷ post) d0.known in
        let real = r1.0.part.real in
        let top = u1.0 in
        let d1 : Laid c1 s (y1 l.id) ((pre ++ (l ∷ post)) ++ (l2 ∷ [])) = with_list_laid c s y (pre ++ (l ∷ post)) l.id first_id first d0 f j l0 (omega arith) v in
        let d2 : Laid c1 s (y1 l.id) (pre ++ (l ∷ (post ++ (l2 ∷ [])))) = subst (λ z. Laid c1 s (y1 l.id) z) (append_assoc pre (l ∷ post) (l2 ∷ [])) d1 in
        let a2 : Addable s (y1 l.id) (pre ++ (l ∷ (post ++ (l2 ∷ [])))) new (λ p. referring_of p id 2 fresh payload)
        = record { made = referring_made id 2 fresh payload i (omega arith) (omega arith) k (omega (arith, f.end)) (omega arith); data_fits = λ p. tt } in
        let t1 : find_tail (y1 l.id).tails l.id ≡ tail_of l
        = find_left l.id y.tails (tail (y.highest + 1) fresh 0 (E + 16 + length node) 1 ∷ []) (subst (λ z. member z (map (λ t. t.id) y.tails) ≡ true) (sym q) m)
        ∙ ap (λ z. find_tail y.tails z) q ∙ ap (λ z. find_tail z list) d.laid.tails ∙ t in
        let ln : length nf ≡ 1024 = length_new_fragment (y.highest + 1) 0 node (plain_made first_id first j l0).short in
        let lp : length (nf ++ pad) ≡ length nf + length pad = length-append nf pad in
        let lq : length pad ≡ (8 - (E + length nf) % 8) % 8 = length-replicate ((8 - (E + length nf) % 8) % 8) 0 in
        let fe = f.end in
        let ff = f.fragments in
        let p = node_pushed c1 s (y1 l.id) pre l (post ++ (l2 ∷ [])) new (λ p. referring_of p id 2 fresh payload) d2 a2 (omega arith) v (omega arith) t1 in
        let n : Node = referring_of p.place id 2 fresh payload in
        let t2 : Tied h ((pre ++ (p.list ∷ post)) ++ (l2 ∷ []))
        = tied_branch h pre l p.list post l2 (field_of n, fresh) p.first (named_push l p.list n p.nodes) refl refl t0 in
        let t3 : Tied h (pre ++ (p.list ∷ (post ++ (l2 ∷ [])))) = subst (λ z. Tied h z) (append_assoc pre (p.list ∷ post) (l2 ∷ [])) t2 in
        let ri = p.rises in
        let la = d.later in
        let w1 = d2.body.whole in
        let wh = p.laid.body.whole in
        let kp : AllByRecursion (Kept c c1) (header_span ∷ s.log.fragments) = past_kept c E (nf ++ pad) (header_span ∷ s.log.fragments) d0.body.whole (d0.body.least, d0.body.log_inside) in
        let hl : Headed c1 s.header × Logs c1 s.header s.log = carried c c1 s kp (omega arith) (d.head, d.logs) in
        let hl2 : Headed (applied c1 (with_node (y1 l.id) l.id new).writes) s.header × Logs (applied c1 (with_node (y1 l.id) l.id new).writes) s.header s.log
        = carried c1 (applied c1 (with_node (y1 l.id) l.id new).writes) s p.kept (omega arith) hl in
        let ms : List NodeList = pre ++ (p.list ∷ (post ++ (l2 ∷ []))) in
        let T : List ℕ = touch l.id y.touched in
        let ct : Counting s T y.highest (pre ++ (p.list ∷ post)) = counting_push s y.touched y.highest pre l p.list post d0.body.ids_differ p.same
        (ap length p.nodes ∙ length-append l.nodes (n ∷ [])) p.extended (subst (λ z. Counting s y.touched y.highest z) e d.counting) in
        let kn : AllByRecursion (λ m. m.id ≤ y.highest) (pre ++ (p.list ∷ post)) = All-append (λ m. m.id ≤ y.highest) pre (p.list ∷ post) u0 (subst (λ z. z ≤ y.highest) (sym p.same) top, u1.1) in
        let ct2 : Counting s (touch (y.highest + 1) T) (y.highest + 1) ms
        = subst (λ z. Counting s (touch (y.highest + 1) T) (y.highest + 1) z) (append_assoc pre (p.list ∷ post) (l2 ∷ [])) (counting_list s T y.highest (pre ++ (p.list ∷ post)) l2 kn refl refl E refl ct) in
        let tq : (with_node (y1 l.id) l.id new).layout.touched ≡ touch (y.highest + 1) T
        = with_node_touched (y1 l.id) l.id new ∙ touch_again l.id (touch (y.highest + 1) T) (touch_other l.id (y.highest + 1) T (λ z. omega arith) ∙ touch_same l.id y.touched) in
        subst goal q (
          pre ++ (p.list ∷ (post ++ (l2 ∷ []))),
          record {
            laid = p.laid;
            counting = subst (λ z. Counting s z (with_node (y1 l.id) l.id new).layout.highest ms) (sym tq) (subst (λ z. Counting s (touch (y.highest + 1) T) z ms) (sym (with_node_highest (y1 l.id) l.id new)) ct2);
            later = omega arith;
            head = hl2.0;
            logs = hl2.1;
            tied = tied_header h (up_to s.header (with_node (y1 l.id) l.id new).layout.end) (pre ++ (p.list ∷ (post ++ (l2 ∷ [])))) refl t3;
          },
          record {
            grown = λ x.
                let A : List Content = map (holds c) (nodes_of ls x) in
                let g1 = pushed_holds c1 s (y1 l.id) pre l (post ++ (l2 ∷ [])) new (λ p. referring_of p id 2 fresh payload) (with_node (y1 l.id) l.id new) (node_part (y1 l.id) l.id new) X x d2 a2 p
                (λ z. branch_holds c1 z id E payload) in
                let g2 : map (holds c1) (nodes_of (pre ++ (l ∷ (post ++ (l2 ∷ [])))) x) ≡ A ++ cond (eqb (y.highest + 1) x) (Y ∷ []) []
                = ap (λ (z : List NodeList). map (holds c1) (nodes_of z x)) (sym (append_assoc pre (l ∷ post) (l2 ∷ [])))
                ∙ list_holds c c1 (pre ++ (l ∷ post)) l2 Y x (All-weaker (λ m. m.id ≤ y.highest) (λ m. m.id ≢ y.highest + 1) (λ m z w. omega arith) (pre ++ (l ∷ post)) d0.known)
                (ap (λ (z : Content). z ∷ []) (plain_holds c1 (E + 16) first_id first)) (longer_held c s y (pre ++ (l ∷ post)) (nf ++ pad) x d0)
                ∙ ap (λ (z : List NodeList). map (holds c) (nodes_of z x) ++ cond (eqb (y.highest + 1) x) (Y ∷ []) []) (sym e) in
                g1 ∙ ap (λ (z : List Content). z ++ cond (eqb l.id x) (X ∷ []) []) g2 ∙ either_sum A X Y l.id (y.highest + 1) x (omega arith);
            known = λ x h. taken_push pre l p.list (post ++ (l2 ∷ [])) x p.same ∙ ap (λ (z : List NodeList). taken x z) (sym (append_assoc pre (l ∷ post) (l2 ∷ [])))
                ∙ taken_list (pre ++ (l ∷ post)) l2 x (omega arith) ∙ ap (λ (z : List NodeList). taken x z) (sym e);
            parting =
                let ps : List Part = part (y.highest + 1) 0 fresh ∷ node_part (y1 l.id) l.id new in
                let g0 : Parting y.highest (pre ++ (l ∷ post)) (y.highest + 1) ((pre ++ (l ∷ post)) ++ (l2 ∷ [])) (part (y.highest + 1) 0 fresh ∷ [])
                = parting_list y.highest (pre ++ (l ∷ post)) fresh (plain_of (E + 16) first_id first) (E + 16 + length node) refl
                (ap (λ z. E + 16 + z) ((plain_made first_id first j l0).size (E + 16))) d0.known in
                let g1 = parting_then y.highest (y.highest + 1) (y.highest + 1) (pre ++ (l ∷ post)) (pre ++ (l ∷ (post ++ (l2 ∷ [])))) ms
                (part (y.highest + 1) 0 fresh ∷ []) (node_part (y1 l.id) l.id new)
                (subst (λ z. Parting y.highest (pre ++ (l ∷ post)) (y.highest + 1) z (part (y.highest + 1) 0 fresh ∷ [])) (append_assoc pre (l ∷ post) (l2 ∷ [])) g0)
                (pushed_parting c1 s (y1 l.id) (λ p. referring_of p id 2 fresh payload) pre l (post ++ (l2 ∷ [])) (with_node (y1 l.id) l.id new) (node_part (y1 l.id) l.id new) d2 p) in
                subst (λ z. Parting y.highest z (with_node (y1 l.id) l.id new).layout.highest ms ps) (sym e)
                (subst (λ z. Parting y.highest (pre ++ (l ∷ post)) z ms ps) (sym (with_node_highest (y1 l.id) l.id new)) g1);
          },
        )
