-- What lists hold: it is the same in a row that has their data, and one node or one list more adds to it at one ID.
use Rattle.std.proofs.Common.{◌≡◌, ℕ, ◌<◌, ◌≤◌, true, false, cond, ◌&&◌, ◌||◌, eqb, ◌≢◌, List, [], ◌∷◌, ◌++◌, map, length, Some, None, sym, refl, ap, ◌∙◌, subst, inl, inr, arith}
use Rattle.std.specs.List.{AllByRecursion}
use Rattle.std.proofs.lemmas.List.{append-nil}
use Rattle.std.proofs.lemmas.Bool.{cases_Bool, ne_eqb, eqb-true}
use Rattle.std.proofs.lemmas.Bool.Decides.{nat_tests}
use Rattle.model.specs.declared.types.Span.{Span}
use Rattle.model.specs.Bytes.{piece}
use Rattle.model.specs.References.{span, end_of, present}
use Rattle.model.specs.Nodes.{Node, referring}
use Rattle.model.specs.Section.{NodeList}
use Rattle.model.specs.OpenedLists.{taken}
use Rattle.model.specs.Means.{Pairwise, data_spans}
use Rattle.model.specs.Looks.{nodes_of, reference_of, data_of}
use Rattle.model.specs.Contents.{content_of, holds}
use Rattle.meaning.proofs.Frames.{piece_in}
use Rattle.meaning.proofs.Base.{all_front, references}
use Rattle.commits.proofs.NodeBack.{plain_of, referring_of}
use Rattle.commits.proofs.Around.{Kept}

-- in another row ---------------------------------------------------------------------------------------------------------

-- data that stands in both rows, with the same bytes
abbrev pub DataSame : List ℕ → List ℕ → Span → Type 0
DataSame b c r = (end_of r ≤ length b) × (end_of r ≤ length c) × Kept b c r

-- what a node holds, by the place of its data
same_holds : (b c : List ℕ) (n : Node) (r : Span) → data_of n ≡ r → piece b r.start r.size ≡ piece c r.start r.size → holds c n ≡ holds b n
same_holds b c n r e q =
    ap (λ (w : List ℕ). content_of n.id n.base (reference_of n) n.payload w) (subst (λ (z : Span). piece c z.start z.size ≡ piece b z.start z.size) (sym e) (sym q))

pub nodes_held : (b c : List ℕ) (ns : List Node) → AllByRecursion (DataSame b c) (references ns) → map (holds c) ns ≡ map (holds b) ns
unfolding referring piece
nodes_held b c [] a = refl
nodes_held b c (n ∷ ns) a = elim (cases_Bool (eqb n.base 1 && present n.reference)) [
  | inl e ↦
      let (p, r) : DataSame b c n.reference × AllByRecursion (DataSame b c) (references ns)
      = subst (λ (z : List Node). AllByRecursion (DataSame b c) (map (λ n. n.reference) z)) (ap (λ z. cond z (n ∷ referring 1 ns) (referring 1 ns)) e) a in
      let q : piece b n.reference.start n.reference.size ≡ piece c n.reference.start n.reference.size
      = piece_in b c n.reference.start (end_of n.reference) n.reference.start n.reference.size p.2 p.0 p.1 (omega arith) (omega arith) in
      let u : holds c n ≡ holds b n = same_holds b c n n.reference (ap (λ z. cond z n.reference (span 0 0)) e) q in
      cc (u, nodes_held b c ns r)
  | inr e ↦
      let r : AllByRecursion (DataSame b c) (references ns)
      = subst (λ (z : List Node). AllByRecursion (DataSame b c) (map (λ n. n.reference) z)) (ap (λ z. cond z (n ∷ referring 1 ns) (referring 1 ns)) e) a in
      let u : holds c n ≡ holds b n = same_holds b c n (span 0 0) (ap (λ z. cond z n.reference (span 0 0)) e) refl in
      cc (u, nodes_held b c ns r)
]

pub nodes_data : (P : Span → Type 0) (ls : List NodeList) (id : ℕ) → AllByRecursion P (data_spans ls) → AllByRecursion P (references (nodes_of ls id))
unfolding nodes_of referring
nodes_data P [] id a = tt
nodes_data P (l ∷ ls) id a =
    let (x, y) = all_front P (references l.nodes) (data_spans ls) a in
    elim (cases_Bool (eqb l.id id)) [
      | inl e ↦ rw e x
      | inr e ↦ rw e (nodes_data P ls id y)
    ]

pub lists_held : (b c : List ℕ) (ls : List NodeList) (id : ℕ) → AllByRecursion (DataSame b c) (data_spans ls) → map (holds c) (nodes_of ls id) ≡ map (holds b) (nodes_of ls id)
lists_held b c ls id a = nodes_held b c (nodes_of ls id) (nodes_data (DataSame b c) ls id a)

-- one more ---------------------------------------------------------------------------------------------------------------

differ : (x y id : ℕ) → x ≢ y → eqb x id ≡ true → eqb y id ≡ false
differ x y id n e = ne_eqb y id (λ q. n (eqb-true x id e ∙ sym q))

pub nodes_push : (pre : List NodeList) (l l' : NodeList) (post : List NodeList) (n : Node) (id : ℕ) → l'.id ≡ l.id → l'.nodes ≡ l.nodes ++ (n ∷ []) → Pairwise (λ l m. l.id ≢ m.id) (pre ++ (l ∷ post))
    → nodes_of (pre ++ (l' ∷ post)) id ≡ nodes_of (pre ++ (l ∷ post)) id ++ cond (eqb l.id id) (n ∷ []) []
unfolding nodes_of
nodes_push [] l l' post n id e f d = elim (cases_Bool (eqb l.id id)) [
  | inl x ↦ rw (e, x) f
  | inr x ↦ rw (e, x) (sym (append-nil (nodes_of post id)))
]
nodes_push (k ∷ pre) l l' post n id e f (d, ds) =
    let (u, v) = all_front (λ m. k.id ≢ m.id) pre (l ∷ post) d in
    elim (cases_Bool (eqb k.id id)) [
      | inl x ↦ let z = differ k.id l.id id v.0 x in rw (x, z) (sym (append-nil k.nodes))
      | inr x ↦ rw x (nodes_push pre l l' post n id e f ds)
    ]

pub nodes_list : (ls : List NodeList) (m : NodeList) (id : ℕ) → AllByRecursion (λ l. l.id ≢ m.id) ls → nodes_of (ls ++ (m ∷ [])) id ≡ nodes_of ls id ++ cond (eqb m.id id) m.nodes []
unfolding nodes_of
nodes_list [] m id d = refl
nodes_list (k ∷ ls) m id (d, ds) = elim (cases_Bool (eqb k.id id)) [
  | inl x ↦ let z = differ k.id m.id id d x in rw (x, z) (sym (append-nil k.nodes))
  | inr x ↦ rw x (nodes_list ls m id ds)
]

pub taken_push : (pre : List NodeList) (l l' : NodeList) (post : List NodeList) (id : ℕ) → l'.id ≡ l.id → taken id (pre ++ (l' ∷ post)) ≡ taken id (pre ++ (l ∷ post))
taken_push [] l l' post id e = rw e
taken_push (k ∷ pre) l l' post id e = ap (λ z. eqb k.id id || z) (taken_push pre l l' post id e)

pub taken_list : (ls : List NodeList) (m : NodeList) (id : ℕ) → id < m.id → taken id (ls ++ (m ∷ [])) ≡ taken id ls
taken_list [] m id h = let x : eqb m.id id ≡ false = grind (arith, nat_tests) in rw x
taken_list (k ∷ ls) m id h = ap (λ z. eqb k.id id || z) (taken_list ls m id h)

-- what a new node holds ----------------------------------------------------------------------------------------------------

pub plain_holds : (c : List ℕ) (p id : ℕ) (payload : List ℕ) → holds c (plain_of p id payload) ≡ content_of id 0 None payload []
unfolding piece
plain_holds c p id payload = refl

pub branch_holds : (c : List ℕ) (p id start : ℕ) (payload : List ℕ) → holds c (referring_of p id 2 (span start 1024) payload) ≡ content_of id 2 (Some (span start 1024)) payload []
unfolding piece
branch_holds c p id start payload = refl

pub data_holds : (c : List ℕ) (p id start : ℕ) (payload content : List ℕ) → 1 ≤ length content → piece c start (length content) ≡ content
    → holds c (referring_of p id 1 (span start (length content)) payload) ≡ content_of id 1 (Some (span start (length content))) payload content
data_holds c p id start payload content h e = let x : eqb (length content) 0 ≡ false = grind (arith, nat_tests) in rw (x, e)
