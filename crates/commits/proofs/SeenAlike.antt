-- Nodes that hold the same are seen alike by every look.
use Rattle.std.proofs.Common.{◌≡◌, ℕ, ◌+◌, ◌-◌, ◌≤◌, cond, ◌&&◌, ◌||◌, eqb, ltb, List, [], ◌∷◌, length, take, drop, Some, None, Option, sym, ap, ◌∙◌, subst, inl, inr, arith}
use Rattle.std.proofs.lemmas.List.{take-take, drop-drop, drop-take}
use Rattle.std.proofs.lemmas.Bool.{cases_Bool}
use Rattle.std.proofs.lemmas.Bool.Decides.{nat_tests}
use Rattle.model.specs.declared.types.Span.{Span}
use Rattle.model.specs.Bytes.{piece, same_row}
use Rattle.model.specs.Faults.{fault, Outcome, done, refused, unless, then}
use Rattle.model.specs.References.{span, absent}
use Rattle.model.specs.Nodes.{Node}
use Rattle.model.specs.Section.{Section}
use Rattle.model.specs.Looks.{Look, node_look, data_look, alike, looks_to, Seen, node, bytes, equal, node_of, reference_of, data_of, seen_in}
use Rattle.model.specs.Contents.{Content, holds}

-- where data stands, by BaseType and reference
data_by : ℕ → Option Span → Span
data_by base None = span 0 0
data_by base (Some r) = cond (eqb base 1) r (span 0 0)

data_of_by : (n : Node) → data_of n ≡ data_by n.base (reference_of n)
unfolding data_by
data_of_by n = elim (cases_Bool (absent n.reference)) [
  | inl e ↦ elim (cases_Bool (eqb n.base 1)) [
    | inl f ↦ rw (e, f)
    | inr f ↦ rw (e, f)
  ]
  | inr e ↦ elim (cases_Bool (eqb n.base 1)) [
    | inl f ↦ rw (e, f)
    | inr f ↦ rw (e, f)
  ]
]

-- a part of a piece
piece_part : (b : List ℕ) (p n i k : ℕ) → i + k ≤ n → piece b (p + i) k ≡ take k (drop i (piece b p n))
unfolding piece
piece_part b p n i k h =
    let m : ℕ = n - i in
    let e : n ≡ i + m = omega arith in
    sym (ap (λ z. take k (drop i (take z (drop p b)))) e ∙ ap (λ z. take k z) (drop-take i m (drop p b)) ∙ take-take k m (drop i (drop p b)) (omega arith) ∙ ap (λ z. take k z) (drop-drop i p b))

-- both are refused alike, or hold the same
abbrev pub Alike : List ℕ → List ℕ → Outcome Node → Outcome Node → Type 0
Alike c b (done n) (done m) = holds c n ≡ holds b m
Alike c b (done n) (refused g) = ⊥
Alike c b (refused f) (done m) = ⊥
Alike c b (refused f) (refused g) = f ≡ g

-- what is seen of a node
node_seen : List ℕ → Node → Outcome Seen
node_seen buffer n = unless ((ltb (length buffer) (length n.payload), fault 27 5 0 0) ∷ []) (done (node n.id n.base (reference_of n) n.payload))

data_seen : List ℕ → ℕ → ℕ → List ℕ → Span → Outcome Seen
data_seen b place size buffer r = unless ((ltb r.size (place + size) || ltb (length buffer) size, fault 27 5 0 0) ∷ []) (done (bytes (piece b (r.start + place) size)))

same_node : (c b : List ℕ) (buffer : List ℕ) (n m : Node) → holds c n ≡ holds b m → node_seen buffer n ≡ node_seen buffer m
unfolding node_seen
same_node c b buffer n m e =
    ap (λ (z : Content). unless ((ltb (length buffer) (length z.payload), fault 27 5 0 0) ∷ []) (done (node z.id z.base z.reference z.payload))) e

same_data : (c b : List ℕ) (place size : ℕ) (buffer : List ℕ) (r : Span) → piece c r.start r.size ≡ piece b r.start r.size → data_seen c place size buffer r ≡ data_seen b place size buffer r
unfolding data_seen
same_data c b place size buffer r e = elim (cases_Bool (ltb r.size (place + size) || ltb (length buffer) size)) [
  | inl x ↦ rw x
  | inr x ↦
      let h : place + size ≤ r.size = grind (arith, nat_tests) in
      rw x (ap (λ (z : List ℕ). done (bytes z)) (piece_part c r.start r.size place size h ∙ ap (λ z. take size (drop place z)) e ∙ sym (piece_part b r.start r.size place size h)))
]

same_data_of : (c b : List ℕ) (place size : ℕ) (buffer : List ℕ) (n m : Node) → holds c n ≡ holds b m → data_seen c place size buffer (data_of n) ≡ data_seen b place size buffer (data_of m)
same_data_of c b place size buffer n m e =
    let e1 : data_of n ≡ data_of m = data_of_by n ∙ ap (λ (z : Content). data_by z.base z.reference) e ∙ sym (data_of_by m) in
    let e2 : piece c (data_of n).start (data_of n).size ≡ piece b (data_of m).start (data_of m).size = ap (λ (z : Content). z.content) e in
    let e3 : piece c (data_of m).start (data_of m).size ≡ piece b (data_of m).start (data_of m).size = subst (λ (z : Span). piece c z.start z.size ≡ piece b (data_of m).start (data_of m).size) e1 e2 in
    ap (λ (z : Span). data_seen c place size buffer z) e1 ∙ same_data c b place size buffer (data_of m) e3

then_alike : {A : Type 0} (c b : List ℕ) (x y : Outcome Node) (f g : Node → Outcome A) → Alike c b x y → ((n m : Node) → holds c n ≡ holds b m → f n ≡ g m) → then x f ≡ then y g
then_alike c b (done n) (done m) f g a k = k n m a
then_alike c b (done n) (refused q) f g a k = absurd a
then_alike c b (refused p) (done m) f g a k = absurd a
then_alike {A} c b (refused p) (refused q) f g a k = ap {B = Outcome A} (λ z. refused z) a

-- a look sees alike what it finds alike
pub seen_alike : (c b : List ℕ) (t s : Section) (l : Look) → ((list index : ℕ) → Alike c b (node_of t (looks_to l) list index) (node_of s (looks_to l) list index)) → seen_in c t l ≡ seen_in b s l
unfolding node_seen data_seen
seen_alike c b t s (node_look k list index buffer) a = then_alike c b (node_of t k list index) (node_of s k list index) (node_seen buffer) (node_seen buffer) (a list index) (same_node c b buffer)
seen_alike c b t s (data_look k list index place size buffer) a =
    then_alike c b (node_of t k list index) (node_of s k list index) (λ n. data_seen c place size buffer (data_of n)) (λ n. data_seen b place size buffer (data_of n)) (a list index) (same_data_of c b place size buffer)
seen_alike c b t s (alike k list index other_list other_index) a =
    then_alike c b (node_of t k list index) (node_of s k list index)
    (λ n. then (node_of t k other_list other_index) (λ m. done (equal (eqb n.id m.id && same_row n.payload m.payload))))
    (λ n. then (node_of s k other_list other_index) (λ m. done (equal (eqb n.id m.id && same_row n.payload m.payload))))
    (a list index) (λ n n' e. then_alike c b (node_of t k other_list other_index) (node_of s k other_list other_index)
    (λ m. done (equal (eqb n.id m.id && same_row n.payload m.payload))) (λ m. done (equal (eqb n'.id m.id && same_row n'.payload m.payload)))
    (a other_list other_index) (λ m m' f. two (holds c n) (holds b n') (holds c m) (holds b m') e f))
  where
    two : (x x' z z' : Content) → x ≡ x' → z ≡ z'
        → ◌≡◌ {A = Outcome Seen} (done (equal (eqb x.id z.id && same_row x.payload z.payload))) (done (equal (eqb x'.id z'.id && same_row x'.payload z'.payload)))
    two x x' z z' e f = rw (e, f)
