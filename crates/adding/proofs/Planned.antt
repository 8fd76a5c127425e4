-- The writes of an add are those that the rules plan.
use Rattle.std.proofs.Common.{◌≡◌, ℕ, ◌+◌, Bool, true, false, eqb, leb, cond, List, [], ◌∷◌, ◌++◌, map, length, refl, ap, inl, inr, arith}
use Rattle.std.proofs.lemmas.Bool.{cases_Bool}
use Rattle.std.proofs.lemmas.Bool.Decides.{nat_tests}
use Rattle.model.specs.Bytes.{Write}
use Rattle.model.specs.References.{span}
use Rattle.model.specs.Nodes.{plain_node, referring_node}
use Rattle.model.specs.ListFragments.{nodes_to, new_fragment}
use Rattle.model.specs.Layouts.{plain, with_data, branch, Tail, Layout, member, find_tail}
use Rattle.model.specs.Saving.{Plan, with_node, planned}
use Rattle.writing.specs.Padded.{padded}
use Rattle.adding.specs.Writes.{node_writes, add_writes, WritesPlanned}

-- the tail that is found for a list that is there is that list's
found_id : (ts : List Tail) (id : ℕ) → member id (map (λ t. t.id) ts) ≡ true → (find_tail ts id).id ≡ id
unfolding find_tail
found_id [] id e = absurd (grind arith)
found_id (t ∷ ts) id e = elim (cases_Bool (eqb t.id id)) [
  | inl x ↦ rw x (grind (arith, nat_tests))
  | inr x ↦ rw x (found_id ts id (rw x at e))
]

-- a tail among the first is found among all
found_first : (ts us : List Tail) (id : ℕ) → member id (map (λ t. t.id) ts) ≡ true → find_tail (ts ++ us) id ≡ find_tail ts id
unfolding find_tail
found_first [] us id e = absurd (grind arith)
found_first (t ∷ ts) us id e = elim (cases_Bool (eqb t.id id)) [
  | inl x ↦ rw x
  | inr x ↦ rw x (found_first ts us id (rw x at e))
]

either : (b : Bool) (p q : Plan) (v w : List Write) → p.writes ≡ v → q.writes ≡ w → (cond b p q).writes ≡ cond b v w
either true p q v w e f = e
either false p q v w e f = f

-- of a node, where t is the tail that is found
node_planned : (y : Layout) (id : ℕ) (new : List ℕ) (t : Tail) → find_tail y.tails id ≡ t → t.id ≡ id → (with_node y id new).writes ≡ node_writes y.end t new
unfolding node_writes
node_planned y id new t e i = rw (e, ← i) (either (leb (t.free + length new) (nodes_to t.fragment)) _ _ _ _ refl refl)

pub writes_planned : WritesPlanned
unfolding planned add_writes
writes_planned y (plain list id payload) m = node_planned y list (plain_node id payload) _ refl (found_id y.tails list m)
writes_planned y (with_data list id payload content) m =
    ap (λ ws. padded y.end content ∷ ws) (node_planned _ list (referring_node id 1 (span y.end (length content)) payload) _ refl (found_id y.tails list m))
writes_planned y (branch list id payload first_id first_payload) m =
    ap
    (λ ws. padded y.end (new_fragment (y.highest + 1) 0 (plain_node first_id first_payload)) ∷ ws)
    (node_planned _ list (referring_node id 2 (span y.end 1024) payload) _ (found_first y.tails _ list m) (found_id y.tails list m))
