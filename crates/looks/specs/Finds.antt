-- A node that a look has found, and what looking for it answers.
use Rattle.std.specs.Prelude.{◌≡◌, ℕ, ◌+◌, ◌<◌, ◌≤◌, List, ◌++◌, length, drop, cond, Some, None, Ok, Err, Result, Bool, true, false, ◌||◌, ◌==◌, nat_lt}
use Rattle.model.specs.Bytes.{piece}
use Rattle.model.specs.Faults.{fault, Outcome, done, refused}
use Rattle.model.specs.References.{end_of, absent}
use Rattle.model.specs.Nodes.{Node}
use Rattle.model.specs.Looks.{data_of}
use Rattle.refusals.specs.declared.calls.LookFault.{LookFault}
use Rattle.refusals.specs.CallRefusals.{look_told}
use Rattle.looks.specs.declared.found.FoundNode.{FoundNode}
use Rattle.looks.specs.declared.seen.NodeSeen.{NodeSeen}

-- what was found is the node n, whose payload stands in the bytes b
pub record Shows (b : List ℕ) (f : FoundNode) (n : Node) : Type 0 where
  pub id : f.node.head.id ≡ n.id
  pub base : f.node.head.base ≡ n.base
  pub reference : f.node.reference ≡ n.reference
  pub payload : n.payload ≡ piece b f.payload.start f.payload.size
  pub long : length n.payload ≡ f.payload.size
  pub inside : end_of f.payload ≤ length b

-- what a look at it answers
pub record IsSeen (f : FoundNode) (n : NodeSeen) : Type 0 where
  pub id : n.id ≡ f.node.head.id
  pub base : n.base ≡ f.node.head.base
  pub reference : n.reference ≡ cond (absent f.node.reference) None (Some f.node.reference)
  pub payload : n.payload ≡ f.payload.size

-- the answer to looking for a node: it is found, and its data stands in the bytes b; or it is refused
abbrev pub Finds : List ℕ → Result FoundNode LookFault → Outcome Node → Type 0
Finds b (Ok f) o = (n : Node) × (o ≡ done n) × Shows b f n × (end_of (data_of n) ≤ length b)
Finds b (Err e) o = o ≡ refused (look_told e)

-- k is 0, or over the file's count
abbrev pub future : ℕ → ℕ → Bool
future count k = k == 0 || nat_lt count k

-- the count k, or 25
abbrev pub Finished : ℕ → ℕ → Result ℕ LookFault → Type 0
Finished count k (Ok n) = (n ≡ k) × (future count k ≡ false)
Finished count k (Err e) = (future count k ≡ true) × (look_told e ≡ fault 25 5 0 0)

-- the index, if it is below a count, or 26
abbrev pub Below : ℕ → ℕ → Result ℕ LookFault → Type 0
Below count index (Ok i) = (i ≡ index) × (index < count)
Below count index (Err e) = (count ≤ index) × (look_told e ≡ fault 26 5 0 0)

-- n bytes at p become the buffer's front exactly when they stand in the row and the buffer takes them; a refusal leaves it as it is
abbrev pub Fills : {T : Type 0} → List ℕ → ℕ → ℕ → List ℕ → List ℕ → Result T LookFault → Type 0
Fills row p n was is (Ok x) = (p + n ≤ length row) × (n ≤ length was) × (is ≡ piece row p n ++ drop n was)
Fills row p n was is (Err e) = (p + n ≤ length row → n ≤ length was → ⊥) × (is ≡ was) × (look_told e ≡ fault 27 5 0 0)
