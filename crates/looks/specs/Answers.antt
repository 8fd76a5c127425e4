-- What the looks of the code answer, in the definitions' words.
use Rattle.std.specs.Prelude.{◌≡◌, ℕ, ◌||◌, Bool, List, [], ◌∷◌, take, Ok, Err, Result, ◌==◌, nat_lt}
use Rattle.model.specs.declared.types.Header.{Header}
use Rattle.model.specs.Faults.{fault, Outcome, done, refused, unless}
use Rattle.model.specs.Section.{Section, count_at}
use Rattle.model.specs.Opened.{opened}
use Rattle.model.specs.Looks.{Seen, node, bytes, equal, Looked}
use Rattle.refusals.specs.declared.calls.LookFault.{LookFault}
use Rattle.refusals.specs.CallRefusals.{look_told}
use Rattle.tables.specs.declared.room.Room.{Room}
use Rattle.tables.specs.Kept.{Kept}
use Rattle.looks.specs.declared.seen.NodeSeen.{NodeSeen}

-- the bytes hold the section s, the room keeps it, and the header is its
pub record Opens (b : List ℕ) (room : Room) (h : Header) (s : Section) : Type 0 where
  pub section : opened b ≡ done s
  pub kept : Kept b s room
  pub header : h ≡ s.header

-- an answer, with what the buffer then holds
abbrev pub looked : Outcome Seen → List ℕ → Looked
looked a is = record { answer = a; buffer = is }

-- of a look at a node: its payload is the buffer's front
abbrev pub node_answer : Result NodeSeen LookFault → List ℕ → Looked
node_answer (Ok n) is = looked (done (node n.id n.base n.reference (take n.payload is))) is
node_answer (Err e) is = looked (refused (look_told e)) is

-- of a look at so many bytes of a node's data
abbrev pub data_answer : {T : Type 0} → ℕ → Result T LookFault → List ℕ → Looked
data_answer size (Ok x) is = looked (done (bytes (take size is))) is
data_answer size (Err e) is = looked (refused (look_told e)) is

-- of whether two nodes are alike
abbrev pub alike_answer : Result Bool LookFault → Looked
alike_answer (Ok yes?) = looked (done (equal yes?)) []
alike_answer (Err e) = looked (refused (look_told e)) []

-- how many nodes a list had at k, with 25 as for any look
abbrev pub counted : Section → ℕ → ℕ → Outcome ℕ
counted s k list = unless ((k == 0 || nat_lt s.header.count k, fault 25 5 0 0) ∷ []) (done (count_at s.log k list))

abbrev pub count_answer : Result ℕ LookFault → Outcome ℕ
count_answer (Ok n) = done n
count_answer (Err e) = refused (look_told e)
