-- What a medium was asked for and did: writes and syncs, in their order.
use Rattle.std.specs.Prelude.{◌≡◌, ℕ, cond, nat_le, List, [], ◌∷◌, ◌++◌, Option, Ok, Err, Result, IsSome, IsNone}
use Rattle.model.specs.Bytes.{Write, put}

-- a call of a medium that was done: all bytes of a write, or a sync
pub data Event : Type 0 where
  took : Write → Event
  synced : Event

-- the events of a call: the one it was asked for, or none where it failed
abbrev pub if_took : {T E : Type 0} → Result T E → Event → List Event
if_took (Ok x) e = e ∷ []
if_took (Err x) e = []

-- a write to the first 1,024 bytes, where the header stands, goes between two syncs; any other goes alone
abbrev pub around : Write → List Event
around w = cond (nat_le 1024 w.place) (took w ∷ []) (synced ∷ (took w ∷ (synced ∷ [])))

-- the events of writes, one after the other
abbrev pub planned : List Write → List Event
planned [] = []
planned (w ∷ ws) = around w ++ planned ws

-- the writes of events
abbrev pub taken : List Event → List Write
taken [] = []
taken (took w ∷ es) = w ∷ taken es
taken (synced ∷ es) = taken es

-- Of a medium that had done the events `old` a plan is asked, and now it has done `new`: of the plan all, or what stands before the first error.
-- `before` and `after` are the trouble before and after. Where there is none afterwards, nothing of the plan is left;
-- where there was some before, nothing is done, and it stays.
pub record HandedOn {E : Type 0} (plan old new : List Event) (before after : Option E) : Type 0 where
  pub did : List Event
  pub left : List Event
  pub parts : plan ≡ did ++ left
  pub grown : new ≡ old ++ did
  pub whole : IsNone after → left ≡ []
  pub kept : IsSome before → (did ≡ []) × (after ≡ before)

-- a plan that was tried: done as a whole, or up to the first error
abbrev pub Tried : {T E : Type 0} → List Event → List Event → List Event → Result T E → Type 0
Tried plan old new (Ok x) = new ≡ old ++ plan
Tried plan old new (Err x) = (did : List Event) × (left : List Event) × (plan ≡ did ++ left) × (new ≡ old ++ did)

-- the event that a place, if there is one, and bytes tell: a write, or a sync
abbrev pub event_of : List ℕ → List ℕ → Event
event_of [] bytes = synced
event_of (place ∷ ps) bytes = took (put place bytes)
