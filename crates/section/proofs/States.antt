-- A state that a file stands for: what its bytes hold is its section, with a draft in it or without.
use Rattle.std.proofs.Common.{◌≡◌, ℕ, suc, ◌<◌, ◌≤◌, false, List, [], ◌∷◌, length, slice_index, is_some, Some, None, Option, sym, refl, ap, ◌∙◌, subst}
use Rattle.model.specs.Bytes.{Bytes, applied}
use Rattle.model.specs.Faults.{done}
use Rattle.model.specs.Opened.{opened}
use Rattle.model.specs.Section.{Section}
use Rattle.model.specs.Calls.{State, open_file, access_of, writes, after}
use Rattle.model.specs.Journal.{shut}
use Rattle.model.specs.Laws.{Sound, adds_of}
use Rattle.lasting.proofs.Opening.{opens_sound, opened_answer}
use Rattle.lasting.proofs.InDraft.{Drafting, mid_same}
use Rattle.tables.specs.declared.room.Room.{Room}
use Rattle.drafts.specs.declared.layout.DraftLayout.{DraftLayout}
use Rattle.section.specs.declared.access.Access.{Access}
use Rattle.section.specs.Keeping.{Keeps}
use Rattle.section.specs.Keeping
use Rattle.section.specs.OpenAnswers.{Fresh, ReadsAs}
use Rattle.section.specs.States.{InDraft, Knows, StandsFor}

-- over the bytes that the file was opened with, or that its last commit left, stands the open draft, if one is open
pub drafting_of : {st : State} {n most : ℕ} (x : Sound st n most) → Drafting most x.start x.section (adds_of x.access.draft)
drafting_of {most = most} x = record {
  are_bytes = x.are_bytes;
  opens = x.finished;
  dones = x.adds;
  below = subst (λ (r : List ℕ). length r ≤ most) x.bytes x.below_ceiling;
}

-- so the bytes hold the same finished file
sound_opens : {st : State} {n most : ℕ} (x : Sound st n most) → opened st.bytes ≡ done x.section
sound_opens x = ap opened x.bytes ∙ (mid_same (drafting_of x)).opens

pub knows_opens : {b : List ℕ} {most : ℕ} {room : Room} {d : DraftLayout} {a : Access} {st : State} (k : Knows b most room d a st) → opened b ≡ done k.sound.section
knows_opens k = ap opened (sym k.bytes) ∙ sound_opens k.sound

pub stands_sound : (b : List ℕ) (most : ℕ) (room : Room) (d : DraftLayout) (access : Option Access) (st : State) → StandsFor b most room d access st → Keeping.Sound b room access
stands_sound b most room d None st k = tt
stands_sound b most room d (Some a) st k = (k.sound.section, knows_opens k, k.keeps)

-- a shut file whose bytes hold s is opened
module _ (b : List ℕ) (most mark : ℕ) (s : Section) (opens : opened b ≡ done s) where
  abbrev opened_then : State
  opened_then = after (shut b most) (open_file mark)

  then_bytes : opened_then.bytes ≡ b
  unfolding after writes applied
  then_bytes = rw opens refl

  then_access : opened_then.access ≡ access_of mark 0 None
  unfolding after
  then_access = rw opens refl

  then_knows : (room : Room) (d : DraftLayout) (a : Access) → Bytes b → length b ≤ most → Keeps b s room a → Fresh mark a → Knows b most room d a opened_then
  then_knows room d a bytes below keeps (marked, begins, drafting) =
      let x = opens_sound b most mark s bytes below (opened_answer b s opens most mark) in
      let same : access_of mark 0 None ≡ Some x.access = sym then_access ∙ x.open' in
      let section : s ≡ x.section = let e = sound_opens x in cc (opens, then_bytes, e) in
      let none : x.access.draft ≡ None = cc in
      record {
        bytes = then_bytes;
        ceiling = x.same_ceiling;
        finished = s.header.count;
        sound = x;
        mark = cc;
        begins = cc;
        draft = subst (λ y. InDraft x.section room.lists d y x.access.draft) (sym drafting) none;
        keeps = subst (λ (y : Section). Keeps b y room a) section keeps;
      }

-- opening a shut file makes the state the opened one
pub open_stands : (mark : ℕ) (b : List ℕ) (most capacity : ℕ) (old room : Room) (d : DraftLayout) (access : Option Access) (a : Access) → is_some access ≡ false
    → ((i : ℕ) → slice_index b i < 256) → length b ≤ most → ReadsAs mark b capacity room a → (st : State) → StandsFor b most old d access st → Knows b most room d a (after st (open_file mark))
open_stands mark b most capacity old room d (Some x) a shut bytes below r st k = absurd cc
open_stands mark b most capacity old room d None a shut bytes below r st k =
    subst (λ (t : State). Knows b most room d a (after t (open_file mark))) (sym k) (then_knows b most mark r.section r.fits room d a (bytes_each b bytes) below r.keeps r.marked)
  where
    bytes_each : (c : List ℕ) → ((i : ℕ) → slice_index c i < 256) → Bytes c
    bytes_each [] h = tt
    bytes_each (x ∷ c) h = (h 0, bytes_each c (λ i. h (suc i)))
