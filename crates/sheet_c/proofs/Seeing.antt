-- What looks answer, from the opening.
use Rattle.std.proofs.Common.{◌≡◌, ℕ, List, Some, None, Option, refl, sym, subst}
use Rattle.model.specs.Faults.{Outcome, done, refused, then}
use Rattle.model.specs.Section.{Section}
use Rattle.model.specs.Looks.{Look, look}
use Rattle.tables.specs.declared.room.Room.{Room}
use Rattle.section.specs.declared.access.Access.{Access}
use Rattle.section.specs.declared.access.Figures.{Figures}
use Rattle.section.specs.Figures.{figures_of}
use Rattle.section.specs.Keeping.{Sound}
use Rattle.section.specs.LookAnswers.{look_of}
use Rattle.section.specs.OpenAnswers.{opened_in, open_answer, Marks, ListsRows}
use Rattle.section.proofs.RoomLaws.{room_accepts}
use Rattle.sheet_c.specs.Shows.{look_in, Holds}

looks_as : (room : ℕ) (b : List ℕ) (s : Section) (a : Option Access) (mark : ℕ) (f : Figures) → opened_in room b ≡ done s → Marks None mark (done f) a → (l : Look) → look_of a b l ≡ look_in room b l
unfolding look
looks_as room b s None mark f e m l = absurd m
looks_as room b s (Some a) mark f e m l = rw (room_accepts room b s e, e) refl

held : (room : ℕ) (b : List ℕ) (tables : Room) (a : Option Access) (mark : ℕ) (f : Figures) (o : Outcome Section) → opened_in room b ≡ o → done f ≡ then o (λ s. done (figures_of s)) → ListsRows o tables.lists
    → Marks None mark (done f) a → Sound b tables a → Holds room b b tables a f
held room b tables a mark f (done s) e g rows m sound = record { section = s; opens = e; figures' = cc; rows = rows; sound = sound; looks = looks_as room b s a mark f e m }
held room b tables a mark f (refused x) e g rows m sound = absurd cc

pub holds : (before after : Option Access) (room room' : ℕ) (b b' kept : List ℕ) (old new : Room) (mark : ℕ) (f : Figures) → before ≡ None → room' ≡ room → b' ≡ b → kept ≡ b'
    → done f ≡ open_answer before room' b' → Marks before mark (done f) after → (before ≡ None → ListsRows (opened_in room' b') new.lists)
    → (Sound b' old before → Sound kept new after) → Sound b' old before → Holds room b kept new after f
holds (Some a) after room room' b b' kept old new mark f shut e g k answer marks lists sound was = absurd cc
holds None after room room' b b' kept old new mark f shut e g k answer marks lists sound was =
    let here : Holds room' b' b' new after f = held room' b' new after mark f (opened_in room' b') refl answer (lists refl) marks (subst (λ (c : List ℕ). Sound c new after) k (sound was)) in
    rw (k, sym g, sym e) here
