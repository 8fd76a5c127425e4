-- Looks at an opened file are those of its bytes.
use Rattle.std.proofs.Common.{◌≡◌, ℕ, List, Some, None, Option, sym, ap, ◌∙◌}
use Rattle.model.specs.declared.types.Header.{Header}
use Rattle.model.specs.Faults.{Outcome, then}
use Rattle.model.specs.Section.{Section}
use Rattle.model.specs.Looks.{Look, Looked, seen_in, answered, look}
use Rattle.tables.specs.declared.room.Room.{Room}
use Rattle.looks.specs.Answers.{Opens, counted}
use Rattle.section.specs.declared.access.Access.{Access}
use Rattle.section.specs.Keeping.{Sound}
use Rattle.section.specs.LookAnswers.{look_of, count_of, HasHeader}

opens_here : (b : List ℕ) (room : Room) (a : Access) (h : Header) (k : Sound b room (Some a)) → a.header ≡ h → Opens b room h k.0
opens_here b room a h (s, opens, keeps) e = record { section = opens; kept = keeps.kept; header = sym e ∙ keeps.header }

pub shown : (b : List ℕ) (room : Room) (access : Option Access) (h : Header) (l : Look) (x : Looked) → Sound b room access → HasHeader access h
    → ((s : Section) → Opens b room h s → x ≡ answered l (seen_in b s l)) → x ≡ look_of access b l
unfolding look
shown b room None h l x k e f = absurd e
shown b room (Some a) h l x k e f = f k.0 (opens_here b room a h k e) ∙ sym (ap (λ o. answered l (then o (λ s. seen_in b s l))) k.1)

pub counted_of : (b : List ℕ) (room : Room) (access : Option Access) (h : Header) (n list : ℕ) (x : Outcome ℕ) → Sound b room access → HasHeader access h
    → ((s : Section) → Opens b room h s → x ≡ counted s n list) → x ≡ count_of access b n list
counted_of b room None h n list x k e f = absurd e
counted_of b room (Some a) h n list x k e f = f k.0 (opens_here b room a h k e) ∙ sym (ap (λ o. then o (λ s. counted s n list)) k.1)
