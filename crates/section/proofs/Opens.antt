-- What open and the figures answer, from what is known of the file.
use Rattle.std.proofs.Common.{◌≡◌, ℕ, ◌^◌, ◌<◌, ◌≤◌, false, List, length, is_some, Some, None, Option, refl, ap, ◌∙◌, subst, arith}
use Rattle.model.specs.declared.types.Header.{Header}
use Rattle.model.specs.Faults.{done}
use Rattle.model.specs.Opened.{opened}
use Rattle.model.specs.Section.{Section}
use Rattle.meaning.proofs.OpensMeans.{opens_means}
use Rattle.tables.specs.declared.room.Room.{Room}
use Rattle.section.specs.declared.access.Access.{Access}
use Rattle.section.specs.declared.access.Figures.{Figures}
use Rattle.section.specs.Figures.{figures_of, figures_known}
use Rattle.section.specs.Keeping.{Keeps, Sound}
use Rattle.section.specs.OpenAnswers.{open_answer, ReadsAs}
use Rattle.section.specs.Telling.{figures_at}
use Rattle.section.proofs.Used.{sizes_of}

-- what is told by what is known
abbrev pub ToldBy : Room → Access → Figures → Type 0
ToldBy room a f = 1 ≤ a.header.end → a.used < 2 ^ 57 → f ≡ figures_known a (length room.lists)

-- are the figures of the section
told_of : (b : List ℕ) (s : Section) (room : Room) (a : Access) (f : Figures) → opened b ≡ done s → Keeps b s room a → ToldBy room a f → f ≡ figures_of s
told_of b s room a f o k told =
    let mean = (opens_means b s o).0 in
    let least = mean.header.least in
    let end = ap (λ (h : Header). h.end) k.header in
    let few = sizes_of b s mean in
    let used = k.used in
    told (omega arith) (omega arith) ∙ rw (k.header, k.used, k.fragments, k.kept.lists.number) refl

-- what was read of a shut file is answered in figures
pub answer_read : (mark : ℕ) (b : List ℕ) (capacity : ℕ) (room : Room) (a : Access) (r : ReadsAs mark b capacity room a) (o : Option Access) (f : Figures)
    → is_some o ≡ false → ToldBy room a f → done f ≡ open_answer o capacity b
answer_read mark b capacity room a r (Some x) f shut told = absurd cc
answer_read mark b capacity room a r None f shut told = rw r.opens (ap done (told_of b r.section room a f r.fits r.keeps told))

-- and so is what is known of an opened one
pub figures_told : (b : List ℕ) (room : Room) (o : Option Access) (a : Access) (f : Figures) → o ≡ Some a → ToldBy room a f → Sound b room o → done f ≡ figures_at o b
figures_told b room None a f is told sound = absurd cc
figures_told b room (Some x) a f is told (s, o, k) = let same : x ≡ a = cc in rw o (ap done (told_of b s room a f o (subst (Keeps b s room) same k) told))
