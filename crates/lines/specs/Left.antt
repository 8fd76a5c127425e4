-- What listing leaves of a file.
use Rattle.std.specs.Prelude.{◌≡◌, ℕ, List}
use Rattle.section.specs.declared.files.File.{File}
use Rattle.section.specs.Keeping.{Sound}
use Rattle.section.specs.OpenAnswers.{open_answer, Marks}

-- opened with the mark, or as it was, as `open` says; over the same store and with the same room
pub record Left {S : Type 0} (bytes : S → List ℕ) (old : File S) (mark : ℕ) (new : File S) : Type 0 where
  pub marks : Marks old.access mark (open_answer old.access old.room.counts.room (bytes old.store)) new.access
  pub store : new.store ≡ old.store
  pub room : new.room.counts.room ≡ old.room.counts.room
  pub sound : Sound (bytes old.store) old.room old.access → Sound (bytes new.store) new.room new.access
