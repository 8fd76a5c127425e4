-- the counts so far are noted
use Rattle.std.proofs.Common.{◌≡◌, ◌+◌, ◌++◌, take, vec_len}
use Rattle.counts.specs.Noted.{changes_of}
use Rattle.keeping.specs.Given.{given}
use Rattle.keeping.proofs.noting.note_all.Given as goal

abbrev pub invariant-loop-tail : goal.invariant-loop-tail
invariant-loop-tail l = record {
  changes : l.counts.changes.items ≡ l.initial.counts.changes.items ++ changes_of (l.initial.counts.finished + 1) (given (take l.tail-index l.touched));
  len : vec_len l.counts.changes ≡ vec_len l.initial.counts.changes + l.tail-index;
  finished : l.counts.finished ≡ l.initial.counts.finished;
  room : l.counts.room ≡ l.initial.counts.room;
}
