-- What the loop over the places keeps, from the right.
use Rattle.std.proofs.Common.{◌≡◌, ◌^◌, ◌<◌, length, take, replicate}
use Rattle.column.specs.Column.{in_column}
use Rattle.column.proofs.Steps.{filled}
use Rattle.column.proofs.justified.Given as goal

abbrev pub invariant-loop-at : goal.invariant-loop-at
invariant-loop-at l = record {
  size : length l.column ≡ 12;
  blank : take l.at l.column ≡ replicate l.at 32;
  digits_left : filled l.column l.left l.at ≡ in_column l.n;
  fits : l.left < 10 ^ l.at;
  some : l.at < 12 → 0 < l.left;
}
