-- The first broken rule of two damaged files.
use Rattle.std.proofs.Common.{ℕ, List, [], ◌∷◌, refl, arith, lit<, lit≤}
use Rattle.model.specs.Bytes.{digits, written}
use Rattle.model.specs.Faults.{fault}
use Rattle.model.specs.References.{span}
use Rattle.model.specs.LogFragments.{entry}
use Rattle.model.specs.Means.{Headed, Logs}
use Rattle.model.specs.Breaks.{sum, unmarked, Breaks, in_header, in_log, in_first}
use Rattle.model.specs.Examples.{computed, small, small_section}

-- a byte of the sum is wrong
abbrev bad_sum : List ℕ
bad_sum = written small 2060 (0 ∷ [])

sum_headed : Headed bad_sum small_section.header
unfolding computed
sum_headed = record { fields = refl; whole = lit≤ tt; stored = lit≤ tt; least = lit≤ tt; most = lit≤ tt; type = refl; format = refl; readable = lit≤ tt; counts = lit≤ tt }

sum_breaks : Breaks bad_sum (fault 6 2 2056 0)
unfolding computed
sum_breaks = in_log small_section.header sum_headed (sum [] (span 2048 1024) 1 [] (entry 16 1 ∷ [])
    (record {
      chain = (refl, tt);
      inside = ((lit≤ tt, lit≤ tt), tt);
      apart = (((λ i a b. omega arith), tt), (tt, tt));
      few = lit≤ tt;
      places = lit≤ tt;
      row = refl;
      lists = tt;
      pending_lists = (omega arith, tt);
      rising = (lit< tt, tt);
    }) (lit< tt) (lit< tt) refl (omega arith))

-- a list's fragment has the number 1 where it should be the first
abbrev bad_number : List ℕ
bad_number = written small 1036 (1 ∷ [])

number_headed : Headed bad_number small_section.header
unfolding computed
number_headed = record { fields = refl; whole = lit≤ tt; stored = lit≤ tt; least = lit≤ tt; most = lit≤ tt; type = refl; format = refl; readable = lit≤ tt; counts = lit≤ tt }

number_logs : Logs bad_number small_section.header small_section.log
unfolding computed
number_logs = record {
  part = record {
    chain = (refl, tt);
    inside = ((lit≤ tt, lit≤ tt), tt);
    apart = (((λ i a b. omega arith), tt), (tt, tt));
    few = lit≤ tt;
    places = lit≤ tt;
    row = refl;
    lists = (((omega arith), tt), tt);
    pending_lists = tt;
    rising = (lit< tt, tt);
  };
  finished = refl;
  ends = lit≤ tt;
}

number_breaks : Breaks bad_number (fault 8 3 1024 0)
unfolding computed
number_breaks = in_first small_section.header small_section.log [] (0xAC, span 1024 1024) [] number_headed number_logs
    (record { lists = tt; reached = tt; order = refl; fields = refl; ids_differ = tt; apart = (((λ i a b. omega arith), tt), (tt, tt)); few_lists = lit≤ tt; few = lit≤ tt })
    (unmarked (lit< tt) (record { inside = (lit≤ tt, lit≤ tt); room = lit< tt; apart = ((λ i a b. omega arith), ((λ i a b. omega arith), tt)) })
    (λ m. (let n = m.0.sequence_number in omega arith)))

-- a store of 1,023 bytes
short_breaks : Breaks (digits 1023 0) (fault 1 1 0 0)
unfolding computed
short_breaks = in_header [] _ tt refl
