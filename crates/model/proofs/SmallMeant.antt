-- The relation holds of the small file.
use Rattle.std.proofs.Common.{[], get_or, refl, arith, lit<, lit≤}
use Rattle.model.specs.Means.{Headed, Logs, within, Stands, by_header, Means}
use Rattle.model.specs.Examples.{computed, small, small_section}

small_headed : Headed small small_section.header
unfolding computed
small_headed = record {
  fields = refl;
  whole = lit≤ tt;
  stored = lit≤ tt;
  least = lit≤ tt;
  most = lit≤ tt;
  type = refl;
  format = refl;
  readable = lit≤ tt;
  counts = lit≤ tt;
}

small_logs : Logs small small_section.header small_section.log
unfolding computed
small_logs = record {
  part = record {
    chain = (refl, tt);
    inside = ((lit≤ tt, lit≤ tt), tt);
    apart = (((λ i a b. omega arith), tt), (tt, tt));
    few = lit≤ tt;
    places = lit≤ tt;
    row = refl;
    lists = (((omega arith), tt), tt);
    pending_lists = tt;
    rising = (lit< tt, tt);
  };
  finished = refl;
  ends = lit≤ tt;
}

small_stands : Stands small small_section.header small_section.log (get_or small_section.lists 0 (record { id = 0; fragments = []; nodes = []; free = 0 }))
unfolding computed
small_stands = record {
  part = record {
    inside = ((lit≤ tt, lit≤ tt), tt);
    marks = (record { first = refl; last = refl; list = refl; sequence_number = refl }, tt);
    real = lit≤ tt;
    spread = within (record { fields = refl; named = lit≤ tt; no_terminator = omega arith; top = lit≤ tt; base = lit≤ tt; parts = lit≤ tt; ends = lit≤ tt }, refl);
  };
  counted = refl;
  ends = lit< tt;
}

pub small_means : Means small small_section
unfolding computed
small_means = record {
  header = small_headed;
  log = small_logs;
  lists = (small_stands, tt);
  reached = (by_header (0, lit< tt, λ d. refl), tt);
  named = ((0, lit< tt, λ d. refl), tt);
  once = refl;
  ids_differ = (tt, tt);
  fragments_apart = (((λ i a b. omega arith), ((λ i a b. omega arith), tt)), (((λ i a b. omega arith), tt), (tt, tt)));
  data_inside = tt;
  data_apart = tt;
  few_lists = lit≤ tt;
  few_fragments = lit≤ tt;
}
