use Rattle.std.proofs.Common.{refl, map, lit<, lit≤, [], ◌∷◌}
use Rattle.xfr_course.specs.Granting.{sent_text}
use Rattle.xfr_course.specs.CourseRows.{small_ends, edge_ends, caught_up_ends, single_ends, compatible_ends}
use Rattle.xfr_course.proofs.transfer_examples.granting_row.Goals as goal

pub returns-clause-met : goal.returns-clause-met
returns-clause-met c = record {
  offered = record { ends = refl; tells = refl; newer = refl; distinct = refl };
  primary_accepts = lit≤ tt;
  secondary_accepts = lit≤ tt;
  primary_clock = lit≤ tt;
  secondary_clock = lit≤ tt;
  one_soa = refl;
  pages = sent_text small_ends ∷ [];
  cut = record { joined = refl; filled = refl };
  few = lit≤ tt;
  together = refl;
  asks = refl;
  caught_up = λ e. cc;
  starts = refl;
  same_apex = refl;
  same_class = refl;
  request_fits = lit≤ tt;
  numbers_left = lit< tt;
}

pub returns-clause-edge : goal.returns-clause-edge
returns-clause-edge c = record {
  offered = record { ends = refl; tells = refl; newer = refl; distinct = refl };
  primary_accepts = lit≤ tt;
  secondary_accepts = lit≤ tt;
  primary_clock = lit≤ tt;
  secondary_clock = lit≤ tt;
  one_soa = refl;
  pages = sent_text edge_ends ∷ [];
  cut = record { joined = refl; filled = refl };
  few = lit≤ tt;
  together = refl;
  asks = refl;
  caught_up = λ e. cc;
  starts = refl;
  same_apex = refl;
  same_class = refl;
  request_fits = lit≤ tt;
  numbers_left = lit< tt;
}

pub returns-clause-caught_up : goal.returns-clause-caught_up
returns-clause-caught_up c = record {
  offered = record { ends = refl; tells = refl; newer = refl; distinct = refl };
  primary_accepts = lit≤ tt;
  secondary_accepts = lit≤ tt;
  primary_clock = lit≤ tt;
  secondary_clock = lit≤ tt;
  one_soa = refl;
  pages = sent_text caught_up_ends ∷ [];
  cut = record { joined = refl; filled = refl };
  few = lit≤ tt;
  together = refl;
  asks = refl;
  caught_up = λ e. refl;
  starts = refl;
  same_apex = refl;
  same_class = refl;
  request_fits = lit≤ tt;
  numbers_left = lit< tt;
}

pub returns-clause-single : goal.returns-clause-single
returns-clause-single c = record {
  offered = record { ends = refl; tells = refl; newer = refl; distinct = refl };
  primary_accepts = lit≤ tt;
  secondary_accepts = lit≤ tt;
  primary_clock = lit≤ tt;
  secondary_clock = lit≤ tt;
  one_soa = refl;
  pages = map (λ r. r ∷ []) (sent_text single_ends);
  cut = record { joined = refl; filled = refl };
  few = lit≤ tt;
  together = tt;
  asks = tt;
  caught_up = tt;
  starts = tt;
  same_apex = refl;
  same_class = refl;
  request_fits = lit≤ tt;
  numbers_left = lit< tt;
}

pub returns-clause-compatible : goal.returns-clause-compatible
returns-clause-compatible c = record {
  offered = record { ends = refl; tells = refl; newer = refl; distinct = refl };
  primary_accepts = lit≤ tt;
  secondary_accepts = lit≤ tt;
  primary_clock = lit≤ tt;
  secondary_clock = lit≤ tt;
  one_soa = refl;
  pages = sent_text compatible_ends ∷ [];
  cut = record { joined = refl; filled = refl };
  few = lit≤ tt;
  together = refl;
  asks = refl;
  caught_up = λ e. cc;
  starts = refl;
  same_apex = refl;
  same_class = refl;
  request_fits = lit≤ tt;
  numbers_left = lit< tt;
}
