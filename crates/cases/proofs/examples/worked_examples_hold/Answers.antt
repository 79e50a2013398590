use Rattle.std.proofs.Common.{refl}
use Rattle.order.specs.Search.{supremum_of}
use Rattle.tables.specs.Bounded.{bounded}
use Rattle.tables.specs.Rows.{listed_flow}
use Rattle.cases.proofs.examples.worked_examples_hold.Goals as goal

pub returns : goal.returns
unfolding supremum_of bounded listed_flow
returns c = record {
  all_to_the_bottom_falls = refl;
  crossing_is_not_monotone = refl;
  climbing_drifts = refl;
  three_and_two_connect = refl;
  near_bottom_is_settled = refl;
  near_middle_is_not_settled = refl;
  near_top_is_settled = refl;
  export_at_the_middle_is_unlawful = refl;
  trading_is_lawful = refl;
  top_does_not_move_to_far_bottom = refl;
  bottom_moves_to_far_top = refl;
  middle_has_a_view = refl;
  middle_sees_all_near_labels = (refl, refl, refl);
  middle_sees_all_far_labels = (refl, refl);
  crossed_rows_lack_a_join = refl;
  compartment_does_not_flow_to_another = refl;
  join_has_both_compartments = refl;
  meet_has_no_compartment = refl;
  reversed_they_join_at_the_bottom = refl;
}
