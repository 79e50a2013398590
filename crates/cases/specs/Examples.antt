-- Worked examples: what the definitions that the contracts cite come to, case by case.
use Rattle.std.specs.Prelude.{◌≡◌, ℕ, Bool, true, false, List, [], ◌∷◌, Some, None, Err, Option}
use Rattle.std.proofs.Common.{lit≤}
use Rattle.refusal.specs.Judging.{Judgement, accepted, under}
use Rattle.refusal.specs.declared.Refusal.{Refusal}
use Rattle.refusal.specs.declared.Side.{Side}
use Rattle.refusal.specs.declared.Side.TheVariants.{Near, Far}
use Rattle.order.specs.Orders.{PartialOrder, dual}
use Rattle.order.specs.Bounds.{toward}
use Rattle.order.specs.Search.{supremum_of}
use Rattle.order.specs.declared.bound.Bound.{Bound}
use Rattle.order.specs.declared.bound.Bound.TheVariants.{Join, Meet}
use Rattle.tables.specs.Faults.{refusal_of}
use Rattle.tables.specs.Graded.{graded_flow}
use Rattle.tables.specs.GradedOrder.{graded}
use Rattle.tables.specs.Listed.{rows_judged}
use Rattle.agreement.specs.Agreements.{Joint, joint}
use Rattle.agreement.specs.Certified.{certified}
use Rattle.agreement.specs.Faults.{fault_refusal}
use Rattle.agreement.specs.Maps.{is_settled}
use Rattle.agreement.specs.Views.{view_in}
use Rattle.agreement.specs.declared.item.Item.{Item}
use Rattle.agreement.specs.declared.views.View.{View}
use Rattle.machine.specs.Faults.{step_refusal}
use Rattle.machine.specs.Secrets.{Sees}
use Rattle.machine.specs.Steps.{Step, outward, step_judged}

-- chains of two and of three labels, which flow upward by number, and two levels with two compartments
abbrev pub two_chain : PartialOrder
two_chain = graded 2 0 (lit≤ tt, lit≤ tt, lit≤ tt)

abbrev pub three_chain : PartialOrder
three_chain = graded 3 0 (lit≤ tt, lit≤ tt, lit≤ tt)

abbrev pub two_by_two : PartialOrder
two_by_two = graded 2 2 (lit≤ tt, lit≤ tt, lit≤ tt)

-- refused with number, side, p and q
abbrev pub refused : ℕ → Option Side → ℕ → ℕ → Judgement Refusal
refused n s p q = Err (record { number = n; side = s; p = p; q = q })

abbrev pub certifying : Joint → Judgement Refusal
certifying J = under fault_refusal (certified J)

abbrev pub stepping : Joint → Step → Judgement Refusal
stepping J x = under step_refusal (step_judged J x)

abbrev pub listing : List ℕ → Judgement Refusal
listing rows = under refusal_of (rows_judged rows)

abbrev pub bound : Bound → PartialOrder → List ℕ → Option ℕ
bound which P labels = supremum_of (toward which P) labels

-- maps between two chains of the same length, with no items
abbrev pub even : PartialOrder → List ℕ → List ℕ → Joint
even P out back = joint P P out back [] []

-- a near chain of three and a far chain of two: the upper two near labels are one far label
abbrev pub out_map : List ℕ
out_map = 0 ∷ 1 ∷ 1 ∷ []

abbrev pub back_map : List ℕ
back_map = 0 ∷ 2 ∷ []

abbrev pub uneven : List Item → List Item → Joint
uneven near far = joint three_chain two_chain out_map back_map near far

abbrev pub settled_near : ℕ → Bool
settled_near = is_settled three_chain two_chain out_map back_map

abbrev pub working : ℕ → Item
working l = record { role = 0; label = l }

abbrev pub import_at : ℕ → Item
import_at l = record { role = 1; label = l }

abbrev pub export_at : ℕ → Item
export_at l = record { role = 2; label = l }

-- near 1 and 2 are exports with labels 2 and 0, far 0 and 1 are imports with labels 0 and 1
abbrev pub trading : Joint
trading = uneven (working 1 ∷ export_at 2 ∷ export_at 0 ∷ []) (import_at 0 ∷ import_at 1 ∷ [])

abbrev pub everything : View
everything = record { near = 2; far = 1 }

-- 0 and 1 each below 2 and 3
abbrev pub crossed_rows : List ℕ
crossed_rows = 0b1101 ∷ 0b1110 ∷ 0b0100 ∷ 0b1000 ∷ []

pub record WorkedExamples : Type 0 where
  pub all_to_the_bottom_falls : certifying (even two_chain (0 ∷ 0 ∷ []) (0 ∷ 0 ∷ [])) ≡ refused 9 (Some Near) 1 0
  pub crossing_is_not_monotone : certifying (even two_chain (1 ∷ 0 ∷ []) (0 ∷ 1 ∷ [])) ≡ refused 8 (Some Near) 0 1
  pub climbing_drifts : certifying (even three_chain (1 ∷ 2 ∷ 2 ∷ []) (0 ∷ 1 ∷ 2 ∷ [])) ≡ refused 10 (Some Near) 0 0
  pub three_and_two_connect : certifying (uneven [] []) ≡ accepted
  pub near_bottom_is_settled : settled_near 0 ≡ true
  pub near_middle_is_not_settled : settled_near 1 ≡ false
  pub near_top_is_settled : settled_near 2 ≡ true
  pub export_at_the_middle_is_unlawful : certifying (uneven (export_at 1 ∷ []) []) ≡ refused 11 (Some Near) 0 1
  pub trading_is_lawful : certifying trading ≡ accepted
  pub top_does_not_move_to_far_bottom : stepping trading (outward 0 1) ≡ refused 16 None 0 1
  pub bottom_moves_to_far_top : stepping trading (outward 1 2) ≡ accepted
  pub middle_has_a_view : view_in trading Near 1 ≡ Some everything
  pub middle_sees_all_near_labels : Sees trading everything Near 0 × Sees trading everything Near 1 × Sees trading everything Near 2
  pub middle_sees_all_far_labels : Sees trading everything Far 0 × Sees trading everything Far 1
  pub crossed_rows_lack_a_join : listing crossed_rows ≡ refused 5 None 0 1
  pub compartment_does_not_flow_to_another : graded_flow 2 2 1 6 ≡ false
  pub join_has_both_compartments : bound Join two_by_two (1 ∷ 6 ∷ []) ≡ Some 7
  pub meet_has_no_compartment : bound Meet two_by_two (1 ∷ 6 ∷ []) ≡ Some 0
  pub reversed_they_join_at_the_bottom : bound Join (dual two_by_two) (1 ∷ 6 ∷ []) ≡ Some 0
