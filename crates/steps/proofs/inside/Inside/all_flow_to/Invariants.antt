use Rattle.std.proofs.Common.{length}
use Rattle.refusal.proofs.Judging.{Left}
use Rattle.machine.specs.Steps.{pair_judged, target_judged}
use Rattle.steps.proofs.inside.Inside.all_flow_to.Given as goal

abbrev pub invariant-loop-place : goal.invariant-loop-place
invariant-loop-place g l =
    let P = g.O.Order.meaning l.self.order in
    Left (pair_judged P l.self.side l.self.items.now l.assignments l.target) (target_judged P l.self.side l.self.items.now l.assignments l.target) (length l.assignments) l.place
