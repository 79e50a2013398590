use Rattle.std.proofs.Common.{length}
use Rattle.refusal.proofs.Judging.{Left}
use Rattle.machine.specs.Steps.{target_judged, flows_judged}
use Rattle.steps.proofs.inside.Inside.flows_allowed.Given as goal

abbrev pub invariant-loop-target : goal.invariant-loop-target
invariant-loop-target g l =
    let P = g.O.Order.meaning l.self.order in
    Left (target_judged P l.self.side l.self.items.now l.assignments) (flows_judged P l.self.side l.self.items.now l.assignments) (length l.assignments) l.target
