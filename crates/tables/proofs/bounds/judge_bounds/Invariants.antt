use Rattle.refusal.proofs.Judging.{Left}
use Rattle.tables.specs.Bounded.{bounded_at, bounds_judged, each_after}
use Rattle.tables.proofs.bounds.judge_bounds.Given as goal

abbrev pub invariant-loop-a : goal.invariant-loop-a
invariant-loop-a g l =
    let P = g.O.Order.meaning l.order in
    Left (each_after (bounded_at l.which P.count P.flow) P.count) (bounds_judged l.which P.count P.flow) P.count l.a
