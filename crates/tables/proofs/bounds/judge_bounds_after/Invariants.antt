use Rattle.refusal.proofs.Judging.{Left}
use Rattle.tables.specs.Bounded.{bounded_at, each_after}
use Rattle.tables.proofs.bounds.judge_bounds_after.Given as goal

abbrev pub invariant-loop-b : goal.invariant-loop-b
invariant-loop-b g l =
    let P = g.O.Order.meaning l.order in
    let f = bounded_at l.which P.count P.flow in
    Left (f l.a) (each_after f P.count l.a) P.count l.b
