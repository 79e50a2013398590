use Rattle.std.proofs.Common.{true, false, Err, ap, ◌∙◌, arith}
use Rattle.refusal.proofs.Judging.{left_more, left_err}
use Rattle.tables.specs.Suprema.{bound_judged}
use Rattle.tables.proofs.bounds.judge_bounds_after.Goals as goal

pub returns-then-not-has_bound : goal.returns-then-not-has_bound
returns-then-not-has_bound g c =
    ap Err c.lacking_bound.ensures
    ∙ left_err c.loop-b.invariant (omega (arith, c.count-b-end.ensures))
    (bound_judged c.args.which (g.O.Order.meaning c.args.order.now) c.args.a c.loop-b.b false c.if-not-has_bound.ensures)

pub loop-b-preserved : goal.loop-b-preserved
loop-b-preserved g c =
    left_more c.loop-b.invariant (omega (arith, c.count-b-end.ensures))
    (bound_judged c.args.which (g.O.Order.meaning c.args.order.now) c.args.a c.loop-b.b true c.if-not-has_bound.ensures)
