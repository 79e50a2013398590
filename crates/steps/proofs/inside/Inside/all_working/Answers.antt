use Rattle.std.proofs.Common.{rules, arith}
use Rattle.refusal.proofs.Judging.{left_more, left_break}
use Rattle.steps.proofs.inside.Inside.all_working.Goals as goal

pub loop-place-preserved : goal.loop-place-preserved
loop-place-preserved g c = search (rules, arith, left_more)

pub returns-in_err-working : goal.returns-in_err-working
returns-in_err-working g c =
    left_break c.loop-place.invariant c.from_residual.result c.loop-place-test.true c.in_err-working.ensures c.from_residual.ensures.1
