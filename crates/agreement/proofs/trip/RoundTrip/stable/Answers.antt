use Rattle.std.proofs.Common.{arith}
use Rattle.refusal.proofs.Judging.{check_at, left_more, left_err}
use Rattle.agreement.specs.declared.fault.Broken.TheVariants.{Drifts}
use Rattle.agreement.proofs.trip.RoundTrip.stable.Goals as goal

pub loop-label-preserved : goal.loop-label-preserved
loop-label-preserved g c =
    left_more c.loop-label.invariant (omega (arith, c.count-label-end.ensures)) (check_at (Drifts c.loop-label.label) c.if-not-stays_at.ensures)

pub returns-then-not-stays_at : goal.returns-then-not-stays_at
returns-then-not-stays_at g c =
    left_err c.loop-label.invariant (omega (arith, c.count-label-end.ensures)) (check_at (Drifts c.loop-label.label) c.if-not-stays_at.ensures)
