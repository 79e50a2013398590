use Rattle.std.proofs.Common.{arith}
use Rattle.refusal.proofs.Judging.{check_at, left_more, left_err}
use Rattle.agreement.specs.declared.fault.Broken.TheVariants.{Falls}
use Rattle.agreement.proofs.trip.RoundTrip.rising.Goals as goal

pub loop-label-preserved : goal.loop-label-preserved
loop-label-preserved g c =
    left_more c.loop-label.invariant (omega (arith, c.count-label-end.ensures)) (check_at (Falls c.loop-label.label) c.if-not-rises_at.ensures)

pub returns-then-not-rises_at : goal.returns-then-not-rises_at
returns-then-not-rises_at g c =
    left_err c.loop-label.invariant (omega (arith, c.count-label-end.ensures)) (check_at (Falls c.loop-label.label) c.if-not-rises_at.ensures)
