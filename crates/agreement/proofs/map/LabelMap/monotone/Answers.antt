use Rattle.std.proofs.Common.{arith}
use Rattle.refusal.proofs.Judging.{check_at, left_more, left_err, left_all}
use Rattle.agreement.specs.declared.fault.Broken.TheVariants.{NotMonotone}
use Rattle.agreement.proofs.map.LabelMap.monotone.Goals as goal

pub loop-b-preserved : goal.loop-b-preserved
loop-b-preserved g c =
    (c.loop-b.invariant.0, left_more c.loop-b.invariant.1 (omega (arith, c.count-count.ensures)) (check_at (NotMonotone c.pairs.a c.loop-b.b) c.if-not-keeps_pair.ensures))

pub pairs-preserved : goal.pairs-preserved
pairs-preserved g c =
    (c.loop-b.invariant.0, left_more c.pairs.invariant.1 (omega (arith, c.count-count.ensures)) (left_all c.loop-b.invariant.1 (omega (arith, c.count-count.ensures))))

pub returns-then-not-keeps_pair : goal.returns-then-not-keeps_pair
returns-then-not-keeps_pair g c =
    left_err c.pairs.invariant.1 (omega (arith, c.count-count.ensures))
    (left_err c.loop-b.invariant.1 (omega (arith, c.count-count.ensures)) (check_at (NotMonotone c.pairs.a c.loop-b.b) c.if-not-keeps_pair.ensures))
