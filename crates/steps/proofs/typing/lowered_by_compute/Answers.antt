use Rattle.agreement.specs.Agreements.{joined}
use Rattle.steps.proofs.Lowering.{target_lowers}
use Rattle.steps.proofs.typing.lowered_by_compute.Goals as goal

pub loop-assignment-preserved : goal.loop-assignment-preserved
loop-assignment-preserved g c =
    target_lowers (joined g.N.Order.meaning g.F.Order.meaning c.args.houses.now) c.args.side c.args.assignments.now c.loop-assignment.assignment-index
    c.args.lowest c.loop-assignment.lowered c.lowered_by_item-lowered.result c.loop-assignment-test.true c.loop-assignment.invariant c.lowered_by_item-lowered.ensures
