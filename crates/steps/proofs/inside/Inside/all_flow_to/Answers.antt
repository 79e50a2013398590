use Rattle.std.proofs.Common.{Some}
use Rattle.refusal.proofs.Judging.{check_at, left_more, left_err}
use Rattle.machine.specs.declared.fault.StepFault.TheVariants.{NotAllowed}
use Rattle.steps.proofs.inside.Inside.all_flow_to.Goals as goal

pub loop-place-preserved : goal.loop-place-preserved
loop-place-preserved g c =
    let k = c.loop-place.place in
    left_more c.loop-place.invariant c.loop-place-test.true
    (check_at (NotAllowed (Some c.args.self.now.side) c.args.target k) (rw c.requires at c.if-not-operands_flow.ensures))

pub returns-then-not-operands_flow : goal.returns-then-not-operands_flow
returns-then-not-operands_flow g c =
    let k = c.loop-place.place in
    left_err c.loop-place.invariant c.loop-place-test.true
    (check_at (NotAllowed (Some c.args.self.now.side) c.args.target k) (rw c.requires at c.if-not-operands_flow.ensures))
