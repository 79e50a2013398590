use Rattle.refusal.proofs.Judging.{left_more, left_break}
use Rattle.steps.proofs.inside.Inside.flows_allowed.Goals as goal

pub loop-target-preserved : goal.loop-target-preserved
loop-target-preserved g c = left_more c.loop-target.invariant c.loop-target-test.true c.in_ok-all_flow_to.ensures

pub returns-in_err-all_flow_to : goal.returns-in_err-all_flow_to
returns-in_err-all_flow_to g c =
    left_break c.loop-target.invariant c.from_residual.result c.loop-target-test.true c.in_err-all_flow_to.ensures c.from_residual.ensures.1
