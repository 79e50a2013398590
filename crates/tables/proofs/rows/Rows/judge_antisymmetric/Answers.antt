use Rattle.std.proofs.Common.{arith}
use Rattle.refusal.proofs.Judging.{left_break}
use Rattle.tables.proofs.rows.Rows.judge_antisymmetric.Goals as goal

pub returns-in_err-judge_antisymmetric_after : goal.returns-in_err-judge_antisymmetric_after
returns-in_err-judge_antisymmetric_after c =
    left_break c.loop-a.invariant c.from_residual.result (omega (arith, c.count-a-end.ensures)) c.in_err-judge_antisymmetric_after.ensures c.from_residual.ensures.1
