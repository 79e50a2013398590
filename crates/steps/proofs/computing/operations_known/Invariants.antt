use Rattle.std.proofs.Common.{length}
use Rattle.refusal.specs.Judging.{each_from}
use Rattle.refusal.proofs.Judging.{Left}
use Rattle.machine.specs.Steps.{operation_judged}
use Rattle.steps.proofs.computing.operations_known.Given as goal

abbrev pub invariant-loop-place : goal.invariant-loop-place
invariant-loop-place l =
    let known = operation_judged l.side l.assignments in
    Left known (each_from known 0 (length l.assignments)) (length l.assignments) l.place
