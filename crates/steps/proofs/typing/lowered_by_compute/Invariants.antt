use Rattle.std.proofs.Common.{take}
use Rattle.agreement.specs.Agreements.{joined}
use Rattle.machine.specs.Steps.{compute}
use Rattle.steps.specs.Folds.{LowersBoth}
use Rattle.steps.proofs.typing.lowered_by_compute.Given as goal

abbrev pub invariant-loop-assignment : goal.invariant-loop-assignment
invariant-loop-assignment g l =
    LowersBoth (joined g.N.Order.meaning g.F.Order.meaning l.houses) (compute l.side (take l.assignment-index l.assignments)) l.initial.lowered l.lowered
