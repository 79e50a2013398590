use Rattle.std.proofs.Common.{◌≡◌, map, drop}
use Rattle.machine.specs.Places.{all_written}
use Rattle.machine.specs.Steps.{assignment_write}
use Rattle.steps.proofs.computing.assign_all.Given as goal

abbrev pub invariant-loop-place : goal.invariant-loop-place
invariant-loop-place l =
    all_written l.values (map (assignment_write l.side) (drop l._place l.assignments))
    ≡ all_written l.initial.values (map (assignment_write l.side) l.assignments)
