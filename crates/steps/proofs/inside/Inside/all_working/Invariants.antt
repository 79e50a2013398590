use Rattle.std.proofs.Common.{length}
use Rattle.refusal.proofs.Judging.{Left}
use Rattle.machine.specs.Steps.{assignment_roles, roles_judged}
use Rattle.steps.proofs.inside.Inside.all_working.Given as goal

abbrev pub invariant-loop-place : goal.invariant-loop-place
invariant-loop-place g l =
    Left (assignment_roles l.self.side l.self.items.now l.assignments) (roles_judged l.self.side l.self.items.now l.assignments) (length l.assignments) l._place
