use Rattle.std.proofs.Common.{◌≡◌, true, false, get_or, is_some, is_err, Some, None, Option, sym, refl, ap, ◌∙◌}
use Rattle.std.specs.Prelude.{ok_or}
use Rattle.refusal.proofs.Judging.{check_at, left_more}
use Rattle.script.specs.Lines.{blank}
use Rattle.script.specs.Operations.{operation_of}
use Rattle.machine.specs.declared.fault.StepFault.TheVariants.{UnknownOperation}
use Rattle.steps.proofs.computing.operations_known.Goals as goal

-- a number that names something
named : {A E : Type 0} (x : Option A) (e : E) → is_err (ok_or x e) ≡ false → true ≡ is_some x
named (Some x) e h = refl
named None e h = h

pub loop-place-preserved : goal.loop-place-preserved
loop-place-preserved c =
    let k = c.loop-place.place in
    let number = (get_or c.args.assignments.now k blank).operation in
    left_more c.loop-place.invariant c.loop-place-test.true
    (check_at (UnknownOperation c.args.side k number)
    (named (operation_of number) (record { 0 = number }) (ap is_err (sym c.try_from.ensures) ∙ sym c.if-is_err.ensures.value)))
