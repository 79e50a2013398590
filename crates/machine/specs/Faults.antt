-- What each fault of a call is refused with: its line, and number, side, p and q.
use Rattle.std.specs.Prelude.{ℕ, Some, None, Option}
use Rattle.refusal.specs.declared.Refusal.{Refusal}
use Rattle.refusal.specs.declared.Side.{Side}
use Rattle.refusal.specs.declared.refused.Refused.{Refused}
use Rattle.agreement.specs.Faults.{fault_refusal}
use Rattle.agreement.specs.Roles.{role_number}
use Rattle.script.specs.Faults.{script_refused}
use Rattle.machine.specs.declared.fault.CallFault.{CallFault}
use Rattle.machine.specs.declared.fault.CallFault.TheVariants.{WrongStage, Agreement, Values, Step, Script}
use Rattle.machine.specs.declared.fault.LineFault.{LineFault}
use Rattle.machine.specs.declared.fault.RunFault.{RunFault}
use Rattle.machine.specs.declared.fault.RunFault.TheVariants.{Unreadable, Line}
use Rattle.machine.specs.declared.fault.StepFault.{StepFault}
use Rattle.machine.specs.declared.fault.StepFault.TheVariants.{Unsuitable, TooManyAssignments, UnknownOperation, NotAllowed, UnknownLabel}
use Rattle.machine.specs.declared.stage.Stage.{Stage}
use Rattle.machine.specs.declared.stage.Stage.TheVariants.{Draft, Certified, Open}

abbrev pub stage_number : Stage → ℕ
stage_number Draft = 0
stage_number Certified = 1
stage_number Open = 2

abbrev numbered : ℕ → Option Side → ℕ → ℕ → Refusal
numbered n s p q = record { number = n; side = s; p = p; q = q }

abbrev at_line : ℕ → Refusal → Refused
at_line n r = record { line = n; refusal = r }

abbrev pub step_refusal : StepFault → Refusal
step_refusal (Unsuitable s i role) = numbered 14 (Some s) i (role_number role)
step_refusal (TooManyAssignments s) = numbered 15 (Some s) 8 0
step_refusal (UnknownOperation s place operation) = numbered 15 (Some s) place operation
step_refusal (NotAllowed s target source) = numbered 16 s target source
step_refusal (UnknownLabel s label) = numbered 17 (Some s) label 0

abbrev pub line_refused : LineFault → Refused
line_refused e = at_line e.line (step_refusal e.fault)

abbrev pub run_refused : RunFault → Refused
run_refused (Unreadable e) = script_refused e
run_refused (Line e) = line_refused e

abbrev pub call_refused : CallFault → Refused
call_refused (WrongStage stage needed) = at_line 0 (numbered 12 None (stage_number stage) (stage_number needed))
call_refused (Agreement e) = at_line 0 (fault_refusal e)
call_refused (Values s needed) = at_line 0 (numbered 13 (Some s) needed 0)
call_refused (Step e) = at_line 0 (step_refusal e)
call_refused (Script e) = run_refused e
