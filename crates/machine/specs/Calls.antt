-- The calls of an open session: what each plans to do, by what everyone knows and no value; its answer, and the values after it.
use Rattle.std.specs.Prelude.{ℕ, suc, List, [], ◌∷◌, map, Ok, Err, Result, ◌==◌}
use Rattle.std.specs.List.{flat_map}
use Rattle.bits.specs.Bits.{all_bits}
use Rattle.format.specs.Formats.{Reading, read}
use Rattle.refusal.specs.Judging.{Judgement, accepted, ◌⨟◌, check, under}
use Rattle.refusal.specs.declared.Side.{Side}
use Rattle.agreement.specs.Agreements.{Joint}
use Rattle.script.specs.Lines.{meant}
use Rattle.script.specs.Scripts.{script}
use Rattle.script.specs.declared.fault.ScriptFault.{ScriptFault}
use Rattle.script.specs.declared.line.Line.{Line}
use Rattle.script.specs.declared.line.Line.TheVariants.{Compute, Fetch, Store, Outward, Inward}
use Rattle.machine.specs.Faults.{stage_number}
use Rattle.machine.specs.Places.{Place, place, held, Write, all_written}
use Rattle.machine.specs.Steps.{Step, compute, fetch, store, outward, inward, step_judged, show_judged, step_writes}
use Rattle.machine.specs.Types.{script_type}
use Rattle.machine.specs.declared.fault.CallFault.{CallFault}
use Rattle.machine.specs.declared.fault.CallFault.TheVariants.{WrongStage, Step as in_step, Script as in_script}
use Rattle.machine.specs.declared.fault.RunFault.{RunFault}
use Rattle.machine.specs.declared.fault.RunFault.TheVariants.{Unreadable, Line as in_line}
use Rattle.machine.specs.declared.fault.StepFault.{StepFault}
use Rattle.machine.specs.declared.script_type.ScriptType.{ScriptType}
use Rattle.machine.specs.declared.stage.Stage.{Stage}
use Rattle.machine.specs.declared.stage.Stage.TheVariants.{Draft, Certified, Open}
use Rattle.machine.specs.declared.values.Values.{Values}

-- the step that a line of a script stands for
abbrev pub line_step : Line → Step
line_step (Compute s b) = compute s (meant b)
line_step (Fetch s t q) = fetch s t q
line_step (Store s t q) = store s t q
line_step (Outward t q) = outward t q
line_step (Inward t q) = inward t q

abbrev pub at_line : ℕ → StepFault → RunFault
at_line k e = in_line (record { line = k; fault = e })

-- the lines in order, numbered from k on
abbrev pub lines_judged : Joint → ℕ → List Line → Judgement RunFault
lines_judged J k [] = accepted
lines_judged J k (l ∷ ls) = under (at_line k) (step_judged J (line_step l)) ⨟ lines_judged J (suc k) ls

-- the value, if the judgement accepts
abbrev pub if_accepted : {F A : Type 0} → Judgement F → A → Result A F
if_accepted (Ok u) a = Ok a
if_accepted (Err e) a = Err e

abbrev pub typed_lines : Joint → Reading ScriptFault (List Line) → Result ScriptType RunFault
typed_lines J (Ok x) = if_accepted (lines_judged J 1 x.0) (script_type J (map line_step x.0))
typed_lines J (Err e) = Err (Unreadable e)

-- the judgement of the script that begins at a bit of some bytes: all lines are read, then judged in order
unfoldable pub script_judged : Joint → List ℕ → ℕ → Result ScriptType RunFault
script_judged J bytes at = typed_lines J (read script (all_bits bytes) at)

abbrev pub line_writes : Reading ScriptFault (List Line) → List Write
line_writes (Ok x) = flat_map (λ l. step_writes (line_step l)) x.0
line_writes (Err e) = []

unfoldable pub script_writes : List ℕ → ℕ → List Write
script_writes bytes at = line_writes (read script (all_bits bytes) at)

-- A call of an open session: a step, the run of a script in bytes at a bit, or a show in a house at a label of an item.
pub data Call : Type 0 where
  step : Step → Call
  run : List ℕ → ℕ → Call
  show : Side → ℕ → ℕ → Call

-- what an accepted call answers
pub data Reply : Type 0 where
  done : Reply
  typed : ScriptType → Reply
  shown : ℕ → Reply

-- what a call is going to answer, before any value is seen
pub data Promise : Type 0 where
  fixed : Reply → Promise
  value_at : Place → Promise

-- an accepted call: its writes, and what it is going to answer
pub record Plan : Type 0 where
  pub writes : List Write
  pub promise : Promise

abbrev pub run_plan : Result ScriptType RunFault → List Write → Result Plan CallFault
run_plan (Ok T) ws = Ok (record { writes = ws; promise = fixed (typed T) })
run_plan (Err e) ws = Err (in_script e)

abbrev pub plan : Joint → Call → Result Plan CallFault
plan J (step x) = if_accepted (under in_step (step_judged J x)) (record { writes = step_writes x; promise = fixed done })
plan J (run bytes at) = run_plan (script_judged J bytes at) (script_writes bytes at)
plan J (show s l i) =
    if_accepted (under in_step (show_judged (J.order s) s (J.items s) l i)) (record { writes = []; promise = value_at (place s i) })

abbrev pub Answer : Type 0
Answer = Result Reply CallFault

abbrev pub reply : Values → Promise → Reply
reply v (fixed r) = r
reply v (value_at p) = shown (held v p)

abbrev pub answered : Values → Result Plan CallFault → Answer
answered v (Ok p) = Ok (reply v p.promise)
answered v (Err e) = Err e

abbrev pub done_by : Values → Result Plan CallFault → Values
done_by v (Ok p) = all_written v p.writes
done_by v (Err e) = v

-- the answer of a call, and the values after it: a refused call changes none
abbrev pub answer : Joint → Values → Call → Answer
answer J v c = answered v (plan J c)

abbrev pub after : Joint → Values → Call → Values
after J v c = done_by v (plan J c)

-- a list of calls: each answer, and the values at the end
abbrev pub answers : Joint → Values → List Call → List Answer
answers J v [] = []
answers J v (c ∷ cs) = answer J v c ∷ answers J (after J v c) cs

abbrev pub after_all : Joint → Values → List Call → Values
after_all J v [] = v
after_all J v (c ∷ cs) = after_all J (after J v c) cs

-- the record is at the stage that a call needs
abbrev pub stage_judged : Stage → Stage → Judgement CallFault
stage_judged stage needed = check (stage_number stage == stage_number needed) (WrongStage stage needed)

-- judging a script needs a certified or open record, and names the first
abbrev pub may_judge : Stage → Judgement CallFault
may_judge Draft = Err (WrongStage Draft Certified)
may_judge Certified = accepted
may_judge Open = accepted

-- what holds if a judgement accepts, and else
abbrev pub if_so : {A : Type 0} → Judgement CallFault → A → A → A
if_so (Ok u) a b = a
if_so (Err e) a b = b

abbrev pub gated : {A : Type 0} → Judgement CallFault → Result A CallFault → Result A CallFault
gated (Ok u) r = r
gated (Err e) r = Err e

-- the same at any stage: a session that is not open refuses, and changes nothing
abbrev pub answer_at : Stage → Joint → Values → Call → Answer
answer_at stage J v c = gated (stage_judged stage Open) (answer J v c)

abbrev pub after_at : Stage → Joint → Values → Call → Values
after_at stage J v c = if_so (stage_judged stage Open) (after J v c) v

-- the three kinds of answers as the calls return them
abbrev pub as_done : Result (Unit {0}) CallFault → Answer
as_done (Ok u) = Ok done
as_done (Err e) = Err e

abbrev pub as_shown : Result ℕ CallFault → Answer
as_shown (Ok x) = Ok (shown x)
as_shown (Err e) = Err e

abbrev pub as_typed : Result ScriptType CallFault → Answer
as_typed (Ok T) = Ok (typed T)
as_typed (Err e) = Err e
