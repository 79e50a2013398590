-- Calls of an open session answer, and leave the values, as the machine does. Assumes nothing.
use Rattle.std.proofs.Common.{◌≡◌, ℕ, List, [], Ok, Err, Result, sym, refl, ap, ◌∙◌}
use Rattle.refusal.specs.Judging.{Judgement, accepted, under}
use Rattle.refusal.specs.declared.Side.{Side}
use Rattle.agreement.specs.Agreements.{Joint}
use Rattle.order.specs.Orders.{PartialOrder}
use Rattle.machine.specs.Calls.{Call, after, answer, answered, as_done, as_shown, as_typed, done, fixed, gated, if_accepted, if_so, may_judge, run, run_plan, script_judged, script_writes, show, stage_judged, step, value_at}
use Rattle.machine.specs.Places.{held, place}
use Rattle.machine.specs.Steps.{Step, show_judged, step_judged, step_writes}
use Rattle.machine.specs.declared.fault.CallFault.{CallFault}
use Rattle.machine.specs.declared.fault.CallFault.TheVariants.{Step as in_step, Script as in_script}
use Rattle.machine.specs.declared.fault.RunFault.{RunFault}
use Rattle.machine.specs.declared.fault.StepFault.{StepFault}
use Rattle.machine.specs.declared.script_type.ScriptType.{ScriptType}
use Rattle.machine.specs.declared.stage.Stage.TheVariants.{Open}
use Rattle.machine.specs.declared.values.Values.{Values}
use Rattle.session.specs.Records.{after_call, answer_to, judging, known, with_values}
use Rattle.session.specs.declared.record.Session.{Session}

-- a result with its fault carried inside another
abbrev pub carried : {E A : Type 0} → (E → CallFault) → Result A E → Result A CallFault
carried wrap (Ok a) = Ok a
carried wrap (Err e) = Err (wrap e)

-- the judgement of a script is what a run answers
pub script_answer : (K J : Joint) → K ≡ J → (v : Values) (bytes : List ℕ) (at : ℕ) (r : Result ScriptType RunFault) → r ≡ script_judged K bytes at → as_typed (carried in_script r) ≡ answer J v (run bytes at)
script_answer K J same v bytes at r e = go r ∙ ap (λ q. answered v (run_plan q (script_writes bytes at))) (e ∙ ap (λ (k : Joint). script_judged k bytes at) same)
  where
    go : (r : Result ScriptType RunFault) → as_typed (carried in_script r) ≡ answered v (run_plan r (script_writes bytes at))
    go (Ok T) = refl
    go (Err y) = refl

-- What the calls of an open session owe, from what the steps answer and leave over the joint that was lent.
module _ {N F : Type 0} (near : N → PartialOrder) (far : F → PartialOrder) (s : Session N F) (is_open : stage_judged s.stage Open ≡ accepted) (K : Joint) (same : K ≡ known near far s) where
  opened_answer : (c : Call) → answer (known near far s) s.table.values c ≡ answer_to near far s c
  opened_answer c = ap (λ (j : Judgement CallFault). gated j (answer (known near far s) s.table.values c)) (sym is_open)

  pub record_left : (c : Call) (w : Values) → w ≡ after K s.table.values c → with_values s w ≡ after_call near far s c
  record_left c w e =
      ap (with_values s)
      (e ∙ ap (λ (k : Joint). after k s.table.values c) same ∙ ap (λ (j : Judgement CallFault). if_so j (after (known near far s) s.table.values c) s.table.values) (sym is_open))

  pub step_answer : (x : Step) (r : Judgement StepFault) → r ≡ step_judged K x → as_done (carried in_step r) ≡ answer_to near far s (step x)
  step_answer x r e = go r ∙ ap (λ q. answered s.table.values (if_accepted (under in_step q) (record { writes = step_writes x; promise = fixed done }))) (e ∙ ap (λ (k : Joint). step_judged k x) same) ∙ opened_answer (step x)
    where
      go : (r : Judgement StepFault) → as_done (carried in_step r) ≡ answered s.table.values (if_accepted (under in_step r) (record { writes = step_writes x; promise = fixed done }))
      go (Ok u) = refl
      go (Err y) = refl

  pub show_answer : (h : Side) (l i : ℕ) (r : Result ℕ StepFault) → r ≡ if_accepted (show_judged (K.order h) h (K.items h) l i) (held s.table.values (place h i)) → as_shown (carried in_step r) ≡ answer_to near far s (show h l i)
  show_answer h l i r e =
      ap (λ q. as_shown (carried in_step q)) (e ∙ ap (λ (k : Joint). if_accepted (show_judged (k.order h) h (k.items h) l i) (held s.table.values (place h i))) same)
      ∙ go (show_judged ((known near far s).order h) h ((known near far s).items h) l i) ∙ opened_answer (show h l i)
    where
      go : (j : Judgement StepFault) → as_shown (carried in_step (if_accepted j (held s.table.values (place h i)))) ≡ answered s.table.values (if_accepted (under in_step j) (record { writes = []; promise = value_at (place h i) }))
      go (Ok u) = refl
      go (Err y) = refl

  pub run_answer : (bytes : List ℕ) (at : ℕ) (r : Result ScriptType RunFault) → r ≡ script_judged K bytes at → as_typed (carried in_script r) ≡ answer_to near far s (run bytes at)
  run_answer bytes at r e = script_answer K (known near far s) same s.table.values bytes at r e ∙ opened_answer (run bytes at)

-- the judgement of a script by a certified or open session
pub judge_answer : {N F : Type 0} (near : N → PartialOrder) (far : F → PartialOrder) (s : Session N F) → may_judge s.stage ≡ accepted → (K : Joint) → K ≡ known near far s → (bytes : List ℕ) (at : ℕ) (r : Result ScriptType RunFault) → r ≡ script_judged K bytes at → as_typed (carried in_script r) ≡ judging near far s (run bytes at)
judge_answer near far s may K same bytes at r e =
    script_answer K (known near far s) same s.table.values bytes at r e ∙ ap (λ (j : Judgement CallFault). gated j (answer (known near far s) s.table.values (run bytes at))) (sym may)
