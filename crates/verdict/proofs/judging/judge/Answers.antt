use Rattle.std.proofs.Common.{Result, sym, subst}
use Rattle.refusal.proofs.Judging.{break_is}
use Rattle.house.specs.contracts.table.TableOrder.TheImpl.{ghosts as ordered}
use Rattle.machine.specs.declared.script_type.ScriptType.{ScriptType}
use Rattle.verdict.specs.Verdicts.{Judges}
use Rattle.verdict.specs.declared.fault.JudgeFault.{JudgeFault}
use Rattle.verdict.specs.declared.fault.JudgeFault.TheVariants.{Call}
use Rattle.verdict.proofs.Scripts.{script_accepted, script_refused}
use Rattle.verdict.proofs.judging.judge.Goals as goal

pub returns-in_err-judge : goal.returns-in_err-judge
returns-in_err-judge c =
    let e = c.in_err-judge.field-0.0 in
    let bytes = c.args.bytes.now in
    let stops = break_is c.from_residual-in_err-judge.result (Call e) c.from_residual-in_err-judge.ensures.1 in
    subst (λ (r : Result ScriptType JudgeFault). Judges bytes r) (sym stops)
    (script_refused ordered.meaning bytes c.in_ok-opened.opened c.in_ok-opened.ensures c.judge.result c.judge.ensures e c.in_err-judge.was)

pub returns : goal.returns
returns c =
    script_accepted ordered.meaning c.args.bytes.now c.in_ok-opened.opened c.in_ok-opened.ensures c.judge.result c.judge.ensures c.in_ok-judge.field-0 c.in_ok-judge.was
