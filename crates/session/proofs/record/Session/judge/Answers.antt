use Rattle.std.proofs.Common.{Ok, Err, sym, ap, ◌∙◌}
use Rattle.refusal.proofs.Judging.{break_is}
use Rattle.agreement.specs.Agreements.{joined}
use Rattle.machine.specs.Calls.{as_typed}
use Rattle.machine.specs.declared.fault.CallFault.TheVariants.{Script as in_script}
use Rattle.session.proofs.Gates.{judge_answer}
use Rattle.session.proofs.record.Session.judge.Goals as goal

pub returns-in_err-typed : goal.returns-in_err-typed
returns-in_err-typed g c =
    let e = c.in_err-typed.field-0.0 in
    ap as_typed (break_is c.from_residual-in_err-typed.result (in_script e) c.from_residual-in_err-typed.ensures.1)
    ∙ judge_answer g.N.Order.meaning g.F.Order.meaning c.args.self.now (sym c.may_judge.ensures ∙ c.in_ok-may_judge.was) (joined g.N.Order.meaning g.F.Order.meaning c.houses.result) c.houses.ensures c.args.bytes.now c.args.at (Err e) c.in_err-typed.ensures

pub returns : goal.returns
returns g c =
    judge_answer g.N.Order.meaning g.F.Order.meaning c.args.self.now (sym c.may_judge.ensures ∙ c.in_ok-may_judge.was) (joined g.N.Order.meaning g.F.Order.meaning c.houses.result) c.houses.ensures c.args.bytes.now c.args.at (Ok c.in_ok-typed.typed) c.in_ok-typed.ensures
