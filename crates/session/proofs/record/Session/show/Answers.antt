use Rattle.std.proofs.Common.{Ok, Err, sym, ap, ◌∙◌}
use Rattle.refusal.proofs.Judging.{break_is}
use Rattle.agreement.specs.Agreements.{joined}
use Rattle.machine.specs.Calls.{as_shown}
use Rattle.machine.specs.declared.fault.CallFault.TheVariants.{Step as in_step}
use Rattle.session.proofs.Gates.{show_answer}
use Rattle.session.proofs.record.Session.show.Goals as goal

pub returns-in_err-value : goal.returns-in_err-value
returns-in_err-value g c =
    let e = c.in_err-value.field-0.0 in
    ap as_shown (break_is c.from_residual-in_err-value.result (in_step e) c.from_residual-in_err-value.ensures.1)
    ∙ show_answer g.N.Order.meaning g.F.Order.meaning c.args.self.now (sym c.at_stage.ensures ∙ c.in_ok-at_stage.was) (joined g.N.Order.meaning g.F.Order.meaning c.houses.result) c.houses.ensures c.args.side c.args.label c.args.item (Err e) c.in_err-value.ensures

pub returns : goal.returns
returns g c =
    show_answer g.N.Order.meaning g.F.Order.meaning c.args.self.now (sym c.at_stage.ensures ∙ c.in_ok-at_stage.was) (joined g.N.Order.meaning g.F.Order.meaning c.houses.result) c.houses.ensures c.args.side c.args.label c.args.item (Ok c.in_ok-value.value) c.in_ok-value.ensures
