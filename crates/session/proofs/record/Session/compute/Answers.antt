use Rattle.std.proofs.Common.{Ok, Err, sym, ap, ◌∙◌}
use Rattle.refusal.proofs.Judging.{break_is}
use Rattle.agreement.specs.Agreements.{joined}
use Rattle.machine.specs.Calls.{as_done, step}
use Rattle.machine.specs.Steps.{compute}
use Rattle.machine.specs.declared.fault.CallFault.TheVariants.{Step as in_step}
use Rattle.session.proofs.Gates.{record_left, step_answer}
use Rattle.session.proofs.record.Session.compute.Goals as goal

pub returns-in_err-compute : goal.returns-in_err-compute
returns-in_err-compute g c =
    let near = g.N.Order.meaning in
    let far = g.F.Order.meaning in
    let self = c.args.self.now in
    let is_open = sym c.at_stage.ensures ∙ c.in_ok-at_stage.was in
    let K = joined near far c.lent-houses.result in
    let x = compute c.args.side c.args.assignments.now in
    let e = c.in_err-compute.field-0.0 in
    record {
      answer = ap as_done (break_is c.from_residual-in_err-compute.result (in_step e) c.from_residual-in_err-compute.ensures.1) ∙ step_answer near far self is_open K c.lent-houses.ensures x (Err e) c.in_err-compute.ensures.answer;
      «record» = record_left near far self is_open K c.lent-houses.ensures (step x) c.compute.new.values c.in_err-compute.ensures.values;
    }

pub returns : goal.returns
returns g c =
    let near = g.N.Order.meaning in
    let far = g.F.Order.meaning in
    let self = c.args.self.now in
    let is_open = sym c.at_stage.ensures ∙ c.in_ok-at_stage.was in
    let K = joined near far c.lent-houses.result in
    let x = compute c.args.side c.args.assignments.now in
    record {
      answer = step_answer near far self is_open K c.lent-houses.ensures x (Ok c.in_ok-compute.field-0) c.in_ok-compute.ensures.answer;
      «record» = record_left near far self is_open K c.lent-houses.ensures (step x) c.compute.new.values c.in_ok-compute.ensures.values;
    }
