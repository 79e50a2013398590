use Rattle.std.proofs.Common.{Ok, Err, sym, ap, ◌∙◌}
use Rattle.refusal.proofs.Judging.{break_is}
use Rattle.agreement.specs.Agreements.{joined}
use Rattle.machine.specs.Calls.{line_step, as_done, step}
use Rattle.machine.specs.declared.fault.CallFault.TheVariants.{Step as in_step}
use Rattle.session.proofs.Gates.{record_left, step_answer}
use Rattle.session.proofs.record.Session.take.Goals as goal

pub returns-in_err-perform : goal.returns-in_err-perform
returns-in_err-perform g c =
    let near = g.N.Order.meaning in
    let far = g.F.Order.meaning in
    let self = c.args.self.now in
    let is_open = sym c.at_stage.ensures ∙ c.in_ok-at_stage.was in
    let K = joined near far c.lent-houses.result in
    let x = line_step c.args.line.now in
    let e = c.in_err-perform.field-0.0 in
    record {
      answer = ap as_done (break_is c.from_residual-in_err-perform.result (in_step e) c.from_residual-in_err-perform.ensures.1) ∙ step_answer near far self is_open K c.lent-houses.ensures x (Err e) c.in_err-perform.ensures.answer;
      «record» = record_left near far self is_open K c.lent-houses.ensures (step x) c.perform.new.values c.in_err-perform.ensures.values;
    }

pub returns : goal.returns
returns g c =
    let near = g.N.Order.meaning in
    let far = g.F.Order.meaning in
    let self = c.args.self.now in
    let is_open = sym c.at_stage.ensures ∙ c.in_ok-at_stage.was in
    let K = joined near far c.lent-houses.result in
    let x = line_step c.args.line.now in
    record {
      answer = step_answer near far self is_open K c.lent-houses.ensures x (Ok c.in_ok-perform.field-0) c.in_ok-perform.ensures.answer;
      «record» = record_left near far self is_open K c.lent-houses.ensures (step x) c.perform.new.values c.in_ok-perform.ensures.values;
    }
