use Rattle.std.proofs.Common.{Ok, Err, sym, ap, ◌∙◌}
use Rattle.refusal.proofs.Judging.{break_is}
use Rattle.agreement.specs.Agreements.{joined}
use Rattle.machine.specs.Calls.{as_typed, run}
use Rattle.machine.specs.declared.fault.CallFault.TheVariants.{Script as in_script}
use Rattle.session.proofs.Gates.{record_left, run_answer}
use Rattle.session.proofs.record.Session.run.Goals as goal

pub returns-in_err-typed : goal.returns-in_err-typed
returns-in_err-typed g c =
    let near = g.N.Order.meaning in
    let far = g.F.Order.meaning in
    let self = c.args.self.now in
    let is_open = sym c.at_stage.ensures ∙ c.in_ok-at_stage.was in
    let K = joined near far c.lent-houses.result in
    let e = c.in_err-typed.field-0.0 in
    record {
      answer = ap as_typed (break_is c.from_residual-in_err-typed.result (in_script e) c.from_residual-in_err-typed.ensures.1) ∙ run_answer near far self is_open K c.lent-houses.ensures c.args.bytes.now c.args.at (Err e) c.in_err-typed.ensures.answer;
      «record» = record_left near far self is_open K c.lent-houses.ensures (run c.args.bytes.now c.args.at) c.run_script.new.values c.in_err-typed.ensures.values;
    }

pub returns : goal.returns
returns g c =
    let near = g.N.Order.meaning in
    let far = g.F.Order.meaning in
    let self = c.args.self.now in
    let is_open = sym c.at_stage.ensures ∙ c.in_ok-at_stage.was in
    let K = joined near far c.lent-houses.result in
    record {
      answer = run_answer near far self is_open K c.lent-houses.ensures c.args.bytes.now c.args.at (Ok c.in_ok-typed.typed) c.in_ok-typed.ensures.answer;
      «record» = record_left near far self is_open K c.lent-houses.ensures (run c.args.bytes.now c.args.at) c.run_script.new.values c.in_ok-typed.ensures.values;
    }
