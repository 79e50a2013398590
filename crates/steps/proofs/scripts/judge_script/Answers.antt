use Rattle.std.proofs.Common.{ℕ, Ok, sym, ap, ◌∙◌, ap₂}
use Rattle.refusal.proofs.Judging.{break_is}
use Rattle.refusal.specs.declared.Side.TheVariants.{Near, Far}
use Rattle.order.proofs.Searches.{supremum_is}
use Rattle.agreement.specs.Agreements.{joined}
use Rattle.machine.specs.Types.{or_top}
use Rattle.machine.specs.declared.fault.RunFault.TheVariants.{Line as in_line}
use Rattle.steps.proofs.Running.{script_unread, script_refused, script_typed}
use Rattle.steps.proofs.scripts.judge_script.Goals as goal

pub returns-in_err-judge_lines : goal.returns-in_err-judge_lines
returns-in_err-judge_lines g c =
    let J = joined g.N.Order.meaning g.F.Order.meaning c.args.houses.now in
    break_is _ _ c.from_residual.ensures.1 ∙ sym (script_unread J c.args.bytes.now c.args.at _ c.in_err-judge_lines.ensures)

pub returns-in_err-lowest : goal.returns-in_err-lowest
returns-in_err-lowest g c =
    let J = joined g.N.Order.meaning g.F.Order.meaning c.args.houses.now in
    let got = c.in_ok-judge_lines.ensures in
    break_is _ _ c.from_residual-in_err-lowest.ensures.1
    ∙ sym (script_refused J c.args.bytes.now c.args.at got.0 got.1 (in_line c.in_err-lowest.field-0.0) got.2 (rw c.in_err-lowest.was at got.3))

pub returns : goal.returns
returns g c =
    let J = joined g.N.Order.meaning g.F.Order.meaning c.args.houses.now in
    let got = c.in_ok-judge_lines.ensures in
    let b = c.in_ok-lowest.lowest in
    let judged = rw c.in_ok-lowest.was at got.3 in
    ap₂ (λ (x y : ℕ). Ok (record { near = x; far = y }))
    (c.type_label.ensures ∙ ap (or_top (J.order Near)) (supremum_is _ _ b.near judged.1.0))
    (c.type_label-2.ensures ∙ ap (or_top (J.order Far)) (supremum_is _ _ b.far judged.1.1))
    ∙ sym (script_typed J c.args.bytes.now c.args.at got.0 got.1 got.2 judged.0)
