use Rattle.std.proofs.Common.{◌≡◌, ◌≤◌, length, sym, ◌∙◌, arith}
use Rattle.std.proofs.lemmas.Bool.{eqb-false}
use Rattle.refusal.proofs.Fitting.{decides_fits}
use Rattle.tables.specs.Listed.{order_judged}
use Rattle.tables.specs.Orders.{order_fits, order_in_range}
use Rattle.tables.proofs.judge.judge_order.Goals as goal

pub returns : goal.returns
returns c =
    let rows = c.args.rows.now in
    let some : 1 ≤ length rows = omega (arith, eqb-false (length rows) 0 (sym c.if-is_empty.ensures)) in
    let judged : c.judge_laws.result ≡ order_judged rows = c.judge_laws.ensures ∙ order_in_range rows some c.if-rows-gt-MAX_ROWS.false in
    record { answer = judged; law = decides_fits c.judge_laws.result judged (order_fits rows) }
