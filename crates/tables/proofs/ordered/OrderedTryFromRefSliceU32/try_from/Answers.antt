use Rattle.std.proofs.Common.{sym, refl, arith}
use Rattle.tables.proofs.Kept.{held_rows, held_order}
use Rattle.tables.proofs.ordered.OrderedTryFromRefSliceU32.try_from.Goals as goal

pub invariant_of-result : goal.invariant_of-result
invariant_of-result c =
    let rows = c.args.rows.now in
    let t = c.of.result in
    let lawful = c.in_ok-judge_order.ensures.law.0 refl in
    let held = held_rows rows t lawful.few c.of.ensures in
    record { some = omega (arith, held.counted, lawful.some); few = omega (arith, held.counted, lawful.few); lawful = ∣ held_order rows t.count t.places held lawful.ordered ∣₁ }

pub returns : goal.returns
returns c =
    let lawful = c.in_ok-judge_order.ensures.law.0 refl in
    (sym c.in_ok-judge_order.ensures.answer, held_rows c.args.rows.now c.of.result lawful.few c.of.ensures)
