use Rattle.std.proofs.Common.{[], ◌∷◌, lit≤, arith}
use Rattle.tables.specs.Orders.{one_ordered}
use Rattle.tables.proofs.Kept.{held_rows, held_order}
use Rattle.tables.proofs.ordered.Ordered.new.Goals as goal

pub invariant_of-result : goal.invariant_of-result
invariant_of-result c =
    let t = c.of.result in
    let held = held_rows (1 ∷ []) t (lit≤ tt) c.of.ensures in
    record { some = omega (arith, held.counted); few = omega (arith, held.counted); lawful = ∣ held_order (1 ∷ []) t.count t.places held one_ordered.ordered ∣₁ }

pub returns : goal.returns
returns c = held_rows (1 ∷ []) c.of.result (lit≤ tt) c.of.ensures
