use Rattle.std.proofs.Common.{[], Some}
use Rattle.order.specs.Bounds.{toward}
use Rattle.order.proofs.Suprema.{Passed}
use Rattle.order.proofs.fold.bound_of_none.Given as goal

abbrev pub invariant-loop-label : goal.invariant-loop-label
invariant-loop-label g l = Passed (toward l.which (g.L.Order.meaning l.lattice)) [] l.label (Some l.least)
