use Rattle.std.proofs.Common.{◌∷◌, take}
use Rattle.order.specs.Bounds.{toward, Supremum}
use Rattle.order.proofs.fold.folded_bound.Given as goal

abbrev pub invariant-loop-label : goal.invariant-loop-label
invariant-loop-label g l =
    Supremum (toward l.which (g.L.Order.meaning l.lattice)) (l.initial.bound ∷ take l.label-index l.rest) l.bound
