use Rattle.order.specs.Bounds.{toward}
use Rattle.order.proofs.Searches.{supremum_is}
use Rattle.order.proofs.fold.bound_of.Goals as goal

pub returns-clause-value : goal.returns-clause-value
returns-clause-value g c = supremum_is (toward c.args.which (g.L.Order.meaning c.args.lattice.now)) c.args.labels.now c.folded_bound.result c.folded_bound.ensures
