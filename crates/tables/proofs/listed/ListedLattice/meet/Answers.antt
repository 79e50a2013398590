use Rattle.order.specs.Bounds.{toward}
use Rattle.order.specs.declared.bound.Bound.TheVariants.{Meet}
use Rattle.tables.specs.contracts.ordered.OrderedOrder.TheImpl.{ghosts as ordered}
use Rattle.tables.specs.Lattices.{lattice_of, candidate_joined}
use Rattle.tables.proofs.listed.ListedLattice.meet.Goals as goal

pub returns : goal.returns
returns c =
    let P = ordered.meaning c.args.self.now.table in
    candidate_joined (toward Meet P) (lattice_of P c.args.self.now.lattice).meets c.args.a c.args.b c.candidate.result c.candidate.ensures
