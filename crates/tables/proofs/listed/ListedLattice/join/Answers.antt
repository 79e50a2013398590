use Rattle.order.specs.Bounds.{toward}
use Rattle.order.specs.declared.bound.Bound.TheVariants.{Join}
use Rattle.tables.specs.contracts.ordered.OrderedOrder.TheImpl.{ghosts as ordered}
use Rattle.tables.specs.Lattices.{lattice_of, candidate_joined}
use Rattle.tables.proofs.listed.ListedLattice.join.Goals as goal

pub returns : goal.returns
returns c =
    let P = ordered.meaning c.args.self.now.table in
    candidate_joined (toward Join P) (lattice_of P c.args.self.now.lattice).joins c.args.a c.args.b c.candidate.result c.candidate.ensures
