-- What the lattice of a house means: what a table of its kind means.
use Rattle.order.specs.Orders.{PartialOrder}
use Rattle.tables.specs.contracts.graded.GradedOrder.TheImpl.{ghosts as graded}
use Rattle.tables.specs.contracts.listed.ListedOrder.TheImpl.{ghosts as listed}
use Rattle.house.specs.declared.table.Table.{Table}
use Rattle.house.specs.declared.table.Table.TheVariants.{Listed, Graded}

abbrev pub table_order : Table → PartialOrder
table_order (Listed t) = listed.meaning t
table_order (Graded t) = graded.meaning t
