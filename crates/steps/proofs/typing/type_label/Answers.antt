use Rattle.std.proofs.Common.{rules}
use Rattle.steps.proofs.Lowering.{or_top_is}
use Rattle.steps.proofs.typing.type_label.Goals as goal

pub returns : goal.returns
returns g c = or_top_is (g.L.Order.meaning c.args.lattice.now) c.args.bound (search rules)
