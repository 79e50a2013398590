use Rattle.steps.proofs.Lowering.{lowers_absent, lowers_one}
use Rattle.steps.proofs.typing.lowered.Goals as goal

pub returns-in_err-bound : goal.returns-in_err-bound
returns-in_err-bound g c =
    lowers_absent (g.L.Order.meaning c.args.lattice.now) c.args.label c.in_err-bound.was c.from_residual.ensures

pub returns : goal.returns
returns g c =
    lowers_one (g.L.Order.meaning c.args.lattice.now) c.args.label c.in_ok-bound.field-0 c.bound_of_two.result
    c.in_ok-bound.was c.bound_of_two.ensures
