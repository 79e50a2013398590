use Rattle.std.proofs.Common.{ℕ, List, subst}
use Rattle.order.specs.Bounds.{Known, toward}
use Rattle.order.proofs.Suprema.{supremum_more, known_at}
use Rattle.order.proofs.fold.folded_bound.Goals as goal

pub returns-in_err-bound : goal.returns-in_err-bound
returns-in_err-bound g c =
    let P = toward c.args.which (g.L.Order.meaning c.args.lattice.now) in
    rw c.from_residual.ensures (λ all.
    let known = subst (λ (l : List ℕ). Known P l) c.in-Some.ensures.cases.0 all in
    c.in_err-bound.ensures (c.loop-label.invariant.known, (known_at P c.in-Some.rest.now c.loop-label.label-index c.loop-label-test.true known.1, tt)))

pub loop-label-preserved : goal.loop-label-preserved
loop-label-preserved g c =
    supremum_more (toward c.args.which (g.L.Order.meaning c.args.lattice.now)) c.in-Some.first.now c.in-Some.rest.now
    c.loop-label.label-index c.loop-label.bound c.in_ok-bound.bound c.loop-label-test.true c.loop-label.invariant c.in_ok-bound.ensures
