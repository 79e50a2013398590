use Rattle.std.proofs.Common.{[], sym, ◌∙◌, arith}
use Rattle.std.proofs.lemmas.Bool.{false≢true}
use Rattle.order.specs.Bounds.{toward}
use Rattle.order.proofs.Suprema.{passed_taken, passed_left, supremum_kept, bottom, toward_count, toward_meets}
use Rattle.order.proofs.fold.bound_of_none.Goals as goal
use Rattle.order.proofs.fold.bound_of_none.Goals.{then-flows_toward, else-flows_toward}

pub loop-label-preserved : goal.loop-label-preserved
loop-label-preserved g c =
    let Q = g.L.Order.meaning c.args.lattice.now in
    elim c.if-flows_toward.branch [
      | then-flows_toward w ↦ simp w.least-is (passed_taken c.loop-label.invariant
          (omega (arith, toward_count c.args.which Q, c.count-label-end.ensures)) (tt, sym w.if-flows_toward.ensures))
      | else-flows_toward w ↦ simp w.least-is (passed_left c.loop-label.invariant
          (λ better. false≢true (w.if-flows_toward.ensures ∙ better.1)))
    ]

pub returns : goal.returns
returns g c =
    let Q = g.L.Order.meaning c.args.lattice.now in
    let P = toward c.args.which Q in
    supremum_kept P [] c.loop-label.least (bottom P (toward_meets c.args.which Q (g.met.L.Lattice.bounds c.args.lattice.now)))
    c.loop-label.invariant.above.0 tt (λ b s. c.loop-label.invariant.first b (omega (arith, toward_count c.args.which Q, s.known, c.count-label-end.ensures)) s)
