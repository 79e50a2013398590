use Rattle.std.proofs.Common.{◌≡◌, [], ◌∷◌, sym, subst, arith}
use Rattle.order.specs.Bounds.{Supremum, toward}
use Rattle.tables.specs.GradedOrder.{graded}
use Rattle.tables.specs.GradedBounds.{level_at, set_at, label_at, level_at_below, set_at_below, supremum}
use Rattle.tables.proofs.graded.Graded.bound.Goals as goal

pub label-requires : goal.label-requires
label-requires c =
    let s = c.args.self.now in
    let level : c.bound_of_levels-level.result ≡ level_at c.args.which s.compartments c.args.a c.args.b = cc in
    let both : c.bound_of_sets-set.result ≡ set_at c.args.which s.compartments c.args.a c.args.b = cc in (
      omega (arith, level_at_below c.args.which s.levels s.compartments c.args.a c.args.b (omega arith) (omega arith)),
      omega (arith, set_at_below c.args.which s.compartments c.args.a c.args.b),
    )

pub returns : goal.returns
returns c =
    let s = c.args.self.now in
    let label : c.label.result ≡ label_at c.args.which s.compartments c.args.a c.args.b = cc in
    subst (Supremum (toward c.args.which (graded s.levels s.compartments s.limits)) (c.args.a ∷ c.args.b ∷ [])) (sym label)
    (supremum s.levels s.compartments s.limits c.args.which c.args.a c.args.b (omega arith) (omega arith))
