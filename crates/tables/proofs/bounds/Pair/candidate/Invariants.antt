use Rattle.std.proofs.Common.{[], ◌∷◌}
use Rattle.order.proofs.Suprema.{Passed}
use Rattle.tables.proofs.bounds.Pair.candidate.Given as goal

abbrev pub invariant-loop-label : goal.invariant-loop-label
invariant-loop-label g l = Passed (g.O.Order.meaning l.self.order) (l.self.a ∷ l.self.b ∷ []) l.label l.best
