use Rattle.std.proofs.Common.{◌≡◌}
use Rattle.refusal.specs.Judging.{accepted}
use Rattle.refusal.proofs.Judging.{Left}
use Rattle.agreement.specs.Rules.{pair_judged, row_judged, monotone_judged}
use Rattle.agreement.proofs.map.LabelMap.monotone.Given as goal

abbrev pub invariant-pairs : goal.invariant-pairs
invariant-pairs g l =
    let P = g.P.Order.meaning l.self.from in
    let Q = g.Q.Order.meaning l.self.to in
    (l.judged ≡ accepted) × Left (row_judged P Q l.self.images.now) (monotone_judged P Q l.self.images.now) P.count l.a

abbrev pub invariant-loop-b : goal.invariant-loop-b
invariant-loop-b g l =
    let P = g.P.Order.meaning l.self.from in
    let Q = g.Q.Order.meaning l.self.to in
    (l.judged ≡ accepted) × Left (pair_judged P Q l.self.images.now l.a) (row_judged P Q l.self.images.now l.a) P.count l.b
