use Rattle.refusal.proofs.Judging.{Left}
use Rattle.agreement.specs.Rules.{entry_judged, total_judged}
use Rattle.agreement.proofs.map.LabelMap.total.Given as goal

abbrev pub invariant-loop-label : goal.invariant-loop-label
invariant-loop-label g l =
    let P = g.P.Order.meaning l.self.from in
    let Q = g.Q.Order.meaning l.self.to in
    Left (entry_judged Q l.self.images.now) (total_judged P Q l.self.images.now) P.count l.label
