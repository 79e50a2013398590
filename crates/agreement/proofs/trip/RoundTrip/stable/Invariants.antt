use Rattle.refusal.proofs.Judging.{Left}
use Rattle.agreement.specs.Rules.{stay_judged, stable_judged}
use Rattle.agreement.proofs.trip.RoundTrip.stable.Given as goal

abbrev pub invariant-loop-label : goal.invariant-loop-label
invariant-loop-label g l =
    let P = g.P.Order.meaning l.self.from in
    let Q = g.Q.Order.meaning l.self.to in
    Left (stay_judged P Q l.self.out.now l.self.back.now) (stable_judged P Q l.self.out.now l.self.back.now) P.count l.label
