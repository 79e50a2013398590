use Rattle.std.proofs.Common.{length}
use Rattle.refusal.proofs.Judging.{Left}
use Rattle.agreement.specs.Rules.{item_judged, items_judged}
use Rattle.agreement.proofs.trip.RoundTrip.lawful.Given as goal

abbrev pub invariant-loop-place : goal.invariant-loop-place
invariant-loop-place g l =
    let P = g.P.Order.meaning l.self.from in
    let Q = g.Q.Order.meaning l.self.to in
    Left (item_judged P Q l.self.out.now l.self.back.now l.items) (items_judged P Q l.self.out.now l.self.back.now l.items) (length l.items) l.place
