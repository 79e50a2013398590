use Rattle.std.proofs.Common.{◌≡◌, ℕ, List, sym, ap, ◌∙◌, ap₂, arith}
use Rattle.fixed.specs.Lists.{padded}
use Rattle.refusal.specs.Judging.{Judgement, accepted}
use Rattle.refusal.specs.declared.Side.TheVariants.{Near, Far}
use Rattle.refusal.proofs.Judging.{then_at}
use Rattle.machine.specs.Calls.{if_so, stage_judged}
use Rattle.machine.specs.Openings.{length_judged, opening_judged}
use Rattle.agreement.specs.declared.item.Item.{Item}
use Rattle.machine.specs.declared.fault.CallFault.{CallFault}
use Rattle.machine.specs.declared.stage.Stage.TheVariants.{Certified, Open}
use Rattle.session.specs.Records.{known, open_answer, opened_with}
use Rattle.session.specs.declared.record.Session.{Session}
use Rattle.session.proofs.Kept.{check_length, values_fit}
use Rattle.session.proofs.record.Session.set_values.Goals as goal

pub returns-clause-record : goal.returns-clause-record
unfolding padded
returns-clause-record g c =
    let self = c.args.self.now in
    let near = c.args.near.now in
    let far = c.args.far.now in
    let J = known g.N.Order.meaning g.F.Order.meaning self in
    let certified_now : stage_judged self.stage Certified ≡ accepted = sym c.at_stage.ensures ∙ c.in_ok-at_stage.was in
    let near_ok : length_judged J Near near ≡ accepted = ap (λ (xs : List Item). check_length Near near xs) (sym c.as_slice.ensures.elements) ∙ sym c.of_length.ensures ∙ c.in_ok-of_length.was in
    let far_ok : length_judged J Far far ≡ accepted = ap (λ (xs : List Item). check_length Far far xs) (sym c.as_slice-2.ensures.elements) ∙ sym c.of_length-2.ensures ∙ c.in_ok-of_length-2.was in
    let judged : accepted ≡ open_answer g.N.Order.meaning g.F.Order.meaning self near far = sym (then_at (opening_judged J near far) certified_now ∙ then_at (length_judged J Far far) near_ok ∙ far_ok) in
    let near_so = values_fit Near near c.as_slice.result.now c.of.result (sym c.of_length.ensures ∙ c.in_ok-of_length.was) (omega (arith, c.as_slice.ensures.counted)) c.of.ensures in
    let far_so = values_fit Far far c.as_slice-2.result.now c.of-2.result (sym c.of_length-2.ensures ∙ c.in_ok-of_length-2.was) (omega (arith, c.as_slice-2.ensures.counted)) c.of-2.ensures in
    let set_so : List ℕ → List ℕ → Session g.row.N.Denot g.row.F.Denot = λ x y. record { near = self.near; far = self.far; maps = self.maps; stage = Open; table = record { items = self.table.items; values = record { near = x; far = y } } } in
    let left : Judgement CallFault → Session g.row.N.Denot g.row.F.Denot = λ j. if_so j (opened_with self near far) self in
    ap₂ set_so near_so far_so ∙ ap left judged
