use Rattle.std.proofs.Common.{◌≡◌, sym, refl, ap, ◌∙◌, subst, ap₂}
use Rattle.refusal.specs.Judging.{Judgement, accepted, under}
use Rattle.refusal.proofs.Judging.{then_at}
use Rattle.agreement.specs.Agreements.{Joint, agreed}
use Rattle.agreement.specs.Certified.{certified, Holds}
use Rattle.machine.specs.Calls.{if_so, stage_judged}
use Rattle.machine.specs.Secrets.{KeepsSecrets}
use Rattle.machine.specs.declared.fault.CallFault.{CallFault}
use Rattle.machine.specs.declared.fault.CallFault.TheVariants.{Agreement as in_agreement}
use Rattle.machine.specs.declared.stage.Stage.TheVariants.{Draft, Certified}
use Rattle.session.specs.Records.{certify_answer, known_of, with_agreement}
use Rattle.session.specs.declared.record.Items.{Items}
use Rattle.session.specs.declared.record.Maps.{Maps}
use Rattle.session.specs.declared.record.Session.{Session}
use Rattle.session.proofs.Kept.{certified_keeps, items_kept, kept, maps_kept}
use Rattle.session.proofs.record.Session.admit.Goals as goal

pub returns : goal.returns
returns g c =
    let self = c.args.self.now in
    let a = c.args.agreement.now in
    let N = g.N.Order.meaning self.near in
    let F = g.F.Order.meaning self.far in
    let holds : Holds (agreed N F a) = c.in_ok-certify.ensures.exact.0 refl in
    let maps_so = maps_kept N F a holds c.of.result c.of-2.result c.of.ensures c.of-2.ensures in
    let items_so = items_kept N F a holds c.of-3.result c.of-4.result c.of-3.ensures c.of-4.ensures in
    let at_draft : stage_judged self.stage Draft ≡ accepted = sym c.at_stage.ensures ∙ c.in_ok-at_stage.was in
    let judged : accepted ≡ certify_answer g.N.Order.meaning g.F.Order.meaning self a =
    ap (under in_agreement) c.in_ok-certify.ensures.verdict ∙ sym (then_at (under in_agreement (certified (agreed N F a))) at_draft) in
    let copied : known_of N F (record { out = c.of.result; back = c.of-2.result }) (record { near = c.of-3.result; far = c.of-4.result }) ≡ agreed N F a =
    ap₂ (known_of N F) maps_so items_so ∙ kept N F a in
    let now_so : Maps → Items → Session g.row.N.Denot g.row.F.Denot = λ m x. record { near = self.near; far = self.far; maps = m; stage = Certified; table = record { items = x; values = self.table.values } } in
    let left : Judgement CallFault → Session g.row.N.Denot g.row.F.Denot = λ j. if_so j (with_agreement self a) self in
    record {
      answer = judged;
      «record» = ap₂ now_so maps_so items_so ∙ ap left judged;
      copied = copied;
      secrets = subst (λ (J : Joint). KeepsSecrets J) (sym copied)
          (certified_keeps N F a (g.met.N.Lattice.bounds self.near) (g.met.F.Lattice.bounds self.far) holds);
    }
