use Rattle.std.proofs.Common.{ap, ◌∙◌}
use Rattle.order.specs.Orders.{PartialOrder}
use Rattle.agreement.specs.Agreements.{Joint}
use Rattle.session.proofs.record.Session.labels.Goals as goal

pub returns : goal.returns
returns g c =
    c.count.ensures ∙ ap (λ (P : PartialOrder). P.count) c.house.ensures ∙ ap (λ (J : Joint). (J.order c.args.side).count) c.houses.ensures
