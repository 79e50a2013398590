use Rattle.std.proofs.Common.{ap, ◌∙◌}
use Rattle.agreement.specs.Agreements.{Joint}
use Rattle.session.proofs.record.Session.items.Goals as goal

pub returns : goal.returns
returns g c = c.items.ensures ∙ ap (λ (J : Joint). J.items c.args.side) c.houses.ensures
