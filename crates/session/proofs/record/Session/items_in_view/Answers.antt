use Rattle.std.proofs.Common.{IfOk, vec_items, subst}
use Rattle.std.specs.Option.{option_map}
use Rattle.agreement.specs.Agreements.{Joint}
use Rattle.agreement.specs.Views.{ListsView}
use Rattle.session.proofs.record.Session.items_in_view.Goals as goal

pub returns : goal.returns
returns g c =
    subst (λ (J : Joint). IfOk c.items_in_view.result (λ o. ListsView J c.args.side c.args.label c.args.house (option_map vec_items o))) c.houses.ensures c.items_in_view.ensures
