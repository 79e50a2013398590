use Rattle.std.proofs.Common.{[], ◌∷◌, rules}
use Rattle.refusal.specs.Sides.{other}
use Rattle.agreement.specs.Agreements.{joined}
use Rattle.machine.specs.Steps.{label_of}
use Rattle.machine.specs.Types.{for_house}
use Rattle.steps.proofs.Lowering.{both_then}
use Rattle.steps.proofs.typing.lowered_by_move.Goals as goal

pub returns : goal.returns
returns g c =
    let J = joined g.N.Order.meaning g.F.Order.meaning c.args.houses.now in
    let s = c.args.side in
    both_then J (λ u. for_house s u (label_of (J.items s) c.args.source ∷ [])) (λ u. for_house (other s) u (label_of (J.items (other s)) c.args.target ∷ []))
    c.args.lowest c.lowered_by_item-given.result c.lowered_by_item.result c.lowered_by_item-given.ensures (search rules)
