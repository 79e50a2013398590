use Rattle.std.proofs.Common.{rules}
use Rattle.agreement.proofs.Connections.{moves_within}
use Rattle.agreement.proofs.map.LabelMap.allows.Goals as goal

pub returns-clause-value : goal.returns-clause-value
returns-clause-value g c = search rules

pub returns-clause-view : goal.returns-clause-view
returns-clause-view g c =
    moves_within (g.P.Order.meaning c.args.self.now.from) (g.Q.Order.meaning c.args.self.now.to) c.args.self.now.images.now c.args.source c.args.target
    c.is_some_and.result (returns-clause-value g c)
