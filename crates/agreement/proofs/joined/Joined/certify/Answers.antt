use Rattle.agreement.specs.Agreements.{joined}
use Rattle.agreement.proofs.Certified.{exact, first}
use Rattle.agreement.proofs.joined.Joined.certify.Goals as goal

pub returns : goal.returns
returns g c =
    let J = joined g.N.Order.meaning g.F.Order.meaning c.args.self.now in
    record {
      verdict = c.judge.ensures;
      exact = exact J c.judge.result c.judge.ensures;
      first = first J c.judge.result c.judge.ensures;
    }
