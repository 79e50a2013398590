use Rattle.session.proofs.Passed.{passed_on}
use Rattle.session.proofs.record.Session.certify.Goals as goal

pub returns-clause-copied : goal.returns-clause-copied
returns-clause-copied g c = passed_on c.admit.result c.exchanged.result _ c.exchanged.ensures c.admit.ensures.copied
