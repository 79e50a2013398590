use Rattle.std.proofs.Common.{refl}
use Rattle.fixed.specs.Lists.{padded}
use Rattle.session.proofs.record.Session.new.Goals as goal

pub returns : goal.returns
unfolding padded
returns g c = refl
