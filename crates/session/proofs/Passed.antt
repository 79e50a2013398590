-- What holds once a call is accepted holds once it hands out the next pass. Assumes nothing.
use Rattle.std.proofs.Common.{Ok, Err, Result, OnOk, subst}
use Rattle.refusal.specs.Judging.{Judgement}
use Rattle.machine.specs.declared.fault.CallFault.{CallFault}
use Rattle.session.specs.Records.{Hands}
use Rattle.session.specs.declared.returned.Returned.{Returned}

pub passed_on : {P Q : Type 0} (judged : Judgement CallFault) (r : Result Q (Returned P)) (X : Type 0) → Hands judged r → OnOk judged X → OnOk r X
passed_on judged (Ok q) X e h = subst (λ (j : Judgement CallFault). OnOk j X) e h
passed_on judged (Err b) X e h = tt
