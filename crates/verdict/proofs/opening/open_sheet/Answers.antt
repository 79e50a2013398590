use Rattle.std.proofs.Common.{◌≡◌, sym, refl, ap, ◌∙◌, subst}
use Rattle.refusal.specs.Judging.{Judgement}
use Rattle.refusal.proofs.Accepting.{under_accepted}
use Rattle.agreement.specs.Agreements.{agreed}
use Rattle.agreement.specs.Certified.{certified}
use Rattle.house.specs.contracts.table.TableOrder.TheImpl.{ghosts as ordered}
use Rattle.house.specs.declared.table.Table.{Table}
use Rattle.machine.specs.Calls.{if_so}
use Rattle.machine.specs.declared.fault.CallFault.{CallFault}
use Rattle.machine.specs.declared.fault.CallFault.TheVariants.{Agreement as in_agreement}
use Rattle.session.specs.Records.{certify_judged, with_agreement}
use Rattle.session.specs.declared.record.Session.{Session}
use Rattle.sheet.specs.Opening.{HousesStand}
use Rattle.verdict.proofs.Over.{agreement_refused, handed_on, Offered, Over}
use Rattle.verdict.proofs.opening.open_sheet.Goals as goal
use Rattle.verdict.proofs.opening.open_sheet.Goals.{After-certify, at-returns-in-Err, at-returns-in-Ok}

-- what is handed to the session
offered : (c : After-certify) → Offered ordered.meaning c.args.bytes.now c.new.result.0 c.agreement.result c.in_ok-sheet.sheet
offered c =
    let sheet = c.in_ok-sheet.sheet in
    let fresh = c.new.result.0 in
    let N = ordered.meaning fresh.near in
    let F = ordered.meaning fresh.far in
    let a = c.agreement.result in
    let lent = c.agreement.ensures in
    record {
      houses = subst (λ (x : Session Table Table). HousesStand c.args.bytes.now (ordered.meaning x.near) (ordered.meaning x.far) sheet) (sym c.new.ensures)
          (record {
            read = c.in_ok-sheet.ensures.value;
            near_lawful = c.in_ok-near.ensures.0;
            far_lawful = c.in_ok-near.ensures.1;
            near = c.in_ok-near.ensures.2;
            far = c.in_ok-near.ensures.3;
          });
      same = handed_on N F sheet.parts a lent.out lent.back lent.near_items lent.far_items;
      at_draft = ap (λ (x : Session Table Table). certify_judged x.stage (agreed N F a)) c.new.ensures;
    }

pub returns-in-Ok : goal.returns-in-Ok
returns-in-Ok c =
    let bytes = c.args.bytes.now in
    let sheet = c.in_ok-sheet.sheet in
    let fresh = c.new.result.0 in
    let a = c.agreement.result in
    let got = c.in-Ok.ensures in
    let offer = offered (at-returns-in-Ok c).After-certify in
    let certifies = under_accepted in_agreement (certified (agreed (ordered.meaning fresh.near) (ordered.meaning fresh.far) a)) (sym offer.at_draft ∙ got.answer) in
    let over : Over ordered.meaning bytes (agreed (ordered.meaning fresh.near) (ordered.meaning fresh.far) a) sheet (with_agreement fresh a) =
    record { houses = offer.houses; certifies = ap certified (sym offer.same) ∙ certifies; certified_now = refl; same = offer.same } in
    let left : c.certify.new.self ≡ with_agreement fresh a = got.record ∙ ap (λ (j : Judgement CallFault). if_so j (with_agreement fresh a) fresh) got.answer in
    let by = subst (λ (s : Session Table Table). Over ordered.meaning bytes (agreed (ordered.meaning fresh.near) (ordered.meaning fresh.far) a) sheet s) (sym left) over in
    record {
      sheet = sheet;
      houses = by.houses;
      certifies = by.certifies;
      certified_now = by.certified_now;
      holds_it = got.copied ∙ by.same;
      keeps_secrets = got.secrets;
      script_begins = refl;
    }

pub returns-in-Err : goal.returns-in-Err
returns-in-Err c =
    let fresh = c.new.result.0 in
    let N = ordered.meaning fresh.near in
    let F = ordered.meaning fresh.far in
    let offer = offered (at-returns-in-Err c).After-certify in
    agreement_refused c.args.bytes.now N F c.in_ok-sheet.sheet (certified (agreed N F c.agreement.result)) c.in-Err.field-0.fault offer.houses
    (ap certified (sym offer.same)) (sym offer.at_draft ∙ c.in-Err.ensures.answer)
