-- A session over the houses of a sheet, with the sheet's agreement. Assumes nothing.
use Rattle.std.proofs.Common.{◌≡◌, ℕ, List, Ok, Err, subst, arith}
use Rattle.fixed.specs.Lists.{list_of}
use Rattle.refusal.specs.Judging.{Judgement, accepted, under}
use Rattle.order.specs.Orders.{PartialOrder}
use Rattle.agreement.specs.Agreements.{Joint, agreed, joint}
use Rattle.agreement.specs.Certified.{certified}
use Rattle.agreement.specs.declared.certification.Agreement.{Agreement}
use Rattle.agreement.specs.declared.fault.Fault.{Fault}
use Rattle.house.specs.declared.table.Table.{Table}
use Rattle.machine.specs.declared.fault.CallFault.{CallFault}
use Rattle.machine.specs.declared.fault.CallFault.TheVariants.{Agreement as in_agreement}
use Rattle.machine.specs.declared.stage.Stage.TheVariants.{Certified}
use Rattle.session.specs.Records.{certify_judged}
use Rattle.session.specs.declared.record.Session.{Session}
use Rattle.sheet.specs.declared.parts.Parts.{Parts}
use Rattle.sheet.specs.declared.parts.Sheet.{Sheet}
use Rattle.sheet.specs.Opening.{described, HousesStand}
use Rattle.verdict.specs.Opening.{CallRefused}

-- the agreement that is handed on is the one that the sheet describes
pub handed_on : (N F : PartialOrder) (parts : Parts) (a : Agreement) → a.out.now ≡ list_of parts.out → a.back.now ≡ list_of parts.back → a.near_items.now ≡ list_of parts.near_items → a.far_items.now ≡ list_of parts.far_items → agreed N F a ≡ described N F parts
handed_on N F parts a p q r s = λ i. joint N F (p i) (q i) (r i) (s i)

-- a certified session over the sheet's houses, where J is the agreement that it was handed
pub record Over (meaning : Table → PartialOrder) (bytes : List ℕ) (J : Joint) (sheet : Sheet) (s : Session Table Table) : Type 0 where
  pub houses : HousesStand bytes (meaning s.near) (meaning s.far) sheet
  pub certifies : certified (described (meaning s.near) (meaning s.far) sheet.parts) ≡ accepted
  pub certified_now : s.stage ≡ Certified
  pub same : J ≡ described (meaning s.near) (meaning s.far) sheet.parts

-- a fresh session over the sheet's houses, and the sheet's agreement
pub record Offered (meaning : Table → PartialOrder) (bytes : List ℕ) (fresh : Session Table Table) (a : Agreement) (s : Sheet) : Type 0 where
  pub houses : HousesStand bytes (meaning fresh.near) (meaning fresh.far) s
  pub same : agreed (meaning fresh.near) (meaning fresh.far) a ≡ described (meaning fresh.near) (meaning fresh.far) s.parts
  pub at_draft : certify_judged fresh.stage (agreed (meaning fresh.near) (meaning fresh.far) a) ≡ under in_agreement (certified (agreed (meaning fresh.near) (meaning fresh.far) a))

-- a refused agreement
pub agreement_refused : (bytes : List ℕ) (N F : PartialOrder) (s : Sheet) (r : Judgement Fault) (y : CallFault) → HousesStand bytes N F s → certified (described N F s.parts) ≡ r → under in_agreement r ≡ Err y → CallRefused bytes y
agreement_refused bytes N F s (Ok u) y houses e q = let z : ◌≡◌ {A = ℕ} 0 1 = cc in absurd (omega arith)
agreement_refused bytes N F s (Err f) y houses e q =
    let same : in_agreement f ≡ y = cc in
    subst (λ (x : CallFault). CallRefused bytes x) same (N, F, s, houses, e)
