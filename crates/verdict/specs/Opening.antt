-- Opening a sheet: reading it, making its houses, and certifying its agreement in a session between them, in this order.
use Rattle.std.specs.Prelude.{◌≡◌, ℕ, List, Err, Result, MatchResult}
use Rattle.refusal.specs.Judging.{accepted}
use Rattle.order.specs.Orders.{PartialOrder}
use Rattle.agreement.specs.Certified.{certified}
use Rattle.house.specs.declared.table.Table.{Table}
use Rattle.machine.specs.Calls.{script_judged}
use Rattle.machine.specs.Secrets.{KeepsSecrets}
use Rattle.machine.specs.declared.fault.CallFault.{CallFault}
use Rattle.machine.specs.declared.fault.CallFault.TheVariants.{WrongStage, Agreement, Values, Step, Script}
use Rattle.machine.specs.declared.stage.Stage.TheVariants.{Certified}
use Rattle.session.specs.Records.{known}
use Rattle.sheet.specs.declared.parts.Sheet.{Sheet}
use Rattle.verdict.specs.declared.fault.JudgeFault.{JudgeFault}
use Rattle.verdict.specs.declared.fault.JudgeFault.TheVariants.{Sheet as in_sheet, Call}
use Rattle.verdict.specs.declared.opened.Opened.{Opened}
use Rattle.sheet.specs.Opening.{described, HousesStand, UnhousedFor}

-- the session is over the sheet's houses, with the sheet's agreement certified; it keeps secrets
pub record OpenedBy (meaning : Table → PartialOrder) (bytes : List ℕ) (o : Opened) : Type 0 where
  pub sheet : Sheet
  pub houses : HousesStand bytes (meaning o.session.near) (meaning o.session.far) sheet
  pub certifies : certified (described (meaning o.session.near) (meaning o.session.far) sheet.parts) ≡ accepted
  pub certified_now : o.session.stage ≡ Certified
  pub holds_it : known meaning meaning o.session ≡ described (meaning o.session.near) (meaning o.session.far) sheet.parts
  pub keeps_secrets : KeepsSecrets (known meaning meaning o.session)
  pub script_begins : o.script ≡ sheet.script

-- the agreement or the script of a sheet whose houses stand is refused so
abbrev pub CallRefused : List ℕ → CallFault → Type 0
CallRefused bytes (Agreement f) =
    (N : PartialOrder) × (F : PartialOrder) × (s : Sheet) × HousesStand bytes N F s × (certified (described N F s.parts) ≡ Err f)
CallRefused bytes (Script f) =
    (N : PartialOrder) × (F : PartialOrder) × (s : Sheet) × HousesStand bytes N F s × (certified (described N F s.parts) ≡ accepted)
    × (script_judged (described N F s.parts) bytes s.script ≡ Err f)
CallRefused bytes (WrongStage stage needed) = ⊥
CallRefused bytes (Values side needed) = ⊥
CallRefused bytes (Step f) = ⊥

-- why a sheet is refused: in reading it or making its houses, or for its agreement or its script
abbrev pub RefusedFor : List ℕ → JudgeFault → Type 0
RefusedFor bytes (in_sheet e) = UnhousedFor bytes e
RefusedFor bytes (Call e) = CallRefused bytes e

abbrev pub Opens : (Table → PartialOrder) → List ℕ → Result Opened JudgeFault → Type 0
Opens meaning bytes r = MatchResult r (OpenedBy meaning bytes) (RefusedFor bytes)
