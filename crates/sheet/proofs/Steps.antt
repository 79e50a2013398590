-- The steps of opening a sheet. Assumes nothing.
use Rattle.std.proofs.Common.{◌≡◌, ℕ, List, IsErrAnd, Result, sym, subst}
use Rattle.fixed.specs.Lists.{list_of}
use Rattle.refusal.proofs.Judging.{break_is}
use Rattle.order.specs.Orders.{PartialOrder}
use Rattle.agreement.specs.Agreements.{agreed, joint}
use Rattle.agreement.specs.declared.certification.Agreement.{Agreement}
use Rattle.house.specs.declared.table.Table.{Table}
use Rattle.sheet.specs.Opening.{described, RefusedFor, Opens}
use Rattle.sheet.specs.declared.fault.SheetFault.{SheetFault}
use Rattle.sheet.specs.declared.parts.Opened.{Opened}
use Rattle.sheet.specs.declared.parts.Parts.{Parts}

-- the exit of a `?`, which passes a fault on
pub stops : (meaning : Table → PartialOrder) (bytes : List ℕ) (r : Result Opened SheetFault) (e : SheetFault) → IsErrAnd r (λ y. y ≡ e) → RefusedFor bytes e → Opens meaning bytes r
stops meaning bytes r e by why = subst (λ (x : Result Opened SheetFault). Opens meaning bytes x) (sym (break_is r e by)) why

-- the agreement that is handed on is the one that the sheet describes
pub handed_on : (N F : PartialOrder) (parts : Parts) (a : Agreement) → a.out.now ≡ list_of parts.out → a.back.now ≡ list_of parts.back → a.near_items.now ≡ list_of parts.near_items → a.far_items.now ≡ list_of parts.far_items → agreed N F a ≡ described N F parts
handed_on N F parts a p q r s = λ i. joint N F (p i) (q i) (r i) (s i)
