use Rattle.std.proofs.Common.{sym, ap, ◌∙◌, inr}
use Rattle.agreement.specs.Certified.{certified}
use Rattle.house.specs.contracts.table.TableOrder.TheImpl.{ghosts as ordered}
use Rattle.sheet.specs.declared.fault.SheetFault.TheVariants.{Agreement}
use Rattle.sheet.proofs.Steps.{stops, handed_on}
use Rattle.sheet.proofs.opening.open_sheet.Goals as goal

pub returns-in_err-certify : goal.returns-in_err-certify
returns-in_err-certify c =
    let s = c.in_ok-sheet.sheet in
    let made = c.in_ok-near.ensures in
    let N = ordered.meaning c.in_ok-near.near in
    let F = ordered.meaning c.in_ok-near.far in
    let a = c.agreement-agreement.ensures in
    let same = handed_on N F s.parts c.agreement-agreement.result a.out a.back a.near_items a.far_items in
    stops ordered.meaning c.args.bytes.now c.from_residual-in_err-certify.result (Agreement c.in_err-certify.field-0.0) c.from_residual-in_err-certify.ensures.1
    (inr (
      s,
      c.in_ok-sheet.ensures.value,
      (made.0, made.1, N, F, made.2, made.3, ap certified (sym same) ∙ sym c.in_err-certify.ensures.verdict),
    ))
