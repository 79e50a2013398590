-- What a certified session judges of a sheet's script. Assumes nothing.
use Rattle.std.proofs.Common.{◌≡◌, ℕ, List, Ok, Err, Result, sym, refl, ap, ◌∙◌, subst, ap₂, arith}
use Rattle.order.specs.Orders.{PartialOrder}
use Rattle.agreement.specs.Agreements.{Joint}
use Rattle.house.specs.declared.table.Table.{Table}
use Rattle.machine.specs.Calls.{answer, answered, as_typed, gated, may_judge, run, run_plan, script_judged, script_writes}
use Rattle.machine.specs.Places.{Write}
use Rattle.machine.specs.declared.fault.CallFault.{CallFault}
use Rattle.machine.specs.declared.fault.CallFault.TheVariants.{Script as in_script}
use Rattle.machine.specs.declared.fault.RunFault.{RunFault}
use Rattle.machine.specs.declared.script_type.ScriptType.{ScriptType}
use Rattle.machine.specs.declared.stage.Stage.{Stage}
use Rattle.machine.specs.declared.stage.Stage.TheVariants.{Certified}
use Rattle.machine.specs.declared.values.Values.{Values}
use Rattle.session.specs.Records.{known}
use Rattle.session.proofs.Gates.{carried}
use Rattle.sheet.specs.Opening.{described}
use Rattle.verdict.specs.Opening.{CallRefused, OpenedBy}
use Rattle.verdict.specs.Verdicts.{AcceptedWith}
use Rattle.verdict.specs.declared.opened.Opened.{Opened}

-- what is answered, without the plan
untold : (v : Values) (ws : List Write) (r : Result ScriptType CallFault) (q : Result ScriptType RunFault) → as_typed r ≡ answered v (run_plan q ws) → r ≡ carried in_script q
untold v ws (Ok T) (Ok U) e = cc
untold v ws (Err y) (Err z) e = cc
untold v ws (Ok T) (Err z) e = let w : ◌≡◌ {A = ℕ} 0 1 = cc in absurd (omega arith)
untold v ws (Err y) (Ok U) e = let w : ◌≡◌ {A = ℕ} 0 1 = cc in absurd (omega arith)

judged_so : (stage : Stage) → stage ≡ Certified → (J : Joint) (v : Values) (bytes : List ℕ) (at : ℕ) (r : Result ScriptType CallFault) → as_typed r ≡ gated (may_judge stage) (answer J v (run bytes at)) → r ≡ carried in_script (script_judged J bytes at)
judged_so stage s J v bytes at r e =
    untold v (script_writes bytes at) r (script_judged J bytes at) (e ∙ ap (λ (x : Stage). gated (may_judge x) (answer J v (run bytes at))) s)

module _ (meaning : Table → PartialOrder) (bytes : List ℕ) (o : Opened) (by : OpenedBy meaning bytes o) where
  abbrev N : PartialOrder
  N = meaning o.session.near

  abbrev F : PartialOrder
  F = meaning o.session.far

  -- the script of the sheet, judged by the sheet's agreement
  same_script : script_judged (known meaning meaning o.session) bytes o.script ≡ script_judged (described N F by.sheet.parts) bytes by.sheet.script
  same_script = ap₂ (λ (J : Joint) (at : ℕ). script_judged J bytes at) by.holds_it by.script_begins

  module _ (r : Result ScriptType CallFault) (told : as_typed r ≡ gated (may_judge o.session.stage) (answer (known meaning meaning o.session) o.session.table.values (run bytes o.script))) where
    so : r ≡ carried in_script (script_judged (described N F by.sheet.parts) bytes by.sheet.script)
    so =
        judged_so o.session.stage by.certified_now (known meaning meaning o.session) o.session.table.values bytes o.script r told
        ∙ ap (carried in_script) same_script

    pub script_accepted : (T : ScriptType) → r ≡ Ok T → AcceptedWith bytes T
    script_accepted T e = (N, F, by.sheet, by.houses, by.certifies, go (script_judged (described N F by.sheet.parts) bytes by.sheet.script) (sym e ∙ so))
      where
        go : (q : Result ScriptType RunFault) → Ok T ≡ carried in_script q → q ≡ Ok T
        go (Ok U) e = cc
        go (Err y) e = let w : ◌≡◌ {A = ℕ} 0 1 = cc in absurd (omega arith)

    pub script_refused : (y : CallFault) → r ≡ Err y → CallRefused bytes y
    script_refused y e = go (script_judged (described N F by.sheet.parts) bytes by.sheet.script) refl (sym e ∙ so)
      where
        go : (q : Result ScriptType RunFault) → script_judged (described N F by.sheet.parts) bytes by.sheet.script ≡ q → Err y ≡ carried in_script q → CallRefused bytes y
        go (Ok U) i e = let w : ◌≡◌ {A = ℕ} 0 1 = cc in absurd (omega arith)
        go (Err f) i e =
            let same : in_script f ≡ y = cc in
            subst (λ (x : CallFault). CallRefused bytes x) same (N, F, by.sheet, by.houses, by.certifies, i)
