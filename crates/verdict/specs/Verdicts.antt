-- The verdict on a sheet, and how it is written out.
use Rattle.std.specs.Prelude.{◌≡◌, ℕ, List, ◌++◌, Ok, Err, codes, decimal, Result, MatchResult}
use Rattle.refusal.specs.Judging.{accepted}
use Rattle.refusal.specs.Texts.{refused_text}
use Rattle.refusal.specs.declared.refused.Refused.{Refused}
use Rattle.order.specs.Orders.{PartialOrder}
use Rattle.agreement.specs.Certified.{certified}
use Rattle.machine.specs.Calls.{script_judged}
use Rattle.machine.specs.Faults.{call_refused}
use Rattle.machine.specs.declared.script_type.ScriptType.{ScriptType}
use Rattle.sheet.specs.Verdicts.{sheet_verdict}
use Rattle.sheet.specs.declared.parts.Sheet.{Sheet}
use Rattle.sheet.specs.Opening.{described, HousesStand}
use Rattle.verdict.specs.Opening.{RefusedFor}
use Rattle.verdict.specs.declared.fault.JudgeFault.{JudgeFault}
use Rattle.verdict.specs.declared.fault.JudgeFault.TheVariants.{Sheet as in_sheet, Call}
use Rattle.verdict.specs.declared.opened.Verdict.{Verdict}
use Rattle.verdict.specs.declared.opened.Verdict.TheVariants.{Accept, Refuse}

-- what each fault of a sheet is refused with: its line, and number, side, p and q
abbrev pub judge_refused : JudgeFault → Refused
judge_refused (in_sheet e) = sheet_verdict e
judge_refused (Call e) = call_refused e

-- the sheet stands, and T is the type of its script
abbrev pub AcceptedWith : List ℕ → ScriptType → Type 0
AcceptedWith bytes T =
    (N : PartialOrder) × (F : PartialOrder) × (s : Sheet) × HousesStand bytes N F s × (certified (described N F s.parts) ≡ accepted)
    × (script_judged (described N F s.parts) bytes s.script ≡ Ok T)

-- r is the judgement of the sheet
abbrev pub Judges : List ℕ → Result ScriptType JudgeFault → Type 0
Judges bytes r = MatchResult r (AcceptedWith bytes) (RefusedFor bytes)

abbrev pub told : Result ScriptType JudgeFault → Verdict
told (Ok T) = Accept T
told (Err e) = Refuse (judge_refused e)

-- the verdict tells the judgement
abbrev pub VerdictOn : List ℕ → Verdict → Type 0
VerdictOn bytes v = (r : Result ScriptType JudgeFault) × Judges bytes r × (v ≡ told r)

-- ACCEPT and the two labels of the type, or the refusal
abbrev pub verdict_text : Verdict → List ℕ
verdict_text (Accept T) = codes "ACCEPT " ++ (decimal T.near ++ (codes " " ++ decimal T.far))
verdict_text (Refuse r) = refused_text r
