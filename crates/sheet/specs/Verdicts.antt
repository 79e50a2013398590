-- What each fault of a sheet is refused with: its line, and number, side, p and q.
use Rattle.std.specs.Prelude.{ℕ, Some, None}
use Rattle.refusal.specs.declared.Refusal.{Refusal}
use Rattle.refusal.specs.declared.refused.Refused.{Refused}
use Rattle.format.specs.Faults.{field_refusal}
use Rattle.script.specs.Faults.{script_refused}
use Rattle.tables.specs.Faults.{refusal_of}
use Rattle.agreement.specs.Faults.{fault_refusal}
use Rattle.sheet.specs.declared.fault.SheetFault.{SheetFault}
use Rattle.sheet.specs.declared.fault.SheetFault.TheVariants.{TooLong, Field, Script, Trailing, House, Agreement}

abbrev on_line : ℕ → Refusal → Refused
on_line n r = record { line = n; refusal = r }

abbrev pub too_much : ℕ → Refusal
too_much at = record { number = 3; side = None; p = at; q = 0 }

abbrev pub sheet_verdict : SheetFault → Refused
sheet_verdict TooLong = on_line 0 (too_much 157272)
sheet_verdict (Field e) = on_line 0 (field_refusal e)
sheet_verdict (Script e) = script_refused e
sheet_verdict (Trailing at) = on_line 0 (too_much at)
sheet_verdict (House side e) =
    let r = refusal_of e in
    on_line 0 (record { number = r.number; side = Some side; p = r.p; q = r.q })
sheet_verdict (Agreement e) = on_line 0 (fault_refusal e)
