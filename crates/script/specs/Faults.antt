-- What a fault in reading a script is refused with: the refusal of its field, in its line.
use Rattle.refusal.specs.declared.refused.Refused.{Refused}
use Rattle.format.specs.Faults.{field_refusal}
use Rattle.script.specs.declared.fault.ScriptFault.{ScriptFault}

abbrev pub script_refused : ScriptFault → Refused
script_refused e = record { line = e.line; refusal = field_refusal e.fault }
