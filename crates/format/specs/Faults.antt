-- What a fault in reading is refused with: number, side, p and q.
use Rattle.std.specs.Prelude.{None}
use Rattle.refusal.specs.declared.Refusal.{Refusal}
use Rattle.format.specs.declared.fault.FieldFault.{FieldFault}
use Rattle.format.specs.declared.fault.FieldFault.TheVariants.{Lacking, NotAllowed}

abbrev pub field_refusal : FieldFault → Refusal
field_refusal (Lacking at) = record { number = 1; side = None; p = at; q = 0 }
field_refusal (NotAllowed at value) = record { number = 2; side = None; p = at; q = value }
