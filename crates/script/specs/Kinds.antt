-- The kinds of lines by their numbers, as a reader finds them.
use Rattle.std.specs.Prelude.{◌≡◌, ℕ, Ok, Err, Result}
use Rattle.bits.specs.Bits.{all_bits}
use Rattle.bits.specs.declared.reader.Reader.{Reader}
use Rattle.format.specs.Formats.{field, read, Yields}
use Rattle.format.specs.declared.fault.FieldFault.{FieldFault}
use Rattle.refusal.specs.declared.Side.TheVariants.{Near, Far}
use Rattle.script.specs.declared.reading.LineKind.{LineKind}
use Rattle.script.specs.declared.reading.LineKind.TheVariants.{Compute, Fetch, Store, Outward, Inward}

abbrev pub kind_number : LineKind → ℕ
kind_number (Compute Near) = 0
kind_number (Compute Far) = 1
kind_number (Fetch Near) = 2
kind_number (Fetch Far) = 3
kind_number (Store Near) = 4
kind_number (Store Far) = 5
kind_number Outward = 6
kind_number Inward = 7

-- r is the kind whose number is read where a reader stands, and the reader stands behind it afterwards
abbrev pub ReadsKind : Reader → Result LineKind FieldFault → Reader → Type 0
ReadsKind before r after =
    let number = read (field 3 0 7) (all_bits before.bytes.now) before.at in
    Yields (λ k. number ≡ Ok (kind_number k, after.at)) (λ e. number ≡ Err e) before r after
