-- Why the houses of a sheet are not made: what reading answers, and what its houses do. Assumes nothing.
use Rattle.std.proofs.Common.{ℕ, Bool, true, false, cond, List, length, leb, Ok, Err, MatchResult, subst}
use Rattle.bits.specs.Bits.{all_bits}
use Rattle.format.specs.Formats.{Reading, followed, under, inside, read}
use Rattle.format.specs.declared.fault.FieldFault.{FieldFault}
use Rattle.refusal.specs.declared.Side.TheVariants.{Near, Far}
use Rattle.script.specs.Scripts.{script}
use Rattle.script.specs.declared.fault.ScriptFault.{ScriptFault}
use Rattle.script.specs.declared.line.Line.{Line}
use Rattle.sheet.specs.Opening.{HousesJudgedSo, JudgedSo, UnhousedFor}
use Rattle.sheet.specs.Reading.{bits_read, ended, Found, only_padding, ReadsSheet, sheet_read}
use Rattle.sheet.specs.Sheets.{front}
use Rattle.sheet.specs.declared.fault.SheetFault.{SheetFault}
use Rattle.sheet.specs.declared.fault.SheetFault.TheVariants.{TooLong, Field, Script, Trailing, House, Agreement}
use Rattle.sheet.specs.declared.parts.Parts.{Parts}
use Rattle.sheet.specs.declared.parts.Sheet.{Sheet}

-- the faults that reading has
abbrev OfReading : SheetFault → Type 0
OfReading TooLong = Unit {0}
OfReading (Field e) = Unit {0}
OfReading (Script e) = Unit {0}
OfReading (Trailing at) = Unit {0}
OfReading (House side f) = ⊥
OfReading (Agreement f) = ⊥

abbrev Known : Reading SheetFault Found → Type 0
Known r = MatchResult r (λ _. Unit {0}) OfReading

ended_known : (b : Bool) (x : Found × ℕ) (q : ℕ) → Known (cond b (Ok x) (Err (Trailing q)))
ended_known true x q = tt
ended_known false x q = tt

script_known : (r : Reading ScriptFault (List Line)) (next : List Line → ℕ → Reading SheetFault Found) → ((ls : List Line) (q : ℕ) → Known (next ls q)) → Known (followed (under Script r) next)
script_known (Ok x) next so = so x.0 x.1
script_known (Err e) next so = tt

front_known : (r : Reading FieldFault Parts) (next : Parts → ℕ → Reading SheetFault Found) → ((parts : Parts) (p : ℕ) → Known (next parts p)) → Known (followed (under Field r) next)
front_known (Ok x) next so = so x.0 x.1
front_known (Err e) next so = tt

bits_known : (bits : List Bool) → Known (bits_read bits)
bits_known bits =
    front_known (read front bits 0) (λ parts p. followed (read (inside Script script) bits p) (λ ls q. ended bits parts p ls q))
    (λ parts p. script_known (read script bits p) (λ ls q. ended bits parts p ls q) (λ ls q. ended_known (only_padding bits q) ((parts, (p, ls)), q) q))

short_known : (b : Bool) (r : Reading SheetFault Found) → Known r → Known (cond b r (Err TooLong))
short_known true r so = so
short_known false r so = tt

sheet_known : (bytes : List ℕ) → Known (sheet_read bytes)
unfolding sheet_read
sheet_known bytes = short_known (leb (length bytes) 19659) (bits_read (all_bits bytes)) (bits_known (all_bits bytes))

-- a fault of reading
pub unread : (bytes : List ℕ) (e : SheetFault) → ReadsSheet bytes (Err e) → UnhousedFor bytes e
unread bytes TooLong h = h
unread bytes (Field e) h = h
unread bytes (Script e) h = h
unread bytes (Trailing at) h = h
unread bytes (House side f) h = absurd (subst Known h (sheet_known bytes))
unread bytes (Agreement f) h = absurd (subst Known h (sheet_known bytes))

-- a fault of the houses
pub unhoused : (bytes : List ℕ) (s : Sheet) (e : SheetFault) → ReadsSheet bytes (Ok s) → HousesJudgedSo s.parts e → UnhousedFor bytes e
unhoused bytes s TooLong h so = absurd so
unhoused bytes s (Field e) h so = absurd so
unhoused bytes s (Script e) h so = absurd so
unhoused bytes s (Trailing at) h so = absurd so
unhoused bytes s (House side f) h so = (s, h, so)
unhoused bytes s (Agreement f) h so = absurd so

pub judged_so : (parts : Parts) (e : SheetFault) → HousesJudgedSo parts e → JudgedSo parts e
judged_so parts TooLong so = absurd so
judged_so parts (Field e) so = absurd so
judged_so parts (Script e) so = absurd so
judged_so parts (Trailing at) so = absurd so
judged_so parts (House Near f) so = so
judged_so parts (House Far f) so = so
judged_so parts (Agreement f) so = absurd so
