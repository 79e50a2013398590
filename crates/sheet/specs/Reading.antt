-- Reading a whole sheet: its limit in bytes, the format, and the zero bits behind it.
use Rattle.std.specs.Prelude.{◌≡◌, ℕ, ◌-◌, ◌<◌, ◌≤◌, Bool, false, cond, ◌&&◌, List, ◌++◌, length, drop, replicate, IfOk, Ok, Err, Result, MatchResult, ◌==◌, nat_le, nat_lt, slice_index}
use Rattle.bits.specs.Bits.{all_bits, number}
use Rattle.format.specs.Formats.{Reading, followed, inside, read, write, Writes}
use Rattle.script.specs.Scripts.{script}
use Rattle.script.specs.declared.line.Line.{Line}
use Rattle.sheet.specs.Sheets.{front, sheet}
use Rattle.sheet.specs.declared.fault.SheetFault.{SheetFault}
use Rattle.sheet.specs.declared.fault.SheetFault.TheVariants.{TooLong, Field, Script, Trailing}
use Rattle.sheet.specs.declared.parts.Parts.{Parts}
use Rattle.sheet.specs.declared.parts.Sheet.{Sheet}

-- fewer than 8 bits stand from bit q on, all zero
abbrev pub only_padding : List Bool → ℕ → Bool
only_padding bits q = nat_lt (length bits - q) 8 && number (drop q bits) == 0

-- the parts before the script, the bit where the script begins, and its lines
abbrev pub Found : Type 0
Found = Parts × (ℕ × List Line)

-- what was found, if only padding stands behind it
abbrev pub ended : List Bool → Parts → ℕ → List Line → ℕ → Reading SheetFault Found
ended bits parts p lines q = cond (only_padding bits q) (Ok ((parts, (p, lines)), q)) (Err (Trailing q))

-- a sheet of bits that is not too long: the front, the script, and only padding behind it
abbrev pub bits_read : List Bool → Reading SheetFault Found
bits_read bits =
    followed (read (inside Field front) bits 0) (λ parts p.
    followed (read (inside Script script) bits p) (λ lines q. ended bits parts p lines q))

-- the most bytes that a sheet has
abbrev pub most_bytes : ℕ
most_bytes = 19659

-- a sheet of bytes, of which there are not too many
unfoldable pub sheet_read : List ℕ → Reading SheetFault Found
sheet_read bytes = cond (nat_le (length bytes) most_bytes) (bits_read (all_bits bytes)) (Err TooLong)

-- the bytes are these parts and lines as the format writes them, with fewer than 8 zero bits behind them
pub record SheetOf (bytes : List ℕ) (parts : Parts) (lines : List Line) : Type 0 where
  pub short : length bytes ≤ most_bytes
  pub can : Writes sheet (parts, lines)
  pub zeros : ℕ
  pub few : zeros < 8
  pub bits : all_bits bytes ≡ write sheet (parts, lines) ++ replicate zeros false

-- r is what reading the bytes answers
abbrev pub ReadsSheet : List ℕ → Result Sheet SheetFault → Type 0
ReadsSheet bytes r =
    MatchResult r (λ s. (ls : List Line) × (q : ℕ) × (sheet_read bytes ≡ Ok ((s.parts, (s.script, ls)), q)) × (length ls ≡ s.lines)) (λ e. sheet_read bytes ≡ Err e)

-- whatever parts and lines the bytes are the writing of, these parts and so many lines are answered
abbrev pub IsRead : List ℕ → Result Sheet SheetFault → Type 0
IsRead bytes r = (parts : Parts) (ls : List Line) → SheetOf bytes parts ls → MatchResult r (λ s. (s.parts ≡ parts) × (length ls ≡ s.lines)) (λ _. ⊥)

-- the parts that are answered, and as many lines as are answered, are what the bytes are the writing of
abbrev pub IsWritten : List ℕ → Result Sheet SheetFault → Type 0
IsWritten bytes r = IfOk r (λ s. (ls : List Line) × SheetOf bytes s.parts ls × (length ls ≡ s.lines))

-- every element is a byte
abbrev pub AreBytes : List ℕ → Type 0
AreBytes bytes = (i : ℕ) → slice_index bytes i < 256

-- no other bytes are the writing of the same parts and lines
abbrev pub Alone : List ℕ → Type 0
Alone bytes =
    (parts : Parts) (ls : List Line) (others : List ℕ) → AreBytes others → SheetOf others parts ls → SheetOf bytes parts ls → others ≡ bytes
