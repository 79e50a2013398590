use Rattle.std.proofs.Common.{◌≡◌, ◌-◌, ◌≤◌, suc}
use Rattle.bits.specs.Bits.{all_bits}
use Rattle.format.specs.Formats.{read}
use Rattle.format.proofs.Loops.{Passing}
use Rattle.script.specs.Scripts.{line, on_line}
use Rattle.script.proofs.reading.lines.Given as goal

abbrev pub invariant-loop-number : goal.invariant-loop-number
invariant-loop-number l =
    (l.reader.bytes ≡ l.initial.reader.bytes) × (1 ≤ l.number)
    × Passing (λ i e. on_line (suc i) e) (read line (all_bits l.initial.reader.bytes.now)) l.count l.initial.reader.at (l.number - 1) l.reader.at
