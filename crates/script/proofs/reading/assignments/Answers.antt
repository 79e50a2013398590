use Rattle.std.proofs.Common.{◌≡◌, min, Ok, sym, arith, ap₂}
use Rattle.bits.specs.Bits.{all_bits}
use Rattle.format.specs.Formats.{followed, list_at, read, row_at}
use Rattle.format.proofs.Parts.{part_then}
use Rattle.script.specs.Lines.{batch, blank}
use Rattle.script.specs.Scripts.{assignment, assignments}
use Rattle.script.proofs.reading.assignments.Goals as goal

pub returns : goal.returns
unfolding assignments
returns c =
    let first = c.in_ok-count.ensures.takes.reads in
    let n = c.in_ok-count.count in
    let q = c.field.new.reader.at in
    let all : min n 8 ≡ n = omega (arith, c.in_ok-count.ensures.limits) in
    part_then (λ n q. followed (row_at (λ i e. e) (read assignment (all_bits c.args.reader.now.bytes.now)) 0 n q) (λ xs r. Ok (batch xs, r)))
    (list_at 8 blank (min n 8) (read assignment) (all_bits c.field.new.reader.bytes.now) q)
    first.bytes first.value (ap₂ (λ b m. list_at 8 blank m (read assignment) (all_bits b.now) q) (sym first.bytes) (sym all)) c.list.ensures.reads
