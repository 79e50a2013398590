use Rattle.std.proofs.Common.{◌≡◌, min, Ok, sym, arith, ap₂}
use Rattle.bits.specs.Bits.{all_bits}
use Rattle.format.specs.Formats.{followed, list_at, read, row_at}
use Rattle.format.proofs.Parts.{part_then}
use Rattle.agreement.specs.Rules.{no_item}
use Rattle.sheet.specs.Parts.{items_of}
use Rattle.sheet.specs.Sheets.{item, items}
use Rattle.sheet.proofs.reading.items.Goals as goal

pub returns : goal.returns
unfolding items
returns c =
    let first = c.in_ok-count.ensures.takes.reads in
    let n = c.in_ok-count.count in
    let q = c.field.new.reader.at in
    let all : min n 255 ≡ n = omega (arith, c.in_ok-count.ensures.limits) in
    part_then (λ n q. followed (row_at (λ i e. e) (read item (all_bits c.args.reader.now.bytes.now)) 0 n q) (λ xs r. Ok (items_of xs, r)))
    (list_at 255 no_item (min n 255) (read item) (all_bits c.field.new.reader.bytes.now) q)
    first.bytes first.value (ap₂ (λ b m. list_at 255 no_item m (read item) (all_bits b.now) q) (sym first.bytes) (sym all)) c.list.ensures.reads
