use Rattle.std.proofs.Common.{◌≡◌, ℕ, ◌+◌, min, List, Ok, sym, ◌∙◌, ap₂, arith}
use Rattle.bits.specs.Bits.{all_bits}
use Rattle.fixed.specs.Lists.{filled}
use Rattle.format.specs.Formats.{Reading, followed, read, row_at, turned}
use Rattle.format.specs.declared.fault.FieldFault.{FieldFault}
use Rattle.format.proofs.Readings.{followed_by, made_of}
use Rattle.house.specs.declared.description.House.TheVariants.{Listed}
use Rattle.sheet.specs.Parts.{listed_house}
use Rattle.sheet.specs.Sheets.{listed}
use Rattle.sheet.proofs.reading.listed.Goals as goal

pub returns-clause-reads : goal.returns-clause-reads
unfolding listed
returns-clause-reads c =
    let first = c.in_ok-count.ensures.takes.reads in
    let got = c.in_ok-rows.ensures.reads in
    let m = c.in_ok-count.field-0 in
    let q = c.field.new.reader.at in
    let all : min (m + 1) 32 ≡ m + 1 = omega (arith, c.in_ok-count.ensures.limits) in
    let row : List ℕ → ℕ → Reading FieldFault (List ℕ) = λ b n. row_at (λ i e. e) (read (turned (m + 1)) (all_bits b)) 0 n q in
    record {
      value =
          followed_by _ (λ m q. followed (row_at (λ i e. e) (read (turned (m + 1)) (all_bits c.args.reader.now.bytes.now)) 0 (m + 1) q) (λ xs r. Ok (listed_house xs, r))) m q first.value
          ∙ ap₂ (λ b n. followed (row b.now n) (λ xs r. Ok (listed_house xs, r))) (sym first.bytes) (sym all)
          ∙ made_of (filled 32 0) Listed (row c.field.new.reader.bytes.now (min (m + 1) 32)) got.value;
      bytes = got.bytes ∙ first.bytes;
    }

pub returns-clause-limits : goal.returns-clause-limits
returns-clause-limits c =
    let all = c.in_ok-rows.ensures.all in
    (omega (arith, all), omega (arith, all))
