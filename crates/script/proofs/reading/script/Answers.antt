use Rattle.std.proofs.Common.{suc, sym, ap, ◌∙◌}
use Rattle.std.proofs.lemmas.Result.{err_from_is_err_and}
use Rattle.bits.specs.Bits.{all_bits}
use Rattle.format.specs.Formats.{read, many}
use Rattle.script.specs.Scripts.{line, on_line}
use Rattle.script.proofs.Passing.{script_read, script_fails, count_fails, counted}
use Rattle.script.proofs.reading.script.Goals as goal

pub returns-in_err-count : goal.returns-in_err-count
returns-in_err-count c =
    let got = c.in_err-count.ensures.takes.reads in
    let out = err_from_is_err_and c.from_residual.result c.from_residual.ensures.1 in
    record {
      value = rw (out.1, out.2) (count_fails (all_bits c.args.reader.now.bytes.now) c.args.reader.now.at c.in_err-count.field-0.0 got.value);
      bytes = got.bytes;
    }

pub returns-in_err-lines : goal.returns-in_err-lines
returns-in_err-lines c =
    let first = c.in_ok-count.ensures.takes.reads in
    let got = c.in_err-lines.ensures in
    let n = c.in_ok-count.count in
    let q = c.line_count.new.reader.at in
    let out = err_from_is_err_and c.from_residual-in_err-lines.result c.from_residual-in_err-lines.ensures.1 in
    record {
      value = rw (out.1, out.2)
          (script_fails (all_bits c.args.reader.now.bytes.now) c.args.reader.now.at n q c.in_err-lines.field-0.0 first.value
          (ap (λ b. read (many n (λ i e. on_line (suc i) e) line) (all_bits b.now) q) (sym first.bytes) ∙ got.value));
      bytes = got.bytes ∙ first.bytes;
    }

pub returns : goal.returns
returns c =
    let first = c.in_ok-count.ensures.takes.reads in
    let got = c.in_ok-lines.ensures in
    let n = c.in_ok-count.count in
    let q = c.line_count.new.reader.at in
    let bits = all_bits c.args.reader.now.bytes.now in
    let lines = ap (λ b. read (many n (λ i e. on_line (suc i) e) line) (all_bits b.now) q) (sym first.bytes) ∙ got.value.1 in
    record {
      value = (got.value.0, script_read bits c.args.reader.now.at n q got.value.0 c.lines.new.reader.at first.value lines, counted bits q n got.value.0 c.lines.new.reader.at lines);
      bytes = got.bytes ∙ first.bytes;
    }
