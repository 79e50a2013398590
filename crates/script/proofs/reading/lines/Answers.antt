use Rattle.std.proofs.Common.{◌≡◌, ℕ, suc, ◌+◌, ◌-◌, sym, ap, ◌∙◌, subst, arith}
use Rattle.bits.specs.Bits.{all_bits}
use Rattle.format.specs.Formats.{read, under}
use Rattle.format.proofs.Loops.{Passing, passing_more}
use Rattle.script.specs.Scripts.{line, on_line}
use Rattle.script.proofs.reading.lines.Goals as goal

pub loop-number-preserved : goal.loop-number-preserved
loop-number-preserved c =
    let p = c.loop-number.reader.at in
    let n = c.loop-number.number in
    let kept = c.loop-number.invariant in
    let got = c.in_ok-numbered_line.ensures in
    let up : suc (n - 1) ≡ n = omega (arith, kept.1) in
    let next : n - 1 + 1 ≡ n + 1 - 1 = omega (arith, kept.1) in (
      got.reads.bytes ∙ kept.0,
      (omega arith),
      subst (λ k. Passing (λ i e. on_line (suc i) e) (read line (all_bits c.args.reader.now.bytes.now)) c.args.count c.args.reader.now.at k c.numbered_line.new.reader.at) next
          (passing_more (λ i e. on_line (suc i) e) (read line (all_bits c.args.reader.now.bytes.now)) c.args.count c.args.reader.now.at (n - 1) p
          c.in_ok-numbered_line.field-0 c.numbered_line.new.reader.at (omega (arith, kept.1, c.loop-number-test.true))
          (ap (λ (k : ℕ). under (on_line k) (read line (all_bits c.args.reader.now.bytes.now) p)) up
          ∙ ap (λ b. under (on_line n) (read line (all_bits b.now) p)) (sym kept.0) ∙ got.reads.value) kept.2),
    )
