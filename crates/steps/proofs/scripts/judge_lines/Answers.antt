use Rattle.std.proofs.Common.{◌+◌, [], ◌∷◌, ◌++◌, refl, arith}
use Rattle.refusal.proofs.Judging.{break_is}
use Rattle.agreement.specs.Agreements.{joined}
use Rattle.steps.proofs.Accepting.{judged_push}
use Rattle.steps.proofs.Rereading.{counted, uncounted, lines_start, lines_more, script_stops, script_ends}
use Rattle.steps.proofs.scripts.judge_lines.Goals as goal

pub returns-in_err-count : goal.returns-in_err-count
returns-in_err-count g c =
    rw (break_is _ _ c.from_residual.ensures.1) (uncounted c.new-reader.result c.new-reader.ensures.bytes c.new-reader.ensures.at _ c.in_err-count.ensures.takes.reads.value)

pub loop-number-init : goal.loop-number-init
loop-number-init g c = ([], lines_start c.in_ok-count.count c.line_count.new.reader, (refl, c.none_judged.ensures))

pub returns-in_err-line : goal.returns-in_err-line
returns-in_err-line g c =
    let whole = counted c.new-reader.result c.new-reader.ensures.bytes c.new-reader.ensures.at c.in_ok-count.count c.line_count.new.reader c.in_ok-count.ensures.takes.reads.bytes c.in_ok-count.ensures.takes.reads.value in
    rw (break_is _ _ c.from_residual-in_err-line.ensures.1)
    (script_stops whole _ _ c.loop-number.invariant.0 _ c.loop-number-test.true c.in_err-line.ensures.reads.value c.loop-number.invariant.1)

pub loop-number-preserved : goal.loop-number-preserved
loop-number-preserved g c =
    let J = joined g.N.Order.meaning g.F.Order.meaning c.args.houses.now in
    let ls = c.loop-number.invariant.0 in
    let so_far = c.loop-number.invariant.1 in
    let got = c.in_ok-line.ensures.reads in
    let l = c.in_ok-line.line in (
      ls ++ l ∷ [],
      lines_more c.in_ok-count.count c.line_count.new.reader c.loop-number.number c.loop-number.reader c.numbered_line.new.reader ls l
          c.loop-number-test.true got.value got.bytes so_far,
      judged_push J ls l c.loop-number.number c.loop-number.judged c.judge_next-judged.result
          so_far.next c.loop-number.invariant.2 c.judge_next-judged.ensures,
    )

pub returns-in_ok-count : goal.returns-in_ok-count
returns-in_ok-count g c =
    let whole = counted c.new-reader.result c.new-reader.ensures.bytes c.new-reader.ensures.at c.in_ok-count.count c.line_count.new.reader c.in_ok-count.ensures.takes.reads.bytes c.in_ok-count.ensures.takes.reads.value in
    (c.loop-number.invariant.0, c.loop-number.reader.at, script_ends whole _ _ c.loop-number.invariant.0 c.loop-number-test.false c.loop-number.invariant.1, c.loop-number.invariant.2)

pub returns-in_ok-line : goal.returns-in_ok-line
returns-in_ok-line g c =
    let J = joined g.N.Order.meaning g.F.Order.meaning c.args.houses.now in
    let whole = counted c.new-reader.result c.new-reader.ensures.bytes c.new-reader.ensures.at c.in_ok-count.count c.line_count.new.reader c.in_ok-count.ensures.takes.reads.bytes c.in_ok-count.ensures.takes.reads.value in
    let ls = c.loop-number.invariant.0 in
    let so_far = c.loop-number.invariant.1 in
    let got = c.in_ok-line.ensures.reads in
    let l = c.in_ok-line.line in
    let after = c.numbered_line.new.reader in
    let all = lines_more c.in_ok-count.count c.line_count.new.reader c.loop-number.number c.loop-number.reader after ls l c.loop-number-test.true got.value got.bytes so_far in (
      ls ++ l ∷ [],
      after.at,
      script_ends whole (c.loop-number.number + 1) after (ls ++ l ∷ []) (omega arith) all,
      judged_push J ls l c.loop-number.number c.loop-number.judged c.judge_next-judged.result so_far.next c.loop-number.invariant.2 c.judge_next-judged.ensures,
    )
