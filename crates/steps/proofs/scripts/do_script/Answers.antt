use Rattle.std.proofs.Common.{◌+◌, [], ◌∷◌, ◌++◌, ap, ◌∙◌, arith}
use Rattle.machine.specs.Places.{all_written}
use Rattle.steps.proofs.Rereading.{counted, uncounted, lines_more, script_stops, script_ends}
use Rattle.steps.proofs.Running.{not_failed, writes_are, written_push}
use Rattle.steps.proofs.scripts.do_script.Goals as goal

pub returns-in_default : goal.returns-in_default
returns-in_default c =
    absurd (not_failed (uncounted c.new-reader.result c.new-reader.ensures.bytes c.new-reader.ensures.at c.in_default.field-0 c.in_default.ensures.takes.reads.value) c.requires)

pub returns-in_default-numbered_line : goal.returns-in_default-numbered_line
returns-in_default-numbered_line c =
    let first = c.in-Ok.ensures.takes.reads in
    let whole = counted c.new-reader.result c.new-reader.ensures.bytes c.new-reader.ensures.at c.in-Ok.count c.line_count.new.reader first.bytes first.value in
    absurd (not_failed (script_stops whole _ _ c.loop-number.invariant.0 _ (omega arith) c.in_default-numbered_line.ensures.reads.value c.loop-number.invariant.1) c.requires)

pub loop-number-preserved : goal.loop-number-preserved
loop-number-preserved c =
    let ls = c.loop-number.invariant.0 in
    let got = c.in-Ok-numbered_line.ensures.reads in
    let l = c.in-Ok-numbered_line.line in (
      ls ++ l ∷ [],
      lines_more c.in-Ok.count c.line_count.new.reader c.loop-number.number c.loop-number.reader c.numbered_line.new.reader ls l
          (omega arith) got.value got.bytes c.loop-number.invariant.1,
      written_push c.args.values.now c.loop-number.values c.do_line.new.values ls l c.loop-number.invariant.2 c.do_line.ensures,
    )

pub returns-in-Ok : goal.returns-in-Ok
returns-in-Ok c =
    let first = c.in-Ok.ensures.takes.reads in
    let whole = counted c.new-reader.result c.new-reader.ensures.bytes c.new-reader.ensures.at c.in-Ok.count c.line_count.new.reader first.bytes first.value in
    c.loop-number.invariant.2
    ∙ ap (all_written c.args.values.now) (writes_are c.args.bytes.now c.args.at c.loop-number.invariant.0 c.loop-number.reader.at
    (script_ends whole c.loop-number.number c.loop-number.reader c.loop-number.invariant.0 c.loop-number-test.false c.loop-number.invariant.1))

pub returns-in-Ok-numbered_line : goal.returns-in-Ok-numbered_line
returns-in-Ok-numbered_line c =
    let first = c.in-Ok.ensures.takes.reads in
    let whole = counted c.new-reader.result c.new-reader.ensures.bytes c.new-reader.ensures.at c.in-Ok.count c.line_count.new.reader first.bytes first.value in
    let ls = c.loop-number.invariant.0 in
    let got = c.in-Ok-numbered_line.ensures.reads in
    let l = c.in-Ok-numbered_line.line in
    let after = c.numbered_line.new.reader in
    let all = lines_more c.in-Ok.count c.line_count.new.reader c.loop-number.number c.loop-number.reader after ls l (omega arith) got.value got.bytes c.loop-number.invariant.1 in
    written_push c.args.values.now c.loop-number.values c.do_line.new.values ls l c.loop-number.invariant.2 c.do_line.ensures
    ∙ ap (all_written c.args.values.now) (writes_are c.args.bytes.now c.args.at (ls ++ l ∷ []) after.at
    (script_ends whole (c.loop-number.number + 1) after (ls ++ l ∷ []) (omega arith) all))
