use Rattle.std.proofs.Common.{List}
use Rattle.agreement.specs.Agreements.{joined}
use Rattle.script.specs.declared.line.Line.{Line}
use Rattle.steps.specs.Folds.{JudgedSo}
use Rattle.steps.proofs.Rereading.{LinesRead}
use Rattle.steps.proofs.scripts.judge_lines.Given as goal

abbrev pub invariant-loop-number : goal.invariant-loop-number
invariant-loop-number g l =
    let J = joined g.N.Order.meaning g.F.Order.meaning l.houses in
    (ls : List Line) × LinesRead l.count l.initial.reader l.number l.reader ls × JudgedSo J ls l.judged
