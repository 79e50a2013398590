use Rattle.std.proofs.Common.{◌≡◌, List}
use Rattle.script.specs.declared.line.Line.{Line}
use Rattle.machine.specs.Places.{all_written}
use Rattle.steps.proofs.Rereading.{LinesRead}
use Rattle.steps.proofs.Running.{line_writes}
use Rattle.steps.proofs.scripts.do_script.Given as goal

abbrev pub invariant-loop-number : goal.invariant-loop-number
invariant-loop-number l =
    (ls : List Line)
    × LinesRead l.count l.initial.reader l.number l.reader ls
    × (l.values ≡ all_written l.initial.values (line_writes ls))
