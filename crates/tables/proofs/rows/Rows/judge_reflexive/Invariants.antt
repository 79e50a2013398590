use Rattle.std.proofs.Common.{length}
use Rattle.refusal.specs.Judging.{each_from}
use Rattle.refusal.proofs.Judging.{Left}
use Rattle.tables.specs.Rows.{rows_flow}
use Rattle.tables.specs.Listed.{reflexive_at}
use Rattle.tables.proofs.rows.Rows.judge_reflexive.Given as goal

abbrev pub invariant-loop-label : goal.invariant-loop-label
invariant-loop-label l =
    let rows = l.self.rows.now in
    let n = length rows in
    let f = reflexive_at (rows_flow rows) in
    Left f (each_from f 0 n) n l.label
