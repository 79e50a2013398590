use Rattle.std.proofs.Common.{length}
use Rattle.refusal.specs.Judging.{each_from}
use Rattle.refusal.proofs.Judging.{Left}
use Rattle.tables.specs.Rows.{rows_flow}
use Rattle.tables.specs.Listed.{transitive_from}
use Rattle.tables.proofs.rows.Rows.judge_transitive.Given as goal

abbrev pub invariant-loop-a : goal.invariant-loop-a
invariant-loop-a l =
    let rows = l.self.rows.now in
    let n = length rows in
    let f = transitive_from n (rows_flow rows) in
    Left f (each_from f 0 n) n l.a
