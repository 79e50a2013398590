use Rattle.std.proofs.Common.{length}
use Rattle.refusal.proofs.Judging.{Left}
use Rattle.tables.specs.Rows.{rows_flow}
use Rattle.tables.specs.Listed.{transitive_at, transitive_from}
use Rattle.tables.proofs.rows.Rows.judge_transitive_at.Given as goal

abbrev pub invariant-loop-b : goal.invariant-loop-b
invariant-loop-b l =
    let rows = l.self.rows.now in
    let n = length rows in
    let flow = rows_flow rows in
    Left (transitive_at n flow l.a) (transitive_from n flow l.a) n l.b
