use Rattle.std.proofs.Common.{length}
use Rattle.refusal.proofs.Judging.{Left}
use Rattle.tables.specs.Rows.{rows_flow}
use Rattle.tables.specs.Bounded.{each_after}
use Rattle.tables.specs.Listed.{antisymmetric_at}
use Rattle.tables.proofs.rows.Rows.judge_antisymmetric_after.Given as goal

abbrev pub invariant-loop-b : goal.invariant-loop-b
invariant-loop-b l =
    let rows = l.self.rows.now in
    let n = length rows in
    let f = antisymmetric_at (rows_flow rows) in
    Left (f l.a) (each_after f n l.a) n l.b
