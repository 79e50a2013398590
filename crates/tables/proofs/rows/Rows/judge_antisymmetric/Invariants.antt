use Rattle.std.proofs.Common.{length}
use Rattle.refusal.proofs.Judging.{Left}
use Rattle.tables.specs.Rows.{rows_flow}
use Rattle.tables.specs.Bounded.{each_after, each_pair}
use Rattle.tables.specs.Listed.{antisymmetric_at}
use Rattle.tables.proofs.rows.Rows.judge_antisymmetric.Given as goal

abbrev pub invariant-loop-a : goal.invariant-loop-a
invariant-loop-a l =
    let rows = l.self.rows.now in
    let n = length rows in
    let f = antisymmetric_at (rows_flow rows) in
    Left (each_after f n) (each_pair f n) n l.a
