use Rattle.std.proofs.Common.{sym, length}
use Rattle.tables.specs.Flows.{read_carries}
use Rattle.tables.specs.Rows.{flow_known}
use Rattle.tables.proofs.rows.Rows.carries.Goals as goal

pub returns : goal.returns
returns c =
    let rows = c.args.self.now.rows.now in
    let known = flow_known (length rows) rows c.args.a c.args.b (sym c.if-not-flows.ensures) in
    rw c.count.ensures (read_carries (length rows) rows c.args.a c.args.b c.args.self.now.few known.0 known.1 (sym c.if-not-flows.ensures))
