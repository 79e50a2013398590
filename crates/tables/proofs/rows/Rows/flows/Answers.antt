use Rattle.std.proofs.Common.{length, sym, ⊎_elim, arith}
use Rattle.tables.specs.Flows.{read_flow, flow_from_unknown, flow_to_unknown}
use Rattle.tables.proofs.rows.Rows.flows.Goals as goal

pub returns-then-a-count : goal.returns-then-a-count
returns-then-a-count c =
    let rows = c.args.self.now.rows.now in
    let n = length rows in
    ⊎_elim (λ h. sym (flow_from_unknown n rows c.args.a c.args.b (omega (arith, h, c.count-count.ensures))))
    (λ h. sym (flow_to_unknown n rows c.args.a c.args.b (omega (arith, h.1, c.count-count.ensures)))) c.then-a-count.either

pub returns : goal.returns
returns c =
    let rows = c.args.self.now.rows.now in
    read_flow (length rows) rows c.args.a c.args.b (omega (arith, c.if-a-count.false, c.count-count.ensures)) (omega (arith, c.if-b-count.false, c.count-count.ensures))
