use Rattle.std.proofs.Common.{ℕ, Bool, ap, ◌∙◌, arith}
use Rattle.tables.proofs.Kept.{flow_kept}
use Rattle.tables.proofs.ordered.OrderedOrder.flows.Goals as goal

pub returns : goal.returns
returns c =
    let t = c.args.self.now.rows in
    let rows = c.as_slice-rows.ensures in
    c.flows.ensures ∙ ap (λ (flow : ℕ → ℕ → Bool). flow c.args.a c.args.b) (flow_kept t.count t.places c.as_slice-rows.result.now rows.elements (omega (arith, rows.counted)))
