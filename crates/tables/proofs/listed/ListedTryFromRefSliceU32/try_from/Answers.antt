use Rattle.std.proofs.Common.{◌≡◌, ℕ, List, length, is_ok, IsErrAnd, Err, Decides, Result, sym, refl, MatchResult}
use Rattle.order.specs.declared.bound.Bound.{Bound}
use Rattle.order.specs.declared.bound.Bound.TheVariants.{Join, Meet}
use Rattle.refusal.specs.Judging.{accepted, ◌⨟◌}
use Rattle.refusal.proofs.Fitting.{decides_fits}
use Rattle.refusal.proofs.Judging.{break_is, then_at}
use Rattle.tables.specs.contracts.ordered.OrderedOrder.TheImpl.{ghosts as ordered}
use Rattle.tables.specs.Bounded.{bounds_judged}
use Rattle.tables.specs.Rows.{rows_flow}
use Rattle.tables.specs.Listed.{rows_judged, LatticeRows}
use Rattle.tables.specs.Lattices.{judged_lattice, judged_on, lattice_fits}
use Rattle.tables.specs.declared.fault.TableFault.{TableFault}
use Rattle.tables.proofs.listed.ListedTryFromRefSliceU32.try_from.Goals as goal

-- what is returned where a fault is passed on
passed_on : {T : Type 0} (rows : List ℕ) (Q : T → Type 0) (x : TableFault) (r : Result T TableFault) → IsErrAnd r (λ y. y ≡ x) → rows_judged rows ≡ Err x →
    MatchResult r Q (λ e. rows_judged rows ≡ Err e) × Decides (is_ok r) (LatticeRows rows)
passed_on rows Q x r by judged = rw (break_is r x by) (judged, decides_fits (Err x) (sym judged) (lattice_fits rows))

pub returns-in_err-table : goal.returns-in_err-table
returns-in_err-table c =
    let rows = c.args.rows.now in
    let judged = λ (w : Bound). bounds_judged w (length rows) (rows_flow rows) in
    passed_on rows _ c.in_err-table.field-0.0 c.from_residual.result c.from_residual.ensures.1 (then_at (judged Join ⨟ judged Meet) c.in_err-table.ensures)

pub returns-in_err-judge_bounds : goal.returns-in_err-judge_bounds
returns-in_err-judge_bounds c =
    let t = c.in_ok-table.table in
    let held = c.in_ok-table.ensures in
    passed_on c.args.rows.now _ c.in_err-judge_bounds.field-0.0 c.from_residual-in_err-judge_bounds.result c.from_residual-in_err-judge_bounds.ensures.1
    (judged_on c.args.rows.now t.rows.count t.rows.places held.1 held.0 (Err c.in_err-judge_bounds.field-0.0) _ c.in_err-judge_bounds.ensures refl)

pub returns-in_err-judge_bounds-2 : goal.returns-in_err-judge_bounds-2
returns-in_err-judge_bounds-2 c =
    let t = c.in_ok-table.table in
    let held = c.in_ok-table.ensures in
    passed_on c.args.rows.now _ c.in_err-judge_bounds-2.field-0.0 c.from_residual-in_err-judge_bounds-2.result c.from_residual-in_err-judge_bounds-2.ensures.1
    (judged_on c.args.rows.now t.rows.count t.rows.places held.1 held.0 accepted (Err c.in_err-judge_bounds-2.field-0.0) c.in_ok-judge_bounds.ensures c.in_err-judge_bounds-2.ensures)

pub invariant_of-result : goal.invariant_of-result
invariant_of-result c =
    record { lattice = ∣ judged_lattice (ordered.meaning c.in_ok-table.table) c.in_ok-judge_bounds.ensures c.in_ok-judge_bounds-2.ensures ∣₁ }

pub returns : goal.returns
returns c =
    let rows = c.args.rows.now in
    let t = c.in_ok-table.table in
    let held = c.in_ok-table.ensures in
    let judged = judged_on rows t.rows.count t.rows.places held.1 held.0 accepted accepted c.in_ok-judge_bounds.ensures c.in_ok-judge_bounds-2.ensures in
    ((judged, held.1), decides_fits accepted (sym judged) (lattice_fits rows))
