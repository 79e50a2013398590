-- What the description of a house says: its labels and their flow, and whether they are a lattice.
use Rattle.std.specs.Prelude.{◌≡◌, ℕ, ◌≤◌, Bool, ◌&&◌, Err, Result, MatchResult, nat_le}
use Rattle.fixed.specs.Lists.{list_of}
use Rattle.order.specs.Orders.{PartialOrder}
use Rattle.refusal.specs.Judging.{Judgement, accepted, ◌⨟◌, check}
use Rattle.tables.specs.Graded.{graded_flow, labels as graded_labels, Limited}
use Rattle.tables.specs.Listed.{rows_judged, LatticeRows}
use Rattle.tables.specs.Rows.{listed_flow}
use Rattle.tables.specs.declared.fault.TableFault.{TableFault}
use Rattle.tables.specs.declared.fault.TableFault.TheVariants.{Rows, Limits}
use Rattle.house.specs.declared.description.House.{House}
use Rattle.house.specs.declared.description.House.TheVariants.{Listed, Graded}

-- how many labels the house has
abbrev pub labels : House → ℕ
labels (Listed rows) = rows.count
labels (Graded levels compartments) = graded_labels levels compartments

-- label a flows to label b
abbrev pub house_flow : House → ℕ → ℕ → Bool
house_flow (Listed rows) = listed_flow rows.count (list_of rows)
house_flow (Graded levels compartments) = graded_flow levels compartments

-- the first fault of the description, if it has one
abbrev pub house_judged : House → Judgement TableFault
house_judged (Listed rows) = check (nat_le rows.count 32) Rows ⨟ rows_judged (list_of rows)
house_judged (Graded levels compartments) = check (nat_le 1 levels && nat_le levels 8 && nat_le compartments 3) (Limits levels compartments)

-- the labels are not too few or too many
abbrev pub Within : House → Type 0
Within (Listed rows) = (1 ≤ rows.count) × (rows.count ≤ 32)
Within (Graded levels compartments) = Limited levels compartments

-- the description is that of a lattice
abbrev pub IsHouse : House → Type 0
IsHouse (Listed rows) = (rows.count ≤ 32) × LatticeRows (list_of rows)
IsHouse (Graded levels compartments) = Limited levels compartments

-- the order has the labels and the flow that the house is described by
pub record Means (P : PartialOrder) (H : House) : Type 0 where
  pub counted : P.count ≡ labels H
  pub flowing : (a b : ℕ) → P.flow a b ≡ house_flow H a b

-- what making the lattice of a house answers: one that means what is described, or the fault of the description
abbrev pub Built : {T : Type 0} → (T → PartialOrder) → House → Result T TableFault → Type 0
Built meaning H r = MatchResult r (λ t. (house_judged H ≡ accepted) × Means (meaning t) H) (λ e. house_judged H ≡ Err e)
