-- Opening a sheet: reading it, making its houses, and certifying its agreement, in this order.
use Rattle.std.specs.Prelude.{◌≡◌, ℕ, ◌⊎◌, List, Ok, Err, Result, MatchResult}
use Rattle.fixed.specs.Lists.{list_of}
use Rattle.refusal.specs.Judging.{accepted}
use Rattle.refusal.specs.declared.Side.{Side}
use Rattle.refusal.specs.declared.Side.TheVariants.{Near, Far}
use Rattle.order.specs.Orders.{PartialOrder}
use Rattle.agreement.specs.Agreements.{Joint, joint}
use Rattle.agreement.specs.Certified.{certified, Holds}
use Rattle.house.specs.Houses.{house_judged, Means}
use Rattle.house.specs.declared.description.House.{House as Described}
use Rattle.house.specs.declared.table.Table.{Table}
use Rattle.tables.specs.declared.fault.TableFault.{TableFault}
use Rattle.sheet.specs.Reading.{ReadsSheet}
use Rattle.sheet.specs.declared.fault.SheetFault.{SheetFault}
use Rattle.sheet.specs.declared.fault.SheetFault.TheVariants.{TooLong, Field, Script, Trailing, House, Agreement}
use Rattle.sheet.specs.declared.parts.Opened.{Opened}
use Rattle.sheet.specs.declared.parts.Parts.{Parts}
use Rattle.sheet.specs.declared.parts.Sheet.{Sheet}

-- the agreement that a sheet describes, between two orders
abbrev pub described : PartialOrder → PartialOrder → Parts → Joint
described N F parts =
    joint N F (list_of parts.out) (list_of parts.back) (list_of parts.near_items) (list_of parts.far_items)

-- r is the lattice that a house describes, or its fault with its side
abbrev pub Made : (Table → PartialOrder) → Side → Described → Result Table SheetFault → Type 0
Made meaning side H r =
    MatchResult r (λ t. (house_judged H ≡ accepted) × Means (meaning t) H) (λ e. (f : TableFault) × (e ≡ House side f) × (house_judged H ≡ Err f))

-- the sheet was read, and its houses are those of two orders
pub record HousesStand (bytes : List ℕ) (N F : PartialOrder) (s : Sheet) : Type 0 where
  pub read : ReadsSheet bytes (Ok s)
  pub near_lawful : house_judged s.parts.near ≡ accepted
  pub far_lawful : house_judged s.parts.far ≡ accepted
  pub near : Means N s.parts.near
  pub far : Means F s.parts.far

-- the sheet was read, its lattices mean its houses, and its agreement holds
pub record OpenedBy (meaning : Table → PartialOrder) (bytes : List ℕ) (o : Opened) : Type 0 where
  pub read : ReadsSheet bytes (Ok o.sheet)
  pub near : Means (meaning o.near) o.sheet.parts.near
  pub far : Means (meaning o.far) o.sheet.parts.far
  pub certifies : certified (described (meaning o.near) (meaning o.far) o.sheet.parts) ≡ accepted
  pub holds : Holds (described (meaning o.near) (meaning o.far) o.sheet.parts)

-- why the houses of a sheet that was read are not made: its near house, or its far house
abbrev pub HousesJudgedSo : Parts → SheetFault → Type 0
HousesJudgedSo parts TooLong = ⊥
HousesJudgedSo parts (Field e) = ⊥
HousesJudgedSo parts (Script e) = ⊥
HousesJudgedSo parts (Trailing at) = ⊥
HousesJudgedSo parts (House Near f) = house_judged parts.near ≡ Err f
HousesJudgedSo parts (House Far f) = (house_judged parts.near ≡ accepted) × (house_judged parts.far ≡ Err f)
HousesJudgedSo parts (Agreement f) = ⊥

-- r is the lattices of both houses, or why they are not made
abbrev pub BothMade : (Table → PartialOrder) → Parts → Result (Table × Table) SheetFault → Type 0
BothMade meaning parts r =
    MatchResult r
    (λ t. (house_judged parts.near ≡ accepted) × (house_judged parts.far ≡ accepted) × Means (meaning t.0) parts.near × Means (meaning t.1) parts.far)
    (HousesJudgedSo parts)

-- why a sheet that was read is not opened: its near house, its far house, or its agreement
abbrev pub JudgedSo : Parts → SheetFault → Type 0
JudgedSo parts TooLong = ⊥
JudgedSo parts (Field e) = ⊥
JudgedSo parts (Script e) = ⊥
JudgedSo parts (Trailing at) = ⊥
JudgedSo parts (House Near f) = house_judged parts.near ≡ Err f
JudgedSo parts (House Far f) = (house_judged parts.near ≡ accepted) × (house_judged parts.far ≡ Err f)
JudgedSo parts (Agreement f) =
    (house_judged parts.near ≡ accepted) × (house_judged parts.far ≡ accepted)
    × (N : PartialOrder) × (F : PartialOrder) × Means N parts.near × Means F parts.far × (certified (described N F parts) ≡ Err f)

-- it cannot be read, or it was read and then judged so
abbrev pub RefusedFor : List ℕ → SheetFault → Type 0
RefusedFor bytes e = ReadsSheet bytes (Err e) ⊎ ((s : Sheet) × ReadsSheet bytes (Ok s) × JudgedSo s.parts e)

abbrev pub Opens : (Table → PartialOrder) → List ℕ → Result Opened SheetFault → Type 0
Opens meaning bytes r = MatchResult r (OpenedBy meaning bytes) (RefusedFor bytes)

-- the same before the agreement is looked at: it cannot be read, or it was read and a house of it is not made
abbrev pub UnhousedFor : List ℕ → SheetFault → Type 0
UnhousedFor bytes TooLong = ReadsSheet bytes (Err TooLong)
UnhousedFor bytes (Field e) = ReadsSheet bytes (Err (Field e))
UnhousedFor bytes (Script e) = ReadsSheet bytes (Err (Script e))
UnhousedFor bytes (Trailing at) = ReadsSheet bytes (Err (Trailing at))
UnhousedFor bytes (House side f) = (s : Sheet) × ReadsSheet bytes (Ok s) × HousesJudgedSo s.parts (House side f)
UnhousedFor bytes (Agreement f) = ⊥

abbrev pub OpensHouses : (Table → PartialOrder) → List ℕ → Result Opened SheetFault → Type 0
OpensHouses meaning bytes r = MatchResult r (λ o. HousesStand bytes (meaning o.near) (meaning o.far) o.sheet) (UnhousedFor bytes)
