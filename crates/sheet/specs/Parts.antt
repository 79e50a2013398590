-- The parts of a sheet, and the lists that they keep.
use Rattle.std.specs.Prelude.{ℕ, ◌-◌, List, []}
use Rattle.fixed.specs.Lists.{list_of, filled}
use Rattle.fixed.specs.declared.list.FixedList.{FixedList}
use Rattle.agreement.specs.declared.item.Item.{Item}
use Rattle.agreement.specs.Rules.{no_item}
use Rattle.house.specs.declared.description.House.{House}
use Rattle.house.specs.declared.description.House.TheVariants.{Listed, Graded}
use Rattle.sheet.specs.declared.parts.Parts.{Parts}

-- the entries of a map, and the items of a house
abbrev pub Entries : Type 0
Entries = FixedList ℕ 64

abbrev pub Items : Type 0
Items = FixedList Item 255

-- rows, entries and items, with blanks behind them
abbrev pub listed_house : List ℕ → House
listed_house rows = Listed (filled 32 0 rows)

abbrev pub entries_of : List ℕ → Entries
entries_of xs = filled 64 0 xs

abbrev pub items_of : List Item → Items
items_of xs = filled 255 no_item xs

-- the rows of a house
abbrev pub rows_of : House → List ℕ
rows_of (Listed rows) = list_of rows
rows_of (Graded v c) = []

-- the kinds: 0 listed, 1 graded
abbrev pub kind_of : House → ℕ
kind_of (Listed rows) = 0
kind_of (Graded v c) = 1

-- one less than the rows, and one less than the levels
abbrev pub rows_less : House → ℕ
rows_less (Listed rows) = rows.count - 1
rows_less (Graded v c) = 0

abbrev pub levels_less : House → ℕ
levels_less (Listed rows) = 0
levels_less (Graded v c) = v - 1

abbrev pub compartments_of : House → ℕ
compartments_of (Listed rows) = 0
compartments_of (Graded v c) = c

abbrev pub parts_of : House → House → Entries → Entries → Items → Items → Parts
parts_of near far out back near_items far_items =
    record { near = near; far = far; out = out; back = back; near_items = near_items; far_items = far_items }
