-- The format of a sheet, field by field.
use Rattle.std.specs.Prelude.{ℕ, ◌+◌, List, ◌==◌}
use Rattle.fixed.specs.Lists.{list_of}
use Rattle.format.specs.Formats.{Format, done, field, turned, part, either, inside, many}
use Rattle.format.specs.declared.fault.FieldFault.{FieldFault}
use Rattle.script.specs.Scripts.{script}
use Rattle.script.specs.declared.line.Line.{Line}
use Rattle.agreement.specs.declared.item.Item.{Item}
use Rattle.sheet.specs.Parts.{Entries, Items, listed_house, entries_of, items_of, rows_of, kind_of, rows_less, levels_less, compartments_of, parts_of}
use Rattle.house.specs.Houses.{labels}
use Rattle.sheet.specs.declared.fault.SheetFault.{SheetFault}
use Rattle.sheet.specs.declared.fault.SheetFault.TheVariants.{Field, Script}
use Rattle.house.specs.declared.description.House.{House}
use Rattle.house.specs.declared.description.House.TheVariants.{Graded}
use Rattle.sheet.specs.declared.parts.Parts.{Parts}

-- kind 0: 5 bits n - 1, then n rows of n bits, the bit of label 0 first
unfoldable pub listed : Format FieldFault House
listed =
    part (field 5 0 31) rows_less (λ m.
    part (many (m + 1) (λ i e. e) (turned (m + 1))) rows_of (λ rows. done (listed_house rows)))

-- kind 1: 3 bits levels - 1, 2 bits compartments
unfoldable pub graded : Format FieldFault House
graded =
    part (field 3 0 7) levels_less (λ v.
    part (field 2 0 3) compartments_of (λ c. done (Graded (v + 1) c)))

-- 2 bits kind, then the house of that kind
unfoldable pub house : Format FieldFault House
house = part (field 2 0 1) kind_of (λ k. either (k == 0) listed graded)

-- an entry of 6 bits for each label
unfoldable pub entries : ℕ → Format FieldFault Entries
entries n = part (many n (λ i e. e) (field 6 0 63)) list_of (λ xs. done (entries_of xs))

-- 2 bits role, 6 bits label
unfoldable pub item : Format FieldFault Item
item = part (field 2 0 3) (λ x. x.role) (λ r. part (field 6 0 63) (λ x. x.label) (λ l. done (record { role = r; label = l })))

-- 8 bits count, then the items
unfoldable pub items : Format FieldFault Items
items =
    part (field 8 0 255) (λ m. m.count) (λ n.
    part (many n (λ i e. e) item) list_of (λ xs. done (items_of xs)))

-- 4 bits form, which is 1, near house, far house, out map, back map, near items, far items
unfoldable pub front : Format FieldFault Parts
front =
    part (field 4 1 1) (λ _. 1) (λ _.
    part house (λ x. x.near) (λ near.
    part house (λ x. x.far) (λ far.
    part (entries (labels near)) (λ x. x.out) (λ out.
    part (entries (labels far)) (λ x. x.back) (λ back.
    part items (λ x. x.near_items) (λ near_items.
    part items (λ x. x.far_items) (λ far_items.
    done (parts_of near far out back near_items far_items))))))))

-- the front, then the script
unfoldable pub sheet : Format SheetFault (Parts × List Line)
sheet =
    part (inside Field front) (λ x. x.0) (λ parts.
    part (inside Script script) (λ x. x.1) (λ lines. done (parts, lines)))
