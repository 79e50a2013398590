-- An agreement by its sides: the order of each house, its map to the other house, and its items.
use Rattle.std.specs.Prelude.{ℕ, List}
use Rattle.refusal.specs.declared.Side.{Side}
use Rattle.refusal.specs.declared.Side.TheVariants.{Near, Far}
use Rattle.order.specs.Orders.{PartialOrder}
use Rattle.agreement.specs.declared.certification.Agreement.{Agreement}
use Rattle.agreement.specs.declared.item.Item.{Item}
use Rattle.agreement.specs.declared.joined.Joined.{Joined}

pub record Joint : Type 0 where
  pub order : Side → PartialOrder
  pub map : Side → List ℕ
  pub items : Side → List Item

abbrev pub by_side : {X : Type 0} → X → X → Side → X
by_side near far Near = near
by_side near far Far = far

-- the agreement of a near and a far house: the near map is the out map, the far one the back map
abbrev pub joint : PartialOrder → PartialOrder → List ℕ → List ℕ → List Item → List Item → Joint
joint N F out back near far = record {
  order = by_side N F;
  map = by_side out back;
  items = by_side near far;
}

-- an agreement as it is handed in, between two orders
abbrev pub agreed : PartialOrder → PartialOrder → Agreement → Joint
agreed N F a = joint N F a.out.now a.back.now a.near_items.now a.far_items.now

-- the same of two orders with their agreement, by what the orders mean
abbrev pub joined : {N F : Type 0} → (N → PartialOrder) → (F → PartialOrder) → Joined N F → Joint
joined near far j = agreed (near j.near.now) (far j.far.now) j.agreement
