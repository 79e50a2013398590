-- What is known of a certified agreement, said of a side. Assumes nothing.
use Rattle.refusal.specs.Sides.{other}
use Rattle.refusal.specs.declared.Side.{Side}
use Rattle.refusal.specs.declared.Side.TheVariants.{Near, Far}
use Rattle.order.specs.Bounds.{IsLattice}
use Rattle.agreement.specs.Agreements.{Joint}
use Rattle.agreement.specs.Certified.{Holds}
use Rattle.agreement.specs.Connection.{Total, Monotone, Rising, Stable, Lawful, LawfulItems}
use Rattle.machine.specs.Places.{Place}
use Rattle.machine.specs.Secrets.{item_at, KnownItem}

-- the agreement holds, between two lattices
pub record Facts (J : Joint) : Type 0 where
  pub lattice : (s : Side) → IsLattice (J.order s)
  pub holds : Holds J

module _ {J : Joint} (F : Facts J) where
  pub total : (s : Side) → Total (J.order s) (J.order (other s)) (J.map s)
  total Near = F.holds.connection.out_total
  total Far = F.holds.connection.back_total

  -- the map back
  pub total_back : (s : Side) → Total (J.order (other s)) (J.order s) (J.map (other s))
  total_back Near = F.holds.connection.back_total
  total_back Far = F.holds.connection.out_total

  pub monotone : (s : Side) → Monotone (J.order s) (J.order (other s)) (J.map s)
  monotone Near = F.holds.connection.out_monotone
  monotone Far = F.holds.connection.back_monotone

  pub monotone_back : (s : Side) → Monotone (J.order (other s)) (J.order s) (J.map (other s))
  monotone_back Near = F.holds.connection.back_monotone
  monotone_back Far = F.holds.connection.out_monotone

  pub rising : (s : Side) → Rising (J.order s) (J.map s) (J.map (other s))
  rising Near = F.holds.connection.lc1
  rising Far = F.holds.connection.lc2

  pub stable : (s : Side) → Stable (J.order s) (J.map s) (J.map (other s))
  stable Near = F.holds.connection.lc3
  stable Far = F.holds.connection.lc4

  pub items : (s : Side) → LawfulItems (J.order s) (J.map s) (J.map (other s)) (J.items s)
  items Near = F.holds.near_items
  items Far = F.holds.far_items

  pub lawful : (p : Place) → KnownItem J p → Lawful (J.order p.side) (J.map p.side) (J.map (other p.side)) (item_at J p)
  lawful p h = (items p.side).each p.item h
