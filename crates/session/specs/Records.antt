-- The record of a session: what it holds of an agreement, and what everyone knows of it.
use Rattle.std.specs.Prelude.{◌≡◌, ℕ, List, [], replicate, Err, Result, MatchResult}
use Rattle.fixed.specs.Lists.{filled, list_of}
use Rattle.fixed.specs.declared.list.FixedList.{FixedList}
use Rattle.refusal.specs.Judging.{Judgement, accepted, ◌⨟◌, under}
use Rattle.order.specs.Orders.{PartialOrder}
use Rattle.agreement.specs.Agreements.{Joint, agreed, joint}
use Rattle.agreement.specs.Certified.{certified}
use Rattle.agreement.specs.Rules.{no_item}
use Rattle.agreement.specs.declared.certification.Agreement.{Agreement}
use Rattle.agreement.specs.declared.item.Item.{Item}
use Rattle.machine.specs.Calls.{Answer, Call, after_at, answer, answer_at, gated, may_judge, stage_judged}
use Rattle.machine.specs.Openings.{opened, opening_judged}
use Rattle.machine.specs.declared.fault.CallFault.{CallFault}
use Rattle.machine.specs.declared.fault.CallFault.TheVariants.{Agreement as in_agreement}
use Rattle.machine.specs.declared.stage.Stage.{Stage}
use Rattle.machine.specs.declared.stage.Stage.TheVariants.{Draft, Certified, Open}
use Rattle.machine.specs.declared.values.Values.{Values}
use Rattle.session.specs.declared.record.Items.{Items}
use Rattle.session.specs.declared.record.Maps.{Maps}
use Rattle.session.specs.declared.record.Session.{Session}
use Rattle.session.specs.declared.record.Table.{Table}
use Rattle.session.specs.declared.returned.Returned.{Returned}

abbrev pub entries_of : List ℕ → FixedList ℕ 64
entries_of xs = filled 64 0 xs

abbrev pub items_of : List Item → FixedList Item 128
items_of xs = filled 128 no_item xs

-- an agreement as the record keeps it
abbrev pub maps_of : Agreement → Maps
maps_of a = record { out = entries_of a.out.now; back = entries_of a.back.now }

abbrev pub both_items : Agreement → Items
both_items a = record { near = items_of a.near_items.now; far = items_of a.far_items.now }

-- before certification
abbrev pub no_maps : Maps
no_maps = record { out = entries_of []; back = entries_of [] }

abbrev pub no_items : Items
no_items = record { near = items_of []; far = items_of [] }

abbrev pub zero_values : Values
zero_values = record { near = replicate 128 0; far = replicate 128 0 }

abbrev pub blank_table : Table
blank_table = record { items = no_items; values = zero_values }

-- what everyone knows of a session: the orders, the maps and the items
abbrev pub known_of : PartialOrder → PartialOrder → Maps → Items → Joint
known_of N F maps items =
    joint N F (list_of maps.out) (list_of maps.back) (list_of items.near) (list_of items.far)

-- certification and opening at any stage
abbrev pub certify_judged : Stage → Joint → Judgement CallFault
certify_judged stage J = stage_judged stage Draft ⨟ under in_agreement (certified J)

abbrev pub open_judged : Stage → Joint → List ℕ → List ℕ → Judgement CallFault
open_judged stage J near far = stage_judged stage Certified ⨟ opening_judged J near far

-- the call hands out a pass exactly if it is accepted, and else hands the taken one back with the fault
abbrev pub Hands : {P Q : Type 0} → Judgement CallFault → Result Q (Returned P) → Type 0
Hands judged r = MatchResult r (λ _. judged ≡ accepted) (λ back. judged ≡ Err back.fault)

-- The record of a session.
module _ {N F : Type 0} (s : Session N F) where
  -- with other values
  abbrev pub with_values : Values → Session N F
  with_values v =
      record { near = s.near; far = s.far; maps = s.maps; stage = s.stage; table = record { items = s.table.items; values = v } }

  -- once an agreement is certified
  abbrev pub with_agreement : Agreement → Session N F
  with_agreement a =
      record { near = s.near; far = s.far; maps = maps_of a; stage = Certified; table = record { items = both_items a; values = s.table.values } }

  -- once it was opened with values, and once it was closed
  abbrev pub opened_with : List ℕ → List ℕ → Session N F
  opened_with near far =
      record { near = s.near; far = s.far; maps = s.maps; stage = Open; table = record { items = s.table.items; values = opened near far } }

  abbrev pub closed : Session N F
  closed = record { near = s.near; far = s.far; maps = s.maps; stage = Certified; table = record { items = s.table.items; values = zero_values } }

-- The record of a session, and what the lattices of its houses mean.
module _ {N F : Type 0} (near : N → PartialOrder) (far : F → PartialOrder) (s : Session N F) where
  -- what everyone knows of it
  abbrev pub known : Joint
  known = known_of (near s.near) (far s.far) s.maps s.table.items

  -- an agreement that is handed in to be certified
  abbrev pub offered : Agreement → Joint
  offered a = agreed (near s.near) (far s.far) a

  abbrev pub certify_answer : Agreement → Judgement CallFault
  certify_answer a = certify_judged s.stage (offered a)

  abbrev pub open_answer : List ℕ → List ℕ → Judgement CallFault
  open_answer a b = open_judged s.stage known a b

  -- what it answers to a call that needs it open, and the record after the call
  abbrev pub answer_to : Call → Answer
  answer_to c = answer_at s.stage known s.table.values c

  abbrev pub after_call : Call → Session N F
  after_call c = with_values s (after_at s.stage known s.table.values c)

  -- what it answers to the judgement of a script, which a certified record can give
  abbrev pub judging : Call → Answer
  judging c = gated (may_judge s.stage) (answer known s.table.values c)
