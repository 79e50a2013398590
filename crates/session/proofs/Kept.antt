-- What the record keeps of an agreement is the agreement. Assumes nothing.
use Rattle.std.proofs.Common.{◌≡◌, ℕ, ◌≤◌, List, length, take, ◌==◌, ap, ap₂, ◌∙◌, arith}
use Rattle.std.proofs.lemmas.Bool.{eqb-true}
use Rattle.std.proofs.lemmas.List.{take_all}
use Rattle.fixed.specs.Lists.{filled, padded}
use Rattle.fixed.specs.declared.list.FixedList.{FixedList}
use Rattle.fixed.proofs.Padding.{list_of_filled}
use Rattle.refusal.specs.Judging.{Judgement, accepted, check}
use Rattle.refusal.proofs.Accepting.{check_accepted}
use Rattle.machine.specs.declared.fault.CallFault.{CallFault}
use Rattle.machine.specs.declared.fault.CallFault.TheVariants.{Values as wrong_length}
use Rattle.refusal.specs.declared.Side.{Side}
use Rattle.refusal.specs.declared.Side.TheVariants.{Near, Far}
use Rattle.order.specs.Bounds.{IsLattice}
use Rattle.order.specs.Orders.{PartialOrder}
use Rattle.agreement.specs.Agreements.{joint, agreed, by_side}
use Rattle.agreement.specs.Certified.{Holds}
use Rattle.agreement.specs.Rules.{no_item}
use Rattle.agreement.specs.declared.certification.Agreement.{Agreement}
use Rattle.agreement.specs.declared.item.Item.{Item}
use Rattle.machine.specs.Secrets.{KeepsSecrets}
use Rattle.machine.proofs.Secrets.{keeps_secrets}
use Rattle.session.specs.Records.{both_items, known_of, maps_of}
use Rattle.session.specs.declared.record.Items.{Items}
use Rattle.session.specs.declared.record.Maps.{Maps}

-- a list that fits is kept whole
pub whole : {A : Type 0} (n : ℕ) (blank : A) (xs : List A) (kept : FixedList A n) → length xs ≤ n → kept ≡ filled n blank (take n xs) → kept ≡ filled n blank xs
whole n blank xs kept h e = e ∙ ap (filled n blank) (take_all n xs h)

pub kept : (N F : PartialOrder) (a : Agreement) → known_of N F (maps_of a) (both_items a) ≡ agreed N F a
kept N F a =
    λ i. joint N F (list_of_filled 64 0 a.out.now i) (list_of_filled 64 0 a.back.now i) (list_of_filled 128 no_item a.near_items.now i) (list_of_filled 128 no_item a.far_items.now i)

-- a certified agreement fits into the record
module _ (N F : PartialOrder) (a : Agreement) (h : Holds (agreed N F a)) where
  pub maps_kept : (out back : FixedList ℕ 64) → out ≡ filled 64 0 (take 64 a.out.now) → back ≡ filled 64 0 (take 64 a.back.now) → ◌≡◌ {A = Maps} (record { out = out; back = back }) (maps_of a)
  maps_kept out back e f =
      ap₂ (λ (x y : FixedList ℕ 64). record { out = x; back = y })
      (whole 64 0 a.out.now out (omega (arith, h.connection.out_total.long, N.small)) e)
      (whole 64 0 a.back.now back (omega (arith, h.connection.back_total.long, F.small)) f)

  pub items_kept : (near far : FixedList Item 128) → near ≡ filled 128 no_item (take 128 a.near_items.now) → far ≡ filled 128 no_item (take 128 a.far_items.now) → ◌≡◌ {A = Items} (record { near = near; far = far }) (both_items a)
  items_kept near far e f =
      ap₂ (λ (x y : FixedList Item 128). record { near = x; far = y })
      (whole 128 no_item a.near_items.now near h.near_items.few e)
      (whole 128 no_item a.far_items.now far h.far_items.few f)

pub certified_keeps : (N F : PartialOrder) (a : Agreement) → IsLattice N → IsLattice F → Holds (agreed N F a) → KeepsSecrets (agreed N F a)
certified_keeps N F a n f h = keeps_secrets (record { lattice = lattice; holds = h })
  where
    lattice : (s : Side) → IsLattice (by_side N F s)
    lattice Near = n
    lattice Far = f

-- the judgement of a list of values by the items that it is for
abbrev pub check_length : Side → List ℕ → List Item → Judgement CallFault
check_length s xs items = check (length xs == length items) (wrong_length s (length items))

-- values that are as many as the items are kept whole
pub values_fit : (s : Side) (xs : List ℕ) (items : List Item) (t : FixedList ℕ 128) → check_length s xs items ≡ accepted → length items ≤ 128 → t ≡ filled 128 0 (take 128 xs) → t.places ≡ padded 128 0 xs
values_fit s xs items t judged few e =
    let same : length xs ≡ length items = eqb-true (length xs) (length items) (check_accepted (length xs == length items) (wrong_length s (length items)) judged) in
    ap (λ (k : FixedList ℕ 128). k.places) (whole 128 0 xs t (omega (arith, same, few)) e)
