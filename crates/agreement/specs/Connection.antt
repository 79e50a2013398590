-- Lagois connections between two orders, settled labels and lawful items, as the field states them.
use Rattle.std.specs.Prelude.{◌≡◌, ℕ, ◌<◌, ◌≤◌, Bool, true, List, length, Decides, ◌≢◌, slice_index_or}
use Rattle.order.specs.Orders.{PartialOrder}
use Rattle.agreement.specs.Maps.{at}
use Rattle.agreement.specs.Rules.{no_item}
use Rattle.agreement.specs.declared.item.Item.{Item}

-- m has one entry for each label of P, and each is a label of Q
pub record Total (P Q : PartialOrder) (m : List ℕ) : Type 0 where
  pub long : length m ≡ P.count
  pub known : (a : ℕ) → a < P.count → at m a < Q.count

abbrev pub Monotone : PartialOrder → PartialOrder → List ℕ → Type 0
Monotone P Q m = (a b : ℕ) → P.flow a b ≡ true → Q.flow (at m a) (at m b) ≡ true

-- every label flows to its round trip, across by m and back by w
abbrev pub Rising : PartialOrder → List ℕ → List ℕ → Type 0
Rising P m w = (a : ℕ) → a < P.count → P.flow a (at w (at m a)) ≡ true

-- going across, back and across again is going across
abbrev pub Stable : PartialOrder → List ℕ → List ℕ → Type 0
Stable P m w = (a : ℕ) → a < P.count → at m (at w (at m a)) ≡ at m a

-- A Lagois connection: two monotone maps, each label below its round trip (LC1, LC2), each map unchanged by going round (LC3, LC4).
pub record Lagois (P Q : PartialOrder) (out back : List ℕ) : Type 0 where
  pub out_total : Total P Q out
  pub back_total : Total Q P back
  pub out_monotone : Monotone P Q out
  pub back_monotone : Monotone Q P back
  pub lc1 : Rising P out back
  pub lc2 : Rising Q back out
  pub lc3 : Stable P out back
  pub lc4 : Stable Q back out

-- a label that going across and back gives again: a closed element of the round trip
abbrev pub Settled : List ℕ → List ℕ → ℕ → Type 0
Settled m w a = at w (at m a) ≡ a

-- The role is 0 working, 1 import or 2 export, the label known, and that of an import or export settled.
pub record Lawful (P : PartialOrder) (m w : List ℕ) (x : Item) : Type 0 where
  pub role : x.role ≤ 2
  pub label : x.label < P.count
  pub settled : (x.role ≢ 0) → Settled m w x.label

pub record LawfulItems (P : PartialOrder) (m w : List ℕ) (xs : List Item) : Type 0 where
  pub few : length xs ≤ 128
  pub each : (i : ℕ) → i < length xs → Lawful P m w (slice_index_or xs i no_item)

-- in a connection the settled labels of a house are the images of the other house's map: r tells whether a is settled
abbrev pub SettledAreImages : PartialOrder → PartialOrder → List ℕ → List ℕ → ℕ → Bool → Type 0
SettledAreImages P Q m w a r = Lagois P Q m w → Decides r ((b : ℕ) × (b < Q.count) × (at w b ≡ a))

-- in a connection the image of a flows to a settled label b exactly if a flows to the image of b: r tells the first
abbrev pub MovesWithinView : PartialOrder → PartialOrder → List ℕ → ℕ → ℕ → Bool → Type 0
MovesWithinView P Q m a b r =
    (w : List ℕ) → Lagois P Q m w → a < P.count → b < Q.count → Settled w m b → r ≡ P.flow a (at w b)
