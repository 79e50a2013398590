-- Views: what somebody cleared for a label may come to depend on. A view is a highest label for each house.
use Rattle.std.specs.Prelude.{◌≡◌, ℕ, suc, ◌<◌, true, cond, List, [], ◌∷◌, length, Some, None, Option, MatchOption, slice_index, slice_index_or}
use Rattle.refusal.specs.Sides.{other}
use Rattle.refusal.specs.declared.Side.{Side}
use Rattle.refusal.specs.declared.Side.TheVariants.{Near, Far}
use Rattle.order.specs.Orders.{PartialOrder}
use Rattle.agreement.specs.Maps.{image_of, and_then}
use Rattle.agreement.specs.Rules.{no_item}
use Rattle.agreement.specs.Agreements.{Joint}
use Rattle.agreement.specs.declared.item.Item.{Item}
use Rattle.agreement.specs.declared.views.View.{View}

-- the view with this highest label in the house of the side, and that one across
abbrev pub view_at : Side → ℕ → ℕ → View
view_at Near own across = record { near = own; far = across }
view_at Far own across = record { near = across; far = own }

-- the view of a label: its round trip in its own house, and its image across
abbrev pub view_in : Joint → Side → ℕ → Option View
view_in J s c =
    and_then (image_of (J.order s) (J.order (other s)) (J.map s) c) (λ across.
    and_then (image_of (J.order (other s)) (J.order s) (J.map (other s)) across) (λ own. Some (view_at s own across)))

-- the items whose label flows to the highest, by number, counted from k
abbrev pub listed : PartialOrder → ℕ → ℕ → List Item → List ℕ
listed P highest k [] = []
listed P highest k (x ∷ xs) =
    let rest = listed P highest (suc k) xs in
    cond (P.flow x.label highest) (k ∷ rest) rest

-- the list has exactly the items whose label flows to the highest, in order
pub record Lists (P : PartialOrder) (highest : ℕ) (xs : List Item) (is : List ℕ) : Type 0 where
  pub sound : (k : ℕ) → k < length is → (slice_index is k < length xs) × (P.flow (slice_index_or xs (slice_index is k) no_item).label highest ≡ true)
  pub complete : (i : ℕ) → i < length xs → P.flow (slice_index_or xs i no_item).label highest ≡ true → (k : ℕ) × (k < length is) × (slice_index is k ≡ i)
  pub ascending : (k : ℕ) → suc k < length is → slice_index is k < slice_index is (suc k)

-- the highest label of a view in a house
abbrev pub highest_in : View → Side → ℕ
highest_in v Near = v.near
highest_in v Far = v.far

-- the list has exactly the items of one house that are in the view
abbrev pub ListsHouse : Joint → View → Side → List ℕ → Type 0
ListsHouse J v house is = Lists (J.order house) (highest_in v house) (J.items house) is

-- r is the list of the items of one house in the view of a label, and absent exactly where there is no view
abbrev pub ListsView : Joint → Side → ℕ → Side → Option (List ℕ) → Type 0
ListsView J s c house r =
    MatchOption r (view_in J s c ≡ None)
    (λ is. (v : View) × (view_in J s c ≡ Some v) × ListsHouse J v house is)
