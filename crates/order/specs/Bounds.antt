-- Upper labels, least upper labels, and what makes an order a lattice. A greatest lower label is a least upper one of the dual order.
use Rattle.std.specs.Prelude.{◌≡◌, ℕ, ◌<◌, true, List, [], ◌∷◌, Option, MatchOption}
use Rattle.order.specs.Orders.{PartialOrder, dual}
use Rattle.order.specs.declared.bound.Bound.{Bound}
use Rattle.order.specs.declared.bound.Bound.TheVariants.{Join, Meet}

-- every label of the list is known
abbrev pub Known : PartialOrder → List ℕ → Type 0
Known P [] = Unit {0}
Known P (x ∷ xs) = (x < P.count) × Known P xs

-- every label of the list flows to c
abbrev pub Upper : PartialOrder → List ℕ → ℕ → Type 0
Upper P [] c = Unit {0}
Upper P (x ∷ xs) c = (P.flow x c ≡ true) × Upper P xs c

-- c is the least label to which every label of the list flows
pub record Supremum (P : PartialOrder) (xs : List ℕ) (c : ℕ) : Type 0 where
  pub known : c < P.count
  pub upper : Upper P xs c
  pub least : (d : ℕ) → d < P.count → Upper P xs d → P.flow c d ≡ true

-- what a join of labels answers: their least upper label, and nothing exactly where one is unknown
abbrev pub Joined : PartialOrder → List ℕ → Option ℕ → Type 0
Joined P xs r = MatchOption r (Known P xs → ⊥) (λ c. Supremum P xs c)

abbrev pub Joins : PartialOrder → Type 0
Joins P = (a b : ℕ) → a < P.count → b < P.count → ∥ ((c : ℕ) × Supremum P (a ∷ b ∷ []) c) ∥₁

-- every two labels have a least upper and a greatest lower label
pub record IsLattice (P : PartialOrder) : Type 0 where
  pub joins : Joins P
  pub meets : Joins (dual P)

-- the order in which the bound that is asked for is a least upper one
abbrev pub toward : Bound → PartialOrder → PartialOrder
toward Join P = P
toward Meet P = dual P
