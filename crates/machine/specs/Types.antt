-- The type of a script: for each house the greatest label that flows to every label that the lines give it.
use Rattle.std.specs.Prelude.{ℕ, List, [], ◌∷◌, ◌++◌, map, Some, None, Option}
use Rattle.std.specs.List.{flat_map}
use Rattle.refusal.specs.Sides.{other}
use Rattle.refusal.specs.declared.Side.{Side}
use Rattle.refusal.specs.declared.Side.TheVariants.{Near, Far}
use Rattle.order.specs.Orders.{PartialOrder, dual}
use Rattle.order.specs.Search.{supremum_of}
use Rattle.agreement.specs.Agreements.{Joint}
use Rattle.machine.specs.Steps.{Step, compute, fetch, store, move, label_of}
use Rattle.machine.specs.declared.script_type.ScriptType.{ScriptType}

-- what is given to house s, as seen from house u: nothing, unless they are the same
abbrev pub for_house : Side → Side → List ℕ → List ℕ
for_house Near Near ls = ls
for_house Near Far ls = []
for_house Far Near ls = []
for_house Far Far ls = ls

-- the labels that a step gives a house: those of its targets there, and of the source of a move
abbrev pub given : Joint → Side → Step → List ℕ
given J u (compute s bs) = for_house s u (map (λ a. label_of (J.items s) a.target) bs)
given J u (fetch s t q) = for_house s u (label_of (J.items s) t ∷ [])
given J u (store s t q) = for_house s u (label_of (J.items s) t ∷ [])
given J u (move s t q) =
    for_house s u (label_of (J.items s) q ∷ []) ++ for_house (other s) u (label_of (J.items (other s)) t ∷ [])

abbrev pub all_given : Joint → Side → List Step → List ℕ
all_given J u steps = flat_map (given J u) steps

-- the greatest label that flows to all of the list: the top for none, absent where a label is unknown
abbrev pub lowest : PartialOrder → List ℕ → Option ℕ
lowest P ls = supremum_of (dual P) ls

-- an absent bound counts as the top
abbrev pub or_zero : Option ℕ → ℕ
or_zero (Some c) = c
or_zero None = 0

abbrev pub or_top : PartialOrder → Option ℕ → ℕ
or_top P (Some c) = c
or_top P None = or_zero (lowest P [])

abbrev pub type_in : Joint → Side → List Step → ℕ
type_in J u steps = or_top (J.order u) (lowest (J.order u) (all_given J u steps))

abbrev pub script_type : Joint → List Step → ScriptType
script_type J steps = record { near = type_in J Near steps; far = type_in J Far steps }

abbrev pub type_of : ScriptType → Side → ℕ
type_of T Near = T.near
type_of T Far = T.far
