-- Places of values: an item of a house. Writing a place, and lists of writes.
use Rattle.std.specs.Prelude.{ℕ, List, [], ◌∷◌, map, slice_index, slice_set}
use Rattle.refusal.specs.declared.Side.{Side}
use Rattle.refusal.specs.declared.Side.TheVariants.{Near, Far}
use Rattle.machine.specs.declared.values.Values.{Values}

-- an item of one of the houses
pub record Place : Type 0 where
  pub side : Side
  pub item : ℕ

abbrev pub place : Side → ℕ → Place
place s i = record { side = s; item = i }

-- the values of one house
abbrev pub values_in : Values → Side → List ℕ
values_in v Near = v.near
values_in v Far = v.far

abbrev pub held : Values → Place → ℕ
held v p = slice_index (values_in v p.side) p.item

abbrev put_in : Values → Side → ℕ → ℕ → Values
put_in v Near i x = record { near = slice_set v.near i x; far = v.far }
put_in v Far i x = record { near = v.near; far = slice_set v.far i x }

-- the values with x at the place
abbrev pub put : Values → Place → ℕ → Values
put v p x = put_in v p.side p.item x

-- a write: into a target, what a function gives of what is held at the places read
pub record Write : Type 0 where
  pub target : Place
  pub reads : List Place
  pub result : List ℕ → ℕ

abbrev pub written : Values → Write → Values
written v w = put v w.target (w.result (map (held v) w.reads))

-- the writes in order, each on the values that the one before left
abbrev pub all_written : Values → List Write → Values
all_written v [] = v
all_written v (w ∷ ws) = all_written (written v w) ws
