-- Graded labels: a level and a set of compartments, numbered by level * 2 ^ compartments + set.
use Rattle.std.specs.Prelude.{ℕ, ◌*◌, ◌/◌, ◌%◌, ◌^◌, ◌≤◌, min, max, Bool, ◌&&◌, ◌==◌, bit_and, bit_or, nat_le, nat_lt}
use Rattle.order.specs.declared.bound.Bound.{Bound}
use Rattle.order.specs.declared.bound.Bound.TheVariants.{Join, Meet}

-- how many levels and compartments there may be
abbrev pub Limited : ℕ → ℕ → Type 0
Limited levels compartments = (1 ≤ levels) × (levels ≤ 8) × (compartments ≤ 3)

-- how many labels there are
abbrev pub labels : ℕ → ℕ → ℕ
labels levels compartments = levels * 2 ^ compartments

abbrev pub level_of : ℕ → ℕ → ℕ
level_of compartments label = label / 2 ^ compartments

abbrev pub set_of : ℕ → ℕ → ℕ
set_of compartments label = label % 2 ^ compartments

-- the set x lies inside the set y, bit for bit
abbrev pub inside : ℕ → ℕ → Bool
inside x y = bit_and x y == x

-- a and b are labels, a's level is not higher, and its set lies inside b's
abbrev pub graded_flow : ℕ → ℕ → ℕ → ℕ → Bool
graded_flow levels compartments a b =
    nat_lt a (labels levels compartments) && nat_lt b (labels levels compartments)
    && nat_le (level_of compartments a) (level_of compartments b) && inside (set_of compartments a) (set_of compartments b)

-- the higher or the lower of two levels
abbrev pub level_bound : Bound → ℕ → ℕ → ℕ
level_bound Join x y = max x y
level_bound Meet x y = min x y

-- the union of two sets or what they share
abbrev pub set_bound : Bound → ℕ → ℕ → ℕ
set_bound Join x y = bit_or x y
set_bound Meet x y = bit_and x y
