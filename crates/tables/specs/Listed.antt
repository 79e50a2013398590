-- When rows are an order and a lattice, and the first fault of rows that are not.
use Rattle.std.specs.Prelude.{◌≡◌, ℕ, ◌-◌, ◌≤◌, Bool, not, ◌&&◌, ◌||◌, List, ◌++◌, length, replicate, nat_le}
use Rattle.order.specs.Bounds.{IsLattice}
use Rattle.order.specs.declared.bound.Bound.TheVariants.{Join, Meet}
use Rattle.refusal.specs.Judging.{Judgement, ◌⨟◌, check, each_from}
use Rattle.order.specs.Search.{all_below}
use Rattle.tables.specs.Bounded.{each_pair, bounds_judged}
use Rattle.tables.specs.Rows.{rows_flow, listed_order, IsOrder}
use Rattle.tables.specs.declared.fault.TableFault.{TableFault}
use Rattle.tables.specs.declared.fault.TableFault.TheVariants.{Rows, NotReflexive, NotAntisymmetric, NotTransitive}

-- label a flows to itself
abbrev pub reflexive_at : (ℕ → ℕ → Bool) → ℕ → Judgement TableFault
reflexive_at flow a = check (flow a a) (NotReflexive a)

-- labels a and b do not flow to each other
abbrev pub antisymmetric_at : (ℕ → ℕ → Bool) → ℕ → ℕ → Judgement TableFault
antisymmetric_at flow a b = check (not (flow a b && flow b a)) (NotAntisymmetric a b)

-- if a flows to b, it flows to every label that b flows to
abbrev pub carries : ℕ → (ℕ → ℕ → Bool) → ℕ → ℕ → Bool
carries n flow a b = not (flow a b) || all_below (λ c. not (flow b c) || flow a c) n

abbrev pub transitive_at : ℕ → (ℕ → ℕ → Bool) → ℕ → ℕ → Judgement TableFault
transitive_at n flow a b = check (carries n flow a b) (NotTransitive a b)

-- flow carries on from label a
abbrev pub transitive_from : ℕ → (ℕ → ℕ → Bool) → ℕ → Judgement TableFault
transitive_from n flow a = each_from (transitive_at n flow a) 0 n

-- each law over all labels before the next law
abbrev pub laws_judged : ℕ → (ℕ → ℕ → Bool) → Judgement TableFault
laws_judged n flow = each_from (reflexive_at flow) 0 n ⨟ each_pair (antisymmetric_at flow) n ⨟ each_from (transitive_from n flow) 0 n

-- the rows are 1 to 32, and keep the laws of an order
abbrev pub order_judged : List ℕ → Judgement TableFault
order_judged rows = check (nat_le 1 (length rows) && nat_le (length rows) 32) Rows ⨟ laws_judged (length rows) (rows_flow rows)

-- the rows are an order in which every two labels have a join, and every two a meet
abbrev pub rows_judged : List ℕ → Judgement TableFault
rows_judged rows =
    order_judged rows ⨟ bounds_judged Join (length rows) (rows_flow rows) ⨟ bounds_judged Meet (length rows) (rows_flow rows)

-- 1 to 32 rows that are an order
pub record OrderRows (rows : List ℕ) : Type 0 where
  pub some : 1 ≤ length rows
  pub few : length rows ≤ 32
  pub ordered : IsOrder (length rows) rows

-- 1 to 32 rows that are a lattice
pub record LatticeRows (rows : List ℕ) : Type 0 where
  pub order : OrderRows rows
  pub lattice : IsLattice (listed_order (length rows) rows order.some order.few ∣ order.ordered ∣₁)

-- a count and a table of 32 places that hold exactly these rows, with zeros behind them
pub record Holds (rows : List ℕ) (count : ℕ) (table : List ℕ) : Type 0 where
  pub counted : count ≡ length rows
  pub stored : table ≡ rows ++ replicate (32 - length rows) 0
