-- Rows of bits as an order of labels: label a flows to label b where bit b of row a is 1.
use Rattle.std.specs.Prelude.{◌≡◌, ℕ, ◌/◌, ◌%◌, ◌^◌, ◌<◌, ◌≤◌, Bool, true, ◌&&◌, List, length, ◌==◌, nat_lt, slice_index}
use Rattle.std.proofs.Math.Bool.{Bool-set}
use Rattle.std.proofs.Math.Logic.{∥∥₁_elim}
use Rattle.std.proofs.Math.Nat.{ℕ_set}
use Rattle.std.proofs.Common.{arith}
use Rattle.std.proofs.lemmas.Bool.{and_parts, ltb-true}
use Rattle.order.specs.Orders.{PartialOrder}

-- label a flows to label b, of n labels: bit b of row a, which is worth 2 ^ b, is 1
unfoldable pub listed_flow : ℕ → List ℕ → ℕ → ℕ → Bool
listed_flow n rows a b = (nat_lt a n && nat_lt b n) && slice_index rows a / 2 ^ b % 2 == 1

-- the flow of as many labels as there are rows
abbrev pub rows_flow : List ℕ → ℕ → ℕ → Bool
rows_flow rows = listed_flow (length rows) rows

-- only the n labels flow
pub flow_known : (n : ℕ) (rows : List ℕ) (a b : ℕ) → listed_flow n rows a b ≡ true → (a < n) × (b < n)
unfolding listed_flow
flow_known n rows a b e =
    let both = and_parts (nat_lt a n) (nat_lt b n) (and_parts (nat_lt a n && nat_lt b n) (slice_index rows a / 2 ^ b % 2 == 1) e).0 in
    (ltb-true a n both.0, ltb-true b n both.1)

-- the first n rows are a partial order
pub record IsOrder (n : ℕ) (rows : List ℕ) : Type 0 where
  pub reflexive : (a : ℕ) → a < n → listed_flow n rows a a ≡ true
  pub antisymmetric : (a b : ℕ) → listed_flow n rows a b ≡ true → listed_flow n rows b a ≡ true → a ≡ b
  pub transitive : (a b c : ℕ) → listed_flow n rows a b ≡ true → listed_flow n rows b c ≡ true → listed_flow n rows a c ≡ true

-- the order that 1 to 32 lawful rows mean
abbrev pub listed_order : (n : ℕ) (rows : List ℕ) → 1 ≤ n → n ≤ 32 → ∥ IsOrder n rows ∥₁ → PartialOrder
listed_order n rows some few lawful = record {
  count = n;
  flow = listed_flow n rows;
  nonempty = some;
  small = omega arith;
  known = flow_known n rows;
  reflexive = λ a h. ∥∥₁_elim lawful (Bool-set (listed_flow n rows a a) true) (λ o. o.reflexive a h);
  antisymmetric = λ a b h k. ∥∥₁_elim lawful (ℕ_set a b) (λ o. o.antisymmetric a b h k);
  transitive = λ a b c h k. ∥∥₁_elim lawful (Bool-set (listed_flow n rows a c) true) (λ o. o.transitive a b c h k);
}
