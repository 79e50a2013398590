-- What an order of labels is, and the same order turned round.
use Rattle.std.specs.Prelude.{◌≡◌, ℕ, ◌<◌, ◌≤◌, Bool, true}

-- A partial order on the labels 0 to count - 1: `flow a b` says that label a flows to label b.
pub record PartialOrder : Type 0 where
  pub count : ℕ
  pub flow : ℕ → ℕ → Bool
  pub nonempty : 1 ≤ count
  pub small : count ≤ 64
  pub known : (a b : ℕ) → flow a b ≡ true → (a < count) × (b < count)
  pub reflexive : (a : ℕ) → a < count → flow a a ≡ true
  pub antisymmetric : (a b : ℕ) → flow a b ≡ true → flow b a ≡ true → a ≡ b
  pub transitive : (a b c : ℕ) → flow a b ≡ true → flow b c ≡ true → flow a c ≡ true

-- The dual order: the same labels, and flow runs the other way.
abbrev pub dual : PartialOrder → PartialOrder
dual P = record {
  count = P.count;
  flow = λ a b. P.flow b a;
  nonempty = P.nonempty;
  small = P.small;
  known = λ a b h. ((P.known b a h).1, (P.known b a h).0);
  reflexive = P.reflexive;
  antisymmetric = λ a b h k. P.antisymmetric a b k h;
  transitive = λ a b c h k. P.transitive c b a k h;
}
