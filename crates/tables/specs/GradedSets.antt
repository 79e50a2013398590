-- Sets as the bits of numbers: inclusion goes bit by bit, and is an order. Assumes nothing.
use Rattle.std.specs.Prelude.{◌≡◌, ℕ, ◌+◌, ◌/◌, ◌≤◌, bit_and}
use Rattle.std.proofs.Common.{sym, ap, ◌∙◌, arith}
use Rattle.std.proofs.Math.Arith.{bin_ind}
use Rattle.std.specs.Int.Bits.{and_step, and_zero_l}
use Rattle.std.proofs.lemmas.Nat.{shr-shr, and_comm}
use Rattle.std.specs.Int.{bit_at}
use Rattle.std.proofs.lemmas.Nat.Bits.{bit_at_and}

-- the set x lies inside the set y
abbrev pub Inside : ℕ → ℕ → Type 0
Inside x y = bit_and x y ≡ x

pub inside_bits : (x y : ℕ) → Inside x y → (c : ℕ) → bit_at x c ≤ bit_at y c
inside_bits x y h c = omega (arith, bit_at_and x y c, ap (λ (z : ℕ). bit_at z c) h)

pub bits_inside : (x y : ℕ) → ((c : ℕ) → bit_at x c ≤ bit_at y c) → Inside x y
bits_inside =
    bin_ind (λ x. (y : ℕ) → ((c : ℕ) → bit_at x c ≤ bit_at y c) → Inside x y) (λ y h. and_zero_l y)
    (λ x half y h. omega (arith, and_step x y, h 0, half (y / 2) (λ c. omega (arith, h (1 + c), shr-shr x 1 c, shr-shr y 1 c))))

pub inside_antisymmetric : (x y : ℕ) → Inside x y → Inside y x → x ≡ y
inside_antisymmetric x y h k = sym h ∙ and_comm x y ∙ k

pub inside_transitive : (x y z : ℕ) → Inside x y → Inside y z → Inside x z
inside_transitive x y z h k = bits_inside x z (λ c. omega (arith, inside_bits x y h c, inside_bits y z k c))
