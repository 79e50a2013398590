-- Sets of bits: unions, and inclusion of the bits below a bound. Assumes nothing.
use Rattle.std.specs.Prelude.{◌≡◌, ℕ, ◌+◌, ◌-◌, ◌/◌, ◌%◌, ◌^◌, ◌<◌, ◌≤◌, Decides, ◌==◌, bit_and}
use Rattle.std.proofs.Common.{ap, ◌∙◌, ⊎_elim, arith, pow_mono}
use Rattle.std.proofs.Math.Nat.{div-eq_of_lt}
use Rattle.std.proofs.lemmas.Nat.{field_of, mod-pow-add, mod_below, pow_pos}
use Rattle.std.proofs.lemmas.Bool.{cases_lt}
use Rattle.std.proofs.lemmas.Bool.Decides.{Decides-eqb, Decides-like}
use Rattle.std.specs.Int.{bit_at}
use Rattle.tables.specs.GradedSets.{inside_bits, bits_inside}

-- the lowest n bits stay, and the others are cut off
cut_below : (x n c : ℕ) → c < n → bit_at (x % 2 ^ n) c ≡ bit_at x c
cut_below x n c h =
    let whole : n ≡ ((n - c - 1) + 1) + c = omega arith in
    let field = ap (λ (m : ℕ). x % 2 ^ m / 2 ^ c) whole ∙ field_of x ((n - c - 1) + 1) c in
    let split = mod-pow-add (x / 2 ^ c) (n - c - 1) 1 in
    ap (λ (z : ℕ). z % 2) (field ∙ split) ∙ omega arith

cut_above : (x n c : ℕ) → n ≤ c → x % 2 ^ n / 2 ^ c ≡ 0
cut_above x n c h =
    let low : 2 ^ n ≤ 2 ^ c = pow_mono h in
    let under : x % 2 ^ n < 2 ^ c = omega (arith, mod_below x (2 ^ n) (pow_pos n)) in
    div-eq_of_lt under

-- the lowest n bits of x are bits of y
pub decides_inside : (n x y : ℕ) → Decides (bit_and (x % 2 ^ n) y == x % 2 ^ n) ((c : ℕ) → c < n → bit_at x c ≤ bit_at y c)
decides_inside n x y =
    Decides-like (bit_and (x % 2 ^ n) y == x % 2 ^ n)
    (λ e c l. omega (arith, inside_bits (x % 2 ^ n) y e c, cut_below x n c l))
    (λ all. bits_inside (x % 2 ^ n) y (λ c. ⊎_elim (λ l. omega (arith, cut_below x n c l, all c l)) (λ l. omega (arith, cut_above x n c l)) (cases_lt c n)))
    (Decides-eqb (bit_and (x % 2 ^ n) y) (x % 2 ^ n))
