-- The bound of two graded labels is that of their levels and that of their sets. Assumes nothing.
use Rattle.std.specs.Prelude.{◌≡◌, ℕ, ◌+◌, ◌*◌, ◌^◌, ◌<◌, ◌≤◌, true, [], ◌∷◌, bit_and, bit_or}
use Rattle.std.proofs.Common.{sym, subst, arith}
use Rattle.std.proofs.Math.Nat.{le-max_left, le-max_right, max-le, min-le_left, min-le_right, le-min}
use Rattle.std.specs.Int.Bits.{and_lt}
use Rattle.std.proofs.lemmas.Nat.{pow_pos, mod_below, div_below, div-mul-add, mod-mul-add, mul-add-lt, or_lt}
use Rattle.std.proofs.lemmas.Nat.Bits.{bit_at_and, bit_at_or}
use Rattle.order.specs.Bounds.{Supremum, toward}
use Rattle.order.specs.declared.bound.Bound.{Bound}
use Rattle.order.specs.declared.bound.Bound.TheVariants.{Join, Meet}
use Rattle.order.proofs.Suprema.{toward_count}
use Rattle.tables.specs.Graded.{Limited, labels, level_of, set_of, level_bound, set_bound}
use Rattle.tables.specs.GradedSets.{Inside, inside_bits, bits_inside}
use Rattle.tables.specs.GradedOrder.{graded, flow_true, flow_from_parts}

-- z is the least above x and y
record Least (R : ℕ → ℕ → Type 0) (x y z : ℕ) : Type 0 where
  left : R x z
  right : R y z
  least : (d : ℕ) → R x d → R y d → R z d

-- the orders of levels and of sets in which the bound is a least upper one
abbrev Rising : Bound → ℕ → ℕ → Type 0
Rising Join x y = x ≤ y
Rising Meet x y = y ≤ x

abbrev Wider : Bound → ℕ → ℕ → Type 0
Wider Join x y = Inside x y
Wider Meet x y = Inside y x

level_least : (w : Bound) (x y : ℕ) → Least (Rising w) x y (level_bound w x y)
level_least Join x y = record { left = le-max_left x y; right = le-max_right x y; least = λ d h k. max-le h k }
level_least Meet x y = record { left = min-le_left x y; right = min-le_right x y; least = λ d h k. le-min h k }

set_least : (w : Bound) (x y : ℕ) → Least (Wider w) x y (set_bound w x y)
set_least Join x y = record {
  left = bits_inside x (bit_or x y) (λ c. omega (arith, bit_at_or x y c));
  right = bits_inside y (bit_or x y) (λ c. omega (arith, bit_at_or x y c));
  least = λ d h k. bits_inside (bit_or x y) d (λ c. omega (arith, bit_at_or x y c, inside_bits x d h c, inside_bits y d k c));
}
set_least Meet x y = record {
  left = bits_inside (bit_and x y) x (λ c. omega (arith, bit_at_and x y c));
  right = bits_inside (bit_and x y) y (λ c. omega (arith, bit_at_and x y c));
  least = λ d h k. bits_inside d (bit_and x y) (λ c. omega (arith, bit_at_and x y c, inside_bits d x h c, inside_bits d y k c));
}

level_below : (w : Bound) (x y n : ℕ) → x < n → y < n → level_bound w x y < n
level_below Join x y n h k = omega arith
level_below Meet x y n h k = omega arith

set_below : (w : Bound) (x y k : ℕ) → x < 2 ^ k → y < 2 ^ k → set_bound w x y < 2 ^ k
set_below Join x y k = or_lt k x y
set_below Meet x y k = and_lt k x y

-- the bounds of the levels and of the sets of two labels, and the label that they make
abbrev pub level_at : Bound → ℕ → ℕ → ℕ → ℕ
level_at w c a b = level_bound w (level_of c a) (level_of c b)

abbrev pub set_at : Bound → ℕ → ℕ → ℕ → ℕ
set_at w c a b = set_bound w (set_of c a) (set_of c b)

abbrev pub label_at : Bound → ℕ → ℕ → ℕ → ℕ
label_at w c a b = level_at w c a b * 2 ^ c + set_at w c a b

pub level_at_below : (w : Bound) (v c a b : ℕ) → a < labels v c → b < labels v c → level_at w c a b < v
level_at_below w v c a b h k =
    level_below w (level_of c a) (level_of c b) v (div_below a (2 ^ c) v (pow_pos c) h) (div_below b (2 ^ c) v (pow_pos c) k)

pub set_at_below : (w : Bound) (c a b : ℕ) → set_at w c a b < 2 ^ c
set_at_below w c a b = set_below w (set_of c a) (set_of c b) c (mod_below a (2 ^ c) (pow_pos c)) (mod_below b (2 ^ c) (pow_pos c))

module _ (v c : ℕ) (limits : Limited v c) where
  -- a flow toward the bound is one of the levels and one of the sets
  parts : (w : Bound) (a b : ℕ) → (toward w (graded v c limits)).flow a b ≡ true → Rising w (level_of c a) (level_of c b) × Wider w (set_of c a) (set_of c b)
  parts Join a b h = let f = flow_true v c a b h in (f.rising, f.wider)
  parts Meet a b h = let f = flow_true v c b a h in (f.rising, f.wider)

  whole : (w : Bound) (a b : ℕ) → a < labels v c → b < labels v c → Rising w (level_of c a) (level_of c b) → Wider w (set_of c a) (set_of c b) → (toward w (graded v c limits)).flow a b ≡ true
  whole Join a b h k r i = flow_from_parts v c a b (record { from = h; to = k; rising = r; wider = i })
  whole Meet a b h k r i = flow_from_parts v c b a (record { from = k; to = h; rising = r; wider = i })

  pub supremum : (w : Bound) (a b : ℕ) → a < labels v c → b < labels v c → Supremum (toward w (graded v c limits)) (a ∷ b ∷ []) (label_at w c a b)
  supremum w a b h k =
      let level = level_at w c a b in
      let both = set_at w c a b in
      let label = label_at w c a b in
      let known : label < labels v c = omega (arith, mul-add-lt level (2 ^ c) both v (level_at_below w v c a b h k) (set_at_below w c a b)) in
      let level_is : level_of c label ≡ level = div-mul-add level (2 ^ c) both (set_at_below w c a b) in
      let set_is : set_of c label ≡ both = mod-mul-add level (2 ^ c) both (set_at_below w c a b) in
      let levels = level_least w (level_of c a) (level_of c b) in
      let sets = set_least w (set_of c a) (set_of c b) in
      record {
        known = omega (arith, toward_count w (graded v c limits), known);
        upper = (
          whole w a label h known (subst (Rising w (level_of c a)) (sym level_is) levels.left) (subst (Wider w (set_of c a)) (sym set_is) sets.left),
          (whole w b label k known (subst (Rising w (level_of c b)) (sym level_is) levels.right) (subst (Wider w (set_of c b)) (sym set_is) sets.right), tt),
        );
        least = λ d l u.
            let x = parts w a d u.0 in
            let y = parts w b d u.1.0 in
            whole w label d known (omega (arith, toward_count w (graded v c limits), l))
            (subst (λ (z : ℕ). Rising w z (level_of c d)) (sym level_is) (levels.least (level_of c d) x.0 y.0))
            (subst (λ (z : ℕ). Wider w z (set_of c d)) (sym set_is) (sets.least (set_of c d) x.1 y.1));
      }
