-- The order of graded labels, with its laws. Assumes nothing.
use Rattle.std.specs.Prelude.{◌≡◌, ℕ, ◌+◌, ◌*◌, ◌^◌, ◌<◌, ◌≤◌, true, ◌&&◌, bit_and, nat_le, nat_lt}
use Rattle.std.proofs.Common.{sym, ap₂, ◌∙◌, div-add-mod', arith, pow_pos, pow_mono}
use Rattle.std.specs.Int.Bits.{and_self}
use Rattle.std.proofs.lemmas.Nat.{mul-le}
use Rattle.std.proofs.lemmas.Bool.{and_parts, and_from, ltb-true, lt-ltb, leb-true, le-leb, eqb-true, eq-eqb}
use Rattle.order.specs.Orders.{PartialOrder}
use Rattle.tables.specs.Graded.{Limited, labels, level_of, set_of, inside, graded_flow}
use Rattle.tables.specs.GradedSets.{Inside, inside_antisymmetric, inside_transitive}

-- what a flow from a to b says of their levels and sets
pub record Flows (levels compartments a b : ℕ) : Type 0 where
  pub from : a < labels levels compartments
  pub to : b < labels levels compartments
  pub rising : level_of compartments a ≤ level_of compartments b
  pub wider : Inside (set_of compartments a) (set_of compartments b)

module _ (levels compartments : ℕ) where
  pub flow_true : (a b : ℕ) → graded_flow levels compartments a b ≡ true → Flows levels compartments a b
  flow_true a b h =
      let n = labels levels compartments in
      let x = set_of compartments a in
      let y = set_of compartments b in
      let up = nat_le (level_of compartments a) (level_of compartments b) in
      let four = and_parts (nat_lt a n && nat_lt b n && up) (inside x y) h in
      let three = and_parts (nat_lt a n && nat_lt b n) up four.0 in
      let two = and_parts (nat_lt a n) (nat_lt b n) three.0 in
      record {
        from = ltb-true a n two.0;
        to = ltb-true b n two.1;
        rising = leb-true (level_of compartments a) (level_of compartments b) three.1;
        wider = eqb-true (bit_and x y) x four.1;
      }

  pub flow_from_parts : (a b : ℕ) → Flows levels compartments a b → graded_flow levels compartments a b ≡ true
  flow_from_parts a b f =
      let n = labels levels compartments in
      let x = set_of compartments a in
      let y = set_of compartments b in
      let up = nat_le (level_of compartments a) (level_of compartments b) in
      and_from (nat_lt a n && nat_lt b n && up) (inside x y)
      (and_from (nat_lt a n && nat_lt b n) up
      (and_from (nat_lt a n) (nat_lt b n) (lt-ltb a n f.from) (lt-ltb b n f.to))
      (le-leb (level_of compartments a) (level_of compartments b) f.rising))
      (eq-eqb (bit_and x y) x f.wider)

  pub flows_reflexive : (a : ℕ) → a < labels levels compartments → Flows levels compartments a a
  flows_reflexive a h = record { from = h; to = h; rising = omega arith; wider = and_self (set_of compartments a) }

  pub flows_antisymmetric : (a b : ℕ) → Flows levels compartments a b → Flows levels compartments b a → a ≡ b
  flows_antisymmetric a b f g =
      sym (div-add-mod' a (2 ^ compartments))
      ∙ ap₂ (λ (x y : ℕ). x * 2 ^ compartments + y) (omega (arith, f.rising, g.rising))
      (inside_antisymmetric (set_of compartments a) (set_of compartments b) f.wider g.wider)
      ∙ div-add-mod' b (2 ^ compartments)

  pub flows_transitive : (a b c : ℕ) → Flows levels compartments a b → Flows levels compartments b c → Flows levels compartments a c
  flows_transitive a b c f g = record {
    from = f.from;
    to = g.to;
    rising = omega (arith, f.rising, g.rising);
    wider = inside_transitive (set_of compartments a) (set_of compartments b) (set_of compartments c) f.wider g.wider;
  }

-- the order of the labels of so many levels and compartments
abbrev pub graded : (levels compartments : ℕ) → Limited levels compartments → PartialOrder
graded levels compartments limits =
    let to = flow_true levels compartments in
    let back = flow_from_parts levels compartments in
    record {
      count = labels levels compartments;
      flow = graded_flow levels compartments;
      nonempty = mul-le 1 1 levels (2 ^ compartments) limits.0 (pow_pos compartments);
      small = mul-le levels (2 ^ compartments) 8 8 limits.1 (pow_mono limits.2);
      known = λ a b h. ((to a b h).from, (to a b h).to);
      reflexive = λ a h. back a a (flows_reflexive levels compartments a h);
      antisymmetric = λ a b h k. flows_antisymmetric levels compartments a b (to a b h) (to b a k);
      transitive = λ a b c h k. back a c (flows_transitive levels compartments a b c (to a b h) (to b c k));
    }
