-- Certification: the rules in their order, each on the near side and then on the far side. As a judgement, and as what holds or is the first to fail.
use Rattle.std.specs.Prelude.{◌≡◌, ℕ, ◌<◌, ◌≤◌, true, ◌⊎◌, List, [], ◌∷◌, length, get_or, Ok, slice_index_or}
use Rattle.refusal.specs.Judging.{Judgement, ◌⨟◌, under}
use Rattle.refusal.specs.Sides.{other}
use Rattle.refusal.specs.declared.Side.{Side}
use Rattle.refusal.specs.declared.Side.TheVariants.{Near, Far}
use Rattle.agreement.specs.Maps.{at}
use Rattle.agreement.specs.Rules.{total_judged, monotone_judged, rising_judged, stable_judged, items_judged, no_item}
use Rattle.agreement.specs.Connection.{Total, Monotone, Rising, Stable, Lagois, Lawful, LawfulItems}
use Rattle.agreement.specs.Agreements.{Joint}
use Rattle.agreement.specs.declared.fault.Broken.{Broken}
use Rattle.agreement.specs.declared.fault.Broken.TheVariants.{Length, Entry, NotMonotone, Falls, Drifts, TooMany, Unlawful}
use Rattle.agreement.specs.declared.fault.Fault.{Fault}
use Rattle.agreement.specs.declared.rule.Rule.{Rule}
use Rattle.agreement.specs.declared.rule.Rule.TheVariants.{Totality, Monotony, Rise, Stability, Lawfulness}

abbrev pub on : Side → Broken → Fault
on s b = record { side = s; broken = b }

-- one rule on one side
abbrev pub rule_judged : Joint → Rule → Side → Judgement Broken
rule_judged J Totality s = total_judged (J.order s) (J.order (other s)) (J.map s)
rule_judged J Monotony s = monotone_judged (J.order s) (J.order (other s)) (J.map s)
rule_judged J Rise s = rising_judged (J.order s) (J.order (other s)) (J.map s) (J.map (other s))
rule_judged J Stability s = stable_judged (J.order s) (J.order (other s)) (J.map s) (J.map (other s))
rule_judged J Lawfulness s = items_judged (J.order s) (J.order (other s)) (J.map s) (J.map (other s)) (J.items s)

-- the order of the rules
abbrev pub rules : List (Rule × Side)
rules =
    (Totality, Near) ∷ (Totality, Far) ∷ (Monotony, Near) ∷ (Monotony, Far) ∷ (Rise, Near) ∷ (Rise, Far)
    ∷ (Stability, Near) ∷ (Stability, Far) ∷ (Lawfulness, Near) ∷ (Lawfulness, Far) ∷ []

abbrev pub all_judged : Joint → List (Rule × Side) → Judgement Fault
all_judged J [] = Ok tt
all_judged J (r ∷ rs) = under (on r.1) (rule_judged J r.0 r.1) ⨟ all_judged J rs

abbrev pub certified : Joint → Judgement Fault
certified J = all_judged J rules

-- what a rule asks of one side
abbrev pub Keeps : Joint → Rule → Side → Type 0
Keeps J Totality s = Total (J.order s) (J.order (other s)) (J.map s)
Keeps J Monotony s = Monotone (J.order s) (J.order (other s)) (J.map s)
Keeps J Rise s = Rising (J.order s) (J.map s) (J.map (other s))
Keeps J Stability s = Stable (J.order s) (J.map s) (J.map (other s))
Keeps J Lawfulness s = LawfulItems (J.order s) (J.map s) (J.map (other s)) (J.items s)

-- the fault names the smallest number below n of which P does not hold
abbrev pub Smallest : ℕ → (ℕ → Type 0) → (ℕ → Broken) → Broken → Type 0
Smallest n P fault b = (a : ℕ) × (a < n) × (P a → ⊥) × (fault a ≡ b) × ((c : ℕ) → c < a → P c)

-- the same of two numbers, by the first and then by the second
abbrev pub SmallestPair : ℕ → (ℕ → ℕ → Type 0) → (ℕ → ℕ → Broken) → Broken → Type 0
SmallestPair n P fault x =
    (a : ℕ) × (b : ℕ) × (a < n) × (b < n) × (P a b → ⊥) × (fault a b ≡ x)
    × ((c d : ℕ) → c < a → d < n → P c d) × ((d : ℕ) → d < b → P a d)

-- one side breaks a rule, and the fault names its smallest broken case
abbrev pub Breaks : Joint → Rule → Side → Broken → Type 0
Breaks J Totality s b =
    let m = J.map s in
    let n = (J.order s).count in
    (((length m ≡ n) → ⊥) × (b ≡ Length))
    ⊎ ((length m ≡ n) × Smallest n (λ a. at m a < (J.order (other s)).count) (λ a. Entry a (at m a)) b)
Breaks J Monotony s b =
    let m = J.map s in
    SmallestPair (J.order s).count (λ a c. (J.order s).flow a c ≡ true → (J.order (other s)).flow (at m a) (at m c) ≡ true) NotMonotone b
Breaks J Rise s b = Smallest (J.order s).count (λ a. (J.order s).flow a (at (J.map (other s)) (at (J.map s) a)) ≡ true) Falls b
Breaks J Stability s b =
    let m = J.map s in
    Smallest (J.order s).count (λ a. at m (at (J.map (other s)) (at m a)) ≡ at m a) Drifts b
Breaks J Lawfulness s b =
    let xs = J.items s in
    ((length xs ≤ 128 → ⊥) × (b ≡ TooMany))
    ⊎ ((length xs ≤ 128) × Smallest (length xs) (λ i. Lawful (J.order s) (J.map s) (J.map (other s)) (slice_index_or xs i no_item)) (λ i. Unlawful i (get_or xs i no_item).label) b)

-- the fault names the smallest broken case of the first rule that is broken
abbrev pub FirstBroken : Joint → List (Rule × Side) → Fault → Type 0
FirstBroken J [] f = ⊥
FirstBroken J (r ∷ rs) f =
    ((f.side ≡ r.1) × Breaks J r.0 r.1 f.broken) ⊎ (Keeps J r.0 r.1 × FirstBroken J rs f)

-- the maps are a Lagois connection and the items of both houses are lawful
pub record Holds (J : Joint) : Type 0 where
  pub connection : Lagois (J.order Near) (J.order Far) (J.map Near) (J.map Far)
  pub near_items : LawfulItems (J.order Near) (J.map Near) (J.map Far) (J.items Near)
  pub far_items : LawfulItems (J.order Far) (J.map Far) (J.map Near) (J.items Far)
