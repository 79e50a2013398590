-- Least upper labels: of lists that grow at the end, of no labels, and by a pass over the labels. Assumes nothing.
use Rattle.std.proofs.Common.{◌≡◌, ℕ, zero, suc, ◌+◌, ◌-◌, ◌<◌, true, List, [], ◌∷◌, ◌++◌, length, get_or, take, IfSome, Some, None, Option, sym, refl, ap, subst, arith, below_more}
use Rattle.std.proofs.Math.Bool.{Bool-set}
use Rattle.std.proofs.Math.Logic.{∥∥₁_elim, ∥∥₁_map}
use Rattle.std.proofs.lemmas.List.{take_more}
use Rattle.std.proofs.lemmas.Option.{MatchOption-at_some}
use Rattle.order.specs.Orders.{PartialOrder, dual}
use Rattle.order.specs.Bounds.{Known, Upper, Supremum, Joins, IsLattice, toward}
use Rattle.order.specs.declared.bound.Bound.{Bound}
use Rattle.order.specs.declared.bound.Bound.TheVariants.{Join, Meet}

pub upper_push : (P : PartialOrder) (xs : List ℕ) (y c : ℕ) → Upper P xs c → P.flow y c ≡ true → Upper P (xs ++ y ∷ []) c
upper_push P [] y c u f = (f, tt)
upper_push P (x ∷ xs) y c u f = (u.0, upper_push P xs y c u.1 f)

pub upper_front : (P : PartialOrder) (xs : List ℕ) (y c : ℕ) → Upper P (xs ++ y ∷ []) c → Upper P xs c
upper_front P [] y c u = tt
upper_front P (x ∷ xs) y c u = (u.0, upper_front P xs y c u.1)

pub upper_last : (P : PartialOrder) (xs : List ℕ) (y c : ℕ) → Upper P (xs ++ y ∷ []) c → P.flow y c ≡ true
upper_last P [] y c u = u.0
upper_last P (x ∷ xs) y c u = upper_last P xs y c u.1

pub upper_flow : (P : PartialOrder) (xs : List ℕ) (c d : ℕ) → Upper P xs c → P.flow c d ≡ true → Upper P xs d
upper_flow P [] c d u f = tt
upper_flow P (x ∷ xs) c d u f = (P.transitive x c d u.0 f, upper_flow P xs c d u.1 f)

-- the least upper label of a list and of one label more
pub supremum_push : (P : PartialOrder) (xs : List ℕ) (c y e : ℕ) → Supremum P xs c → Supremum P (c ∷ y ∷ []) e → Supremum P (xs ++ y ∷ []) e
supremum_push P xs c y e s t = record {
  known = t.known;
  upper = upper_push P xs y e (upper_flow P xs c e s.upper t.upper.0) t.upper.1.0;
  least = λ d k u. t.least d k (s.least d k (upper_front P xs y d u), (upper_last P xs y d u, tt));
}

pub known_at : (P : PartialOrder) (xs : List ℕ) (k : ℕ) → k < length xs → Known P xs → get_or xs k 0 < P.count
known_at P [] k h all = omega arith
known_at P (x ∷ xs) zero h all = all.0
known_at P (x ∷ xs) (suc k) h all = known_at P xs k (omega arith) all.1

-- one label flows to every label up to k
lower : (P : PartialOrder) → Joins (dual P) → (k : ℕ) → k < P.count → ∥ ((b : ℕ) × ((d : ℕ) → d < k + 1 → P.flow b d ≡ true)) ∥₁
lower P meets zero h = ∣ (0, below_more (λ d. P.flow 0 d ≡ true) 0 (λ d l. absurd (omega arith)) (P.reflexive 0 h)) ∣₁
lower P meets (suc k) h =
    ∥∥₁_elim (lower P meets k (omega arith)) squash₁
    (λ below. ∥∥₁_map (meets below.0 (suc k) (P.known below.0 0 (below.1 0 (omega arith))).0 h)
    (λ both. (
      both.0,
      below_more (λ d. P.flow both.0 d ≡ true) (suc k)
          (λ d l. P.transitive both.0 below.0 d both.1.upper.0 (below.1 d (omega arith))) both.1.upper.1.0,
    )))

-- a lattice has a bottom, the least upper label of none
pub bottom : (P : PartialOrder) → Joins (dual P) → ∥ ((b : ℕ) × Supremum P [] b) ∥₁
bottom P meets =
    let some = P.nonempty in
    ∥∥₁_map (lower P meets (P.count - 1) (omega arith)) (λ below.
    (below.0, record { known = (P.known below.0 0 (below.1 0 (omega arith))).0; upper = tt; least = λ d l u. below.1 d (omega arith) }))

pub toward_meets : (w : Bound) (P : PartialOrder) → IsLattice P → Joins (dual (toward w P))
toward_meets Join P l = l.meets
toward_meets Meet P l = l.joins

pub toward_count : (w : Bound) (P : PartialOrder) → (toward w P).count ≡ P.count
toward_count Join P = refl
toward_count Meet P = refl

-- A pass over the labels has kept an upper one, and the least one if it is below k.
pub record Passed (P : PartialOrder) (xs : List ℕ) (k : ℕ) (best : Option ℕ) : Type 0 where
  pub above : IfSome best (λ m. (m < P.count) × Upper P xs m)
  pub first : (c : ℕ) → c < k → Supremum P xs c → best ≡ Some c

-- the label is upper, and flows to the one that was kept
abbrev pub Better : PartialOrder → List ℕ → ℕ → Option ℕ → Type 0
Better P xs k best = Upper P xs k × IfSome best (λ m. P.flow k m ≡ true)

module _ {P : PartialOrder} {xs : List ℕ} {k : ℕ} where
  pub passed_taken : {best : Option ℕ} → Passed P xs k best → k < P.count → Better P xs k best → Passed P xs (k + 1) (Some k)
  passed_taken passed h (up, under) = record {
    above = (h, up);
    first = below_more (λ c. Supremum P xs c → Some k ≡ Some c) k
        (λ c l s. ap Some (P.antisymmetric k c (MatchOption-at_some (Unit {0}) (λ m. P.flow k m ≡ true) c (passed.first c l s) under) (s.least k h up))) (λ s. refl);
  }

  pub passed_left : {best : Option ℕ} → Passed P xs k best → (Better P xs k best → ⊥) → Passed P xs (k + 1) best
  passed_left {best} passed worse = record {
    above = passed.above;
    first = below_more (λ c. Supremum P xs c → best ≡ Some c) k passed.first (λ s. absurd (worse (s.upper, under s best passed.above)));
  }
    where
      under : Supremum P xs k → (o : Option ℕ) → IfSome o (λ m. (m < P.count) × Upper P xs m) → IfSome o (λ m. P.flow k m ≡ true)
      under s None a = tt
      under s (Some m) a = s.least m a.0 a.1

-- an upper label that is the least one wherever there is one
pub supremum_kept : (P : PartialOrder) (xs : List ℕ) (m : ℕ) → ∥ ((c : ℕ) × Supremum P xs c) ∥₁ → m < P.count → Upper P xs m → ((c : ℕ) → Supremum P xs c → Some m ≡ Some c) → Supremum P xs m
supremum_kept P xs m some h up first = record {
  known = h;
  upper = up;
  least = λ d l u. ∥∥₁_elim some (Bool-set (P.flow m d) true)
      (λ w. let found = first w.0 w.1 in let same : w.0 ≡ m = cc in subst (λ (x : ℕ). P.flow x d ≡ true) same (w.1.least d l u));
}

pub supremum_one : (P : PartialOrder) (x : ℕ) → x < P.count → Supremum P (x ∷ []) x
supremum_one P x h = record { known = h; upper = (P.reflexive x h, tt); least = λ d k u. u.0 }

-- one step of a fold: x and the labels of ys up to i are bounded by c, and c and the label at i by e
pub supremum_more : (P : PartialOrder) (x : ℕ) (ys : List ℕ) (i c e : ℕ) → i < length ys → Supremum P (x ∷ take i ys) c → Supremum P (c ∷ get_or ys i 0 ∷ []) e → Supremum P (x ∷ take (i + 1) ys) e
supremum_more P x ys i c e h s t =
    subst (λ (l : List ℕ). Supremum P (x ∷ l) e) (sym (take_more ys i 0 h)) (supremum_push P (x ∷ take i ys) c (get_or ys i 0) e s t)
