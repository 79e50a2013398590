-- Tests that decide a fact, beside those of std. Assumes nothing.
use Rattle.std.proofs.Common.{◌≡◌, ℕ, ◌≤◌, Bool, true, false, not, ◌||◌, leb, Decides, refl}
use Rattle.std.proofs.lemmas.Bool.{both_ways, leb-true, le-leb}

pub decides_leb : (a b : ℕ) → Decides (leb a b) (a ≤ b)
decides_leb a b = (leb-true a b, le-leb a b)

pub decides_self : (x : Bool) → Decides x (x ≡ true)
decides_self x = (λ e. e, λ e. e)

pub decides_implied : {P Q : Type 0} (x y : Bool) → Decides x P → Decides y Q → Decides (not x || y) (P → Q)
decides_implied true y p q = (λ e _. q.0 e, λ f. q.1 (f (p.0 refl)))
decides_implied false y p q = (λ _ k. absurd (both_ways false refl (p.1 k)), λ _. refl)

-- the test fails where the fact does not hold
pub decides_never : {P : Type 0} (r : Bool) → Decides r P → (P → ⊥) → false ≡ r
decides_never true d no_p = absurd (no_p (d.0 refl))
decides_never false d no_p = refl
