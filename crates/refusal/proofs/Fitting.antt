-- What the answers of a judgement tell: it accepts exactly where something holds, and a refusal tells what is broken. Assumes nothing.
use Rattle.std.proofs.Common.{◌≡◌, ℕ, zero, suc, ◌+◌, ◌<◌, ◌≤◌, Bool, true, false, ◌⊎◌, is_ok, Ok, Err, Decides, sym, refl, ◌∙◌, subst, inl, inr, ⊎_elim, eq-or-lt_of_le, arith}
use Rattle.std.proofs.lemmas.Bool.{both_ways}
use Rattle.refusal.specs.Judging.{Judgement, accepted, ◌⨟◌, check, each_from}

pub record Fits {F : Type 0} (r : Judgement F) (K : Type 0) (B : F → Type 0) : Type 0 where
  pub kept : r ≡ accepted → K
  pub accepts : K → r ≡ accepted
  pub broken : (x : F) → r ≡ Err x → B x

-- the first of the n numbers from k on at which B holds, and K holds before
abbrev First : {F : Type 0} → (ℕ → Type 0) → (ℕ → F → Type 0) → ℕ → ℕ → F → Type 0
First K B k n x = (i : ℕ) × (k ≤ i) × (i < k + n) × B i x × ((j : ℕ) → k ≤ j → j < i → K j)

module _ {F : Type 0} where
  pub never : {x : F} → accepted ≡ Err x → ⊥
  never e = let z : ◌≡◌ {A = ℕ} 0 1 = cc in omega arith

  -- the same judgement in other words
  pub fits_as : {r : Judgement F} {K L : Type 0} {B C : F → Type 0} → (K → L) → (L → K) → ((x : F) → B x → C x) → Fits r K B → Fits r L C
  fits_as to from names f = record { kept = λ e. to (f.kept e); accepts = λ l. f.accepts (from l); broken = λ x e. names x (f.broken x e) }

  pub check_fits : {P : Type 0} (t : Bool) (x : F) → Decides t P → Fits (check t x) P (λ y. (P → ⊥) × (y ≡ x))
  check_fits true x d = record { kept = λ _. d.0 refl; accepts = λ _. refl; broken = λ y e. absurd (never e) }
  check_fits false x d =
      record { kept = λ e. absurd (never (sym e)); accepts = λ p. absurd (both_ways false refl (d.1 p)); broken = λ y e. (λ p. both_ways false refl (d.1 p), cc) }

  -- one judgement after another
  pub then_fits : {r s : Judgement F} {K : Type 0} {B : F → Type 0} {L : K → Type 0} {C : K → F → Type 0} → Fits r K B → ((k : K) → Fits s (L k) (C k)) → Fits (r ⨟ s) ((k : K) × L k) (λ x. B x ⊎ ((k : K) × C k x))
  then_fits {r = Ok u} f g =
      let k = f.kept refl in
      record { kept = λ e. (k, (g k).kept e); accepts = λ h. (g h.0).accepts h.1; broken = λ x e. inr (k, (g k).broken x e) }
  then_fits {r = Err y} f g = record {
    kept = λ e. absurd (never (sym e));
    accepts = λ h. absurd (never (sym (f.accepts h.0)));
    broken = λ x e. inl (f.broken x e);
  }

  -- what answers as a judgement that fits tells whether it is kept
  pub decides_fits : {j : Judgement F} {K : Type 0} {B : F → Type 0} (r : Judgement F) → r ≡ j → Fits j K B → Decides (is_ok r) K
  decides_fits (Ok u) e f = (λ _. f.kept (sym e), λ _. refl)
  decides_fits (Err x) e f = (λ q. absurd (both_ways false refl q), λ k. absurd (never (sym (e ∙ f.accepts k))))

  -- one judgement for each of the n numbers from k on
  module _ {f : ℕ → Judgement F} {K : ℕ → Type 0} {B : ℕ → F → Type 0} where
    pub each_fits : (k n : ℕ) → ((i : ℕ) → k ≤ i → i < k + n → Fits (f i) (K i) (B i)) → Fits (each_from f k n) ((i : ℕ) → k ≤ i → i < k + n → K i) (First K B k n)
    each_fits k zero fits = record { kept = λ _ i l h. absurd (omega arith); accepts = λ _. refl; broken = λ x e. absurd (never e) }
    each_fits k (suc n) fits =
        fits_as to (λ all. (all k (omega arith) (omega arith), λ i l h. all i (omega arith) (omega arith))) first
        (then_fits (fits k (omega arith) (omega arith)) (λ _. each_fits (suc k) n (λ i l h. fits i (omega arith) (omega arith))))
      where
        at : (i : ℕ) → k ≤ i → K k → (suc k ≤ i → K i) → K i
        at i l here later = ⊎_elim (λ q. subst K q here) later (eq-or-lt_of_le l)

        to : K k × ((i : ℕ) → suc k ≤ i → i < suc k + n → K i) → (i : ℕ) → k ≤ i → i < k + suc n → K i
        to all i l h = at i l all.0 (λ m. all.1 i m (omega arith))

        first : (x : F) → B k x ⊎ (K k × First K B (suc k) n x) → First K B k (suc n) x
        first x (inl here) = (k, omega arith, omega arith, here, λ j l h. absurd (omega arith))
        first x (inr (here, w)) = (w.0, omega (arith, w.1), omega (arith, w.2), w.3, λ j l h. at j l here (λ m. w.4 j m h))

    pub below_fits : (n : ℕ) → ((i : ℕ) → i < n → Fits (f i) (K i) (B i)) → Fits (each_from f 0 n) ((i : ℕ) → i < n → K i) (λ x. (i : ℕ) × (i < n) × B i x × ((j : ℕ) → j < i → K j))
    below_fits n fits =
        fits_as (λ all i h. all i (omega arith) (omega arith)) (λ all i l h. all i (omega arith))
        (λ x w. (w.0, omega (arith, w.2), w.3, λ j h. w.4 j (omega arith) h))
        (each_fits 0 n (λ i l h. fits i (omega arith)))
