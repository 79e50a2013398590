-- What an accepted judgement tells of its parts. Assumes nothing.
use Rattle.std.proofs.Common.{◌≡◌, ℕ, zero, suc, ◌+◌, ◌<◌, ◌≤◌, Bool, true, false, Ok, Err, sym, refl, subst, ⊎_elim, eq-or-lt_of_le, arith}
use Rattle.refusal.specs.Judging.{Judgement, accepted, ◌⨟◌, check, each_from, under}
use Rattle.refusal.proofs.Fitting.{never}

module _ {F : Type 0} where
  pub check_accepted : (t : Bool) (x : F) → check t x ≡ accepted → t ≡ true
  check_accepted true x e = refl
  check_accepted false x e = absurd (never (sym e))

  pub both_accepted : (r s : Judgement F) → (r ⨟ s) ≡ accepted → (r ≡ accepted) × (s ≡ accepted)
  both_accepted (Ok u) s e = (refl, e)
  both_accepted (Err x) s e = absurd (never (sym e))

  pub under_accepted : {E : Type 0} (wrap : E → F) (r : Judgement E) → under wrap r ≡ accepted → r ≡ accepted
  under_accepted wrap (Ok u) e = refl
  under_accepted wrap (Err x) e = absurd (never (sym e))

  pub each_accepted : (f : ℕ → Judgement F) (k n : ℕ) → each_from f k n ≡ accepted → (i : ℕ) → k ≤ i → i < k + n → f i ≡ accepted
  each_accepted f k zero e i l h = absurd (omega arith)
  each_accepted f k (suc n) e i l h =
      let both = both_accepted (f k) (each_from f (suc k) n) e in
      ⊎_elim (λ q. subst (λ (j : ℕ). f j ≡ accepted) q both.0) (λ m. each_accepted f (suc k) n both.1 i m (omega arith)) (eq-or-lt_of_le l)

  pub below_accepted : (f : ℕ → Judgement F) (n : ℕ) → each_from f 0 n ≡ accepted → (i : ℕ) → i < n → f i ≡ accepted
  below_accepted f n e i h = each_accepted f 0 n e i (omega arith) (omega arith)
