-- The formats of assignments, lines and scripts are sound. Assumes nothing.
use Rattle.std.proofs.Common.{◌≡◌, ℕ, zero, suc, ◌<◌, ◌≤◌, Bool, true, false, eqb, ltb, List, MatchBool, refl, ap, ◌∙◌, arith}
use Rattle.std.proofs.lemmas.Bool.{ltb-true, ltb-false}
use Rattle.format.specs.Formats.{Sound}
use Rattle.fixed.proofs.Padding.{list_of_filled}
use Rattle.script.specs.Lines.{Batch, batch, blank, kind_of, compute, copy, target_of, source_of, batch_of, meant}
use Rattle.script.specs.Scripts.{assignment, assignments, line, script}
use Rattle.script.specs.declared.line.Assignment.{Assignment}

-- what follows either way
when_both : (b : Bool) (P Q R : Type 0) → MatchBool b P Q → (b ≡ true → P → R) → (b ≡ false → Q → R) → R
when_both true P Q R w f g = f refl w
when_both false P Q R w f g = g refl w

pub assignment_sound : Sound assignment
unfolding assignment
assignment_sound = (
  (omega arith, omega arith),
  (λ o _. (
    (omega arith, omega arith),
    (λ t _. (
      (λ _. ((omega arith, omega arith), (λ c _. tt), λ c x _ e. ap (λ (y : Assignment). y.constant) e)),
      (λ _. (
        (omega arith, omega arith),
        (λ a _. ((λ _. tt), (λ _. ((omega arith, omega arith), (λ b _. tt), λ b x _ e. ap (λ (y : Assignment). y.right) e)))),
        (λ a x _ w. when_both (eqb o 1) _ _ (x.left ≡ a) w (λ _ e. ap (λ (y : Assignment). y.left) e) (λ _ e. ap (λ (y : Assignment). y.left) e.1)),
      )),
    )),
    (λ t x _ w. when_both (eqb o 0) _ _ (x.target ≡ t) w
        (λ _ e. ap (λ (y : Assignment). y.target) e.1)
        (λ _ e. when_both (eqb o 1) _ _ (x.target ≡ t) e.1 (λ _ e. ap (λ (y : Assignment). y.target) e) (λ _ e. ap (λ (y : Assignment). y.target) e.1))),
  )),
  (λ o x _ w. when_both (eqb o 0) _ _ (x.operation ≡ o) w.1
      (λ _ e. ap (λ (y : Assignment). y.operation) e.1)
      (λ _ e. when_both (eqb o 1) _ _ (x.operation ≡ o) e.1 (λ _ e. ap (λ (y : Assignment). y.operation) e) (λ _ e. ap (λ (y : Assignment). y.operation) e.1))),
)

-- the assignments that a batch was made of
pub meant_batch : (xs : List Assignment) → meant (batch xs) ≡ xs
meant_batch xs = list_of_filled 8 blank xs

pub assignments_sound : Sound assignments
unfolding assignments
assignments_sound = (
  (omega arith, omega arith),
  (λ n _. (assignment_sound, (λ xs _. tt), λ xs b w e. ap meant e ∙ meant_batch xs)),
  (λ n b _ w. ap (λ (y : Batch). y.count) w.1 ∙ w.0.0),
)

kind_compute : (k : ℕ) (b : Batch) → k < 2 → kind_of (compute k b) ≡ k
kind_compute zero b h = refl
kind_compute (suc zero) b h = refl
kind_compute (suc (suc k)) b h = absurd (omega arith)

-- a copying line has its kind, target and source
copied : (k t s : ℕ) → 2 ≤ k → k ≤ 7 → (kind_of (copy k t s) ≡ k) × (target_of (copy k t s) ≡ t) × (source_of (copy k t s) ≡ s)
copied zero t s l h = absurd (omega arith)
copied (suc zero) t s l h = absurd (omega arith)
copied (suc (suc zero)) t s l h = (refl, refl, refl)
copied (suc (suc (suc zero))) t s l h = (refl, refl, refl)
copied (suc (suc (suc (suc zero)))) t s l h = (refl, refl, refl)
copied (suc (suc (suc (suc (suc zero))))) t s l h = (refl, refl, refl)
copied (suc (suc (suc (suc (suc (suc zero)))))) t s l h = (refl, refl, refl)
copied (suc (suc (suc (suc (suc (suc (suc zero))))))) t s l h = (refl, refl, refl)
copied (suc (suc (suc (suc (suc (suc (suc (suc k)))))))) t s l h = absurd (omega arith)

pub line_sound : Sound line
unfolding line
line_sound = (
  (omega arith, omega arith),
  (λ k m. (
    (λ _. (assignments_sound, (λ b _. tt), λ b l _ e. ap batch_of e)),
    (λ f. (
      (omega arith, omega arith),
      (λ t _. ((omega arith, omega arith), (λ s _. tt), λ s l _ e. ap source_of e ∙ (copied k t s (ltb-false k 2 f) m.2).2)),
      (λ t l _ w. ap target_of w.1 ∙ (copied k t (source_of l) (ltb-false k 2 f) m.2).1),
    )),
  )),
  (λ k l m w. when_both (ltb k 2) _ _ (kind_of l ≡ k) w
      (λ e x. ap kind_of x.1 ∙ kind_compute k (batch_of l) (ltb-true k 2 e))
      (λ f x. ap kind_of x.1.1 ∙ (copied k (target_of l) (source_of l) (ltb-false k 2 f) m.2).0)),
)

pub script_sound : Sound script
unfolding script
script_sound = (
  (omega arith, omega arith),
  (λ n _. (line_sound, (λ ls _. tt), λ ls m _ e. e)),
  (λ n ls _ w. w.0.0),
)
