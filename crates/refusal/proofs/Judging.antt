-- Loops that judge one number after the other. Assumes nothing.
use Rattle.std.proofs.Common.{◌≡◌, ℕ, ◌+◌, ◌-◌, ◌<◌, ◌≤◌, Bool, IsErrAnd, Err, Result, sym, ap, ◌∙◌, add-one, arith}
use Rattle.std.proofs.lemmas.Result.{err_from_is_err_and}
use Rattle.refusal.specs.Judging.{Judgement, accepted, ◌⨟◌, check, each_from}

-- what the exit of a `?` returns, where it passes the fault on
pub break_is : {T F : Type 0} (r : Result T F) (x : F) → IsErrAnd r (λ y. y ≡ x) → r ≡ Err x
break_is r x by = let p = err_from_is_err_and r by in p.1 ∙ ap Err p.2

module _ {F : Type 0} where
  -- equal tests give the same check, and so `accepted` or the fault where one of them is known
  pub check_at : {s t : Bool} (x : F) → s ≡ t → check s x ≡ check t x
  check_at x e = ap (λ (b : Bool). check b x) e

  -- the same of the first of two judgements
  pub then_at : {r t : Judgement F} (s : Judgement F) → r ≡ t → (r ⨟ s) ≡ (t ⨟ s)
  then_at s e = ap (λ (j : Judgement F). j ⨟ s) e

-- a loop over the numbers below n: what is left from k on judges as the whole does
pub record Left {F : Type 0} (f : ℕ → Judgement F) (whole : Judgement F) (n k : ℕ) : Type 0 where
  pub same : whole ≡ each_from f k (n - k)

module _ {F : Type 0} where
  pub left_none : (f : ℕ → Judgement F) (n : ℕ) → Left f (each_from f 0 n) n 0
  left_none f n = let all : n ≡ n - 0 = omega arith in record { same = ap (each_from f 0) all }

  -- the same after a judgement that accepted
  pub left_after : {r : Judgement F} (f : ℕ → Judgement F) (n : ℕ) → r ≡ accepted → Left f (r ⨟ each_from f 0 n) n 0
  left_after f n e = record { same = then_at (each_from f 0 n) e ∙ (left_none f n).same }

  module _ {f : ℕ → Judgement F} {whole : Judgement F} {n k : ℕ} (left : Left f whole n k) where
    next : k < n → whole ≡ (f k ⨟ each_from f (k + 1) (n - (k + 1)))
    next h =
        let one : n - k ≡ (n - (k + 1)) + 1 = omega arith in
        left.same ∙ ap (each_from f k) (one ∙ add-one (n - (k + 1))) ∙ ap (λ (i : ℕ). f k ⨟ each_from f i (n - (k + 1))) (sym (add-one k))

    pub left_more : k < n → accepted ≡ f k → Left f whole n (k + 1)
    left_more h e = record { same = next h ∙ then_at (each_from f (k + 1) (n - (k + 1))) (sym e) }

    pub left_err : {x : F} → k < n → Err x ≡ f k → Err x ≡ whole
    left_err h e = then_at (each_from f (k + 1) (n - (k + 1))) e ∙ sym (next h)

    pub left_all : n ≤ k → accepted ≡ whole
    left_all h = let none : n - k ≡ 0 = omega arith in sym (left.same ∙ ap (each_from f k) none)

    -- the exit of a `?`
    pub left_break : {x : F} (r : Judgement F) → k < n → Err x ≡ f k → IsErrAnd r (λ y. y ≡ x) → r ≡ whole
    left_break {x} r h e by = break_is r x by ∙ left_err h e

-- what most steps of such a loop need
pub ruleset judging = (left_none, left_after, left_more, left_err, left_all, check_at)
