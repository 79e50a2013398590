-- `all` over the numbers of a range. Assumes nothing.
use Rattle.std.proofs.Common.{◌≡◌, ℕ, zero, suc, ◌+◌, ◌<◌, ◌≤◌, Bool, true, false, ◌&&◌, List, Option, Decides, refl, subst, ⊎_elim, eq-or-lt_of_le, arith}
use Rattle.std.specs.Fn.{Called}
use Rattle.std.specs.Iterator.{YieldsThen}
use Rattle.std.specs.List.{FoldsTo, list_all, range_with_len}
use Rattle.std.specs.Option.{MatchOption}
use Rattle.std.proofs.iter.Yields.{nat_range_steps}
use Rattle.std.specs.declared.ops.Range.{Range}
use denote.Param.Members.{Mut}
use Rattle.std.proofs.lemmas.Bool.Decides.{Decides-like, Decides-and, Decides-at}
use Rattle.std.proofs.lemmas.Iterator.{YieldsList-from_range}
use Rattle.std.proofs.lemmas.Iterator.Search.{all_from_yields_List}
use Rattle.refusal.proofs.Deciding.{decides_self}

decides_range : (test : ℕ → Bool) (a n : ℕ) → Decides (list_all test (range_with_len a n)) ((k : ℕ) → a ≤ k → k < a + n → test k ≡ true)
decides_range test a zero = (λ _ k l h. absurd (omega arith), λ _. refl)
decides_range test a (suc n) =
    Decides-like (test a && list_all test (range_with_len (a + 1) n))
    (λ both k l h. ⊎_elim (λ q. subst (λ (i : ℕ). test i ≡ true) q both.0) (λ m. both.1 k (omega arith) (omega arith)) (eq-or-lt_of_le l))
    (λ all. (all a (omega arith) (omega arith), λ k l h. all k (omega arith) (omega arith)))
    (Decides-and (test a) (list_all test (range_with_len (a + 1) n)) (decides_self (test a)) (decides_range test (a + 1) n))

-- what `all` answers where the closure is a test of its number
pub decides_from_all : {F : Type 0} {g : Mut F (ℕ × Unit {0}) Bool} (test : ℕ → Bool) (n : ℕ) {s u : Range ℕ} {f : F} (r : Bool) →
    (xs : List ℕ) × (o : Option ℕ) × (j : F) × YieldsThen nat_range_steps s xs o u × FoldsTo (λ p x q. Called g p (x, tt) true q) f xs j × MatchOption o (r ≡ true) (λ x. (r ≡ false) × ((h : F) × Called g j (x, tt) false h)) →
    s ≡ record { start = 0; end = n } → ((x : ℕ) (b : Bool) (q : F) → Called g f (x, tt) b q → (q ≡ f) × (b ≡ test x)) → Decides r ((k : ℕ) → k < n → test k ≡ true)
decides_from_all test n {s} {u} {f} r ran whole computes =
    Decides-at r (list_all test (range_with_len 0 n)) (all_from_yields_List test u f r ran (YieldsList-from_range 0 n n whole (omega arith)) computes)
    (Decides-like (list_all test (range_with_len 0 n)) (λ all k h. all k (omega arith) (omega arith)) (λ all k l h. all k (omega arith)) (decides_range test 0 n))
