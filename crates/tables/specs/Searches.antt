-- Tests of every number, and judgements of every pair, below a bound. Assumes nothing.
use Rattle.std.specs.Prelude.{◌≡◌, ℕ, ◌+◌, ◌-◌, ◌<◌, Bool, true, false, not, ◌||◌, Decides, refl}
use Rattle.std.proofs.Common.{sym, arith}
use Rattle.std.proofs.lemmas.Bool.{both_ways}
use Rattle.std.proofs.lemmas.Bool.Decides.{Decides-below_and, Decides-below_or}
use Rattle.refusal.specs.Judging.{Judgement}
use Rattle.refusal.proofs.Deciding.{decides_self, decides_implied, decides_never}
use Rattle.refusal.proofs.Fitting.{Fits, fits_as, each_fits, below_fits}
use Rattle.order.specs.Search.{all_below}
use Rattle.tables.specs.Bounded.{any_below, each_pair}

pub decides_all : (p : ℕ → Bool) (P : ℕ → Type 0) → ((k : ℕ) → Decides (p k) (P k)) → (n : ℕ) → Decides (all_below p n) ((k : ℕ) → k < n → P k)
decides_all p P each n = Decides-below_and p P (all_below p) each refl (λ _. refl) n

pub decides_any : (p : ℕ → Bool) (P : ℕ → Type 0) → ((k : ℕ) → Decides (p k) (P k)) → (n : ℕ) → Decides (any_below p n) ((k : ℕ) × (k < n) × P k)
decides_any p P each n = Decides-below_or p P (any_below p) each refl (λ _. refl) n

-- a flows to every label that b flows to
pub decides_onward : (n : ℕ) (flow : ℕ → ℕ → Bool) (a b : ℕ) → Decides (all_below (λ c. not (flow b c) || flow a c) n) ((c : ℕ) → c < n → flow b c ≡ true → flow a c ≡ true)
decides_onward n flow a b =
    decides_all (λ c. not (flow b c) || flow a c) (λ c. flow b c ≡ true → flow a c ≡ true)
    (λ c. decides_implied (flow b c) (flow a c) (decides_self (flow b c)) (decides_self (flow a c))) n

pub all_holds : (p : ℕ → Bool) (n : ℕ) → ((k : ℕ) → k < n → p k ≡ true) → true ≡ all_below p n
all_holds p n all = sym ((decides_all p (λ k. p k ≡ true) (λ k. decides_self (p k)) n).1 all)

pub all_fails : (p : ℕ → Bool) (n k : ℕ) → k < n → false ≡ p k → false ≡ all_below p n
all_fails p n k h e =
    decides_never (all_below p n) (decides_all p (λ i. p i ≡ true) (λ i. decides_self (p i)) n) (λ all. both_ways (p k) (sym e) (all k h))

-- one judgement for each pair a < b
pub ordered_pairs_fit : {F : Type 0} {f : ℕ → ℕ → Judgement F} {K : ℕ → ℕ → Type 0} {B : ℕ → ℕ → F → Type 0} (n : ℕ) → ((a b : ℕ) → Fits (f a b) (K a b) (B a b)) → Fits (each_pair f n) ((a b : ℕ) → a < b → b < n → K a b) (λ _. Unit {0})
ordered_pairs_fit n fits =
    fits_as (λ all a b h k. all a (omega arith) b (omega arith) (omega arith)) (λ all a h b l k. all a b (omega arith) (omega arith)) (λ _ _. tt)
    (below_fits n (λ a h. each_fits (a + 1) (n - (a + 1)) (λ b l k. fits a b)))
