-- The flow of rows: at known and unknown labels, with more rows behind, and carried on. Assumes nothing.
use Rattle.std.specs.Prelude.{◌≡◌, ℕ, ◌-◌, ◌*◌, ◌/◌, ◌%◌, ◌^◌, ◌<◌, ◌≤◌, Bool, true, false, not, ◌&&◌, ◌||◌, ◌⊎◌, List, ◌++◌, length, Decides, ◌==◌, bit_and, nat_eq, nat_lt, slice_index}
use Rattle.std.proofs.Common.{sym, ◌∙◌, inl, inr, ⊎_elim, arith}
use Rattle.std.proofs.Math.Path.{ap}
use Rattle.std.proofs.lemmas.Nat.{and_mask, one_shl}
use Rattle.std.proofs.lemmas.List.{get_or_append_left}
use Rattle.std.proofs.lemmas.Bool.{and_left, and_right, and_from, lt-ltb, le-ltb, cases_lt}
use Rattle.std.proofs.lemmas.Bool.Decides.{same_from_decides, Decides-like, Decides-at, Decides-eqb}
use Rattle.std.specs.Int.{bit_at}
use Rattle.tables.specs.Rows.{listed_flow}
use Rattle.order.specs.Search.{all_below}
use Rattle.tables.specs.Listed.{carries}
use Rattle.tables.specs.Sets.{decides_inside}
use Rattle.tables.specs.Searches.{decides_onward}

module _ (n : ℕ) (rows : List ℕ) where
  pub flow_at : (a b : ℕ) → a < n → b < n → listed_flow n rows a b ≡ (slice_index rows a / 2 ^ b % 2 == 1)
  unfolding listed_flow
  flow_at a b h k = ap (λ (t : Bool). t && slice_index rows a / 2 ^ b % 2 == 1) (and_from (nat_lt a n) (nat_lt b n) (lt-ltb a n h) (lt-ltb b n k))

  pub flow_from_unknown : (a b : ℕ) → n ≤ a → listed_flow n rows a b ≡ false
  unfolding listed_flow
  flow_from_unknown a b h = and_left (nat_lt a n && nat_lt b n) (slice_index rows a / 2 ^ b % 2 == 1) (and_left (nat_lt a n) (nat_lt b n) (le-ltb a n h))

  pub flow_to_unknown : (a b : ℕ) → n ≤ b → listed_flow n rows a b ≡ false
  unfolding listed_flow
  flow_to_unknown a b h = and_left (nat_lt a n && nat_lt b n) (slice_index rows a / 2 ^ b % 2 == 1) (and_right (nat_lt a n) (nat_lt b n) (le-ltb b n h))

  -- a bit that the code reads is the flow
  pub read_flow : (a b : ℕ) → a < n → b < n → (bit_and (slice_index rows a / 2 ^ b) 1 == 1) ≡ listed_flow n rows a b
  read_flow a b h k = ap (λ (x : ℕ). nat_eq x 1) (and_mask (slice_index rows a / 2 ^ b) 1) ∙ sym (flow_at a b h k)

  decides_flow : (a b : ℕ) → a < n → b < n → Decides (listed_flow n rows a b) (bit_at (slice_index rows a) b ≡ 1)
  decides_flow a b h k = Decides-at (listed_flow n rows a b) (bit_at (slice_index rows a) b == 1) (flow_at a b h k) (Decides-eqb (bit_at (slice_index rows a) b) 1)

  -- the masks that the code compares
  pub read_carries : (a b : ℕ) → n ≤ 32 → a < n → b < n → listed_flow n rows a b ≡ true →
      (bit_and (bit_and (slice_index rows b) ((1 * 2 ^ n) % 2 ^ 64 - 1)) (slice_index rows a) == bit_and (slice_index rows b) ((1 * 2 ^ n) % 2 ^ 64 - 1)) ≡ carries n (listed_flow n rows) a b
  read_carries a b few h k f =
      ap (λ (x : ℕ). nat_eq (bit_and x (slice_index rows a)) x) cut
      ∙ same_from_decides masked (all_below onward n)
      (Decides-like masked there back (decides_inside n (slice_index rows b) (slice_index rows a))) (decides_onward n (listed_flow n rows) a b)
      ∙ ap (λ (t : Bool). not t || all_below onward n) (sym f)
    where
      masked : Bool
      masked = bit_and (slice_index rows b % 2 ^ n) (slice_index rows a) == slice_index rows b % 2 ^ n

      onward : ℕ → Bool
      onward c = not (listed_flow n rows b c) || listed_flow n rows a c

      cut : bit_and (slice_index rows b) ((1 * 2 ^ n) % 2 ^ 64 - 1) ≡ slice_index rows b % 2 ^ n
      cut = ap (λ (x : ℕ). bit_and (slice_index rows b) (x - 1)) (one_shl n 64 (omega arith)) ∙ and_mask (slice_index rows b) n

      there : ((c : ℕ) → c < n → bit_at (slice_index rows b) c ≤ bit_at (slice_index rows a) c) → (c : ℕ) → c < n → listed_flow n rows b c ≡ true → listed_flow n rows a c ≡ true
      there all c l e = (decides_flow a c h l).1 (omega (arith, all c l, (decides_flow b c k l).0 e))

      back : ((c : ℕ) → c < n → listed_flow n rows b c ≡ true → listed_flow n rows a c ≡ true) → (c : ℕ) → c < n → bit_at (slice_index rows b) c ≤ bit_at (slice_index rows a) c
      back all c l =
          ⊎_elim (λ q. omega arith) (λ q. omega (arith, (decides_flow a c h l).0 (all c l ((decides_flow b c k l).1 (omega arith))))) (cases_lt (bit_at (slice_index rows b) c) 1)

-- rows behind those of the labels change nothing
pub flow_more : (n : ℕ) (rows more : List ℕ) → n ≤ length rows → listed_flow n (rows ++ more) ≡ listed_flow n rows
flow_more n rows more h = λ i a b. same a b (cases_lt a n) (cases_lt b n) i
  where
    same : (a b : ℕ) → (a < n) ⊎ (n ≤ a) → (b < n) ⊎ (n ≤ b) → listed_flow n (rows ++ more) a b ≡ listed_flow n rows a b
    same a b (inl p) (inl q) =
        flow_at n (rows ++ more) a b p q ∙ ap (λ (x : ℕ). nat_eq (x / 2 ^ b % 2) 1) (get_or_append_left rows more 0 a (omega arith)) ∙ sym (flow_at n rows a b p q)
    same a b (inl p) (inr q) = flow_to_unknown n (rows ++ more) a b q ∙ sym (flow_to_unknown n rows a b q)
    same a b (inr p) q = flow_from_unknown n (rows ++ more) a b p ∙ sym (flow_from_unknown n rows a b p)
