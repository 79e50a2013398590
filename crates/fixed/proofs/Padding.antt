-- Lists kept in tables, and read back. Assumes nothing.
use Rattle.std.proofs.Common.{◌≡◌, ℕ, ◌-◌, ◌≤◌, List, length, take, replicate, refl, ◌∙◌, arith}
use Rattle.std.proofs.lemmas.List.{length-append, length-replicate, take_at}
use Rattle.fixed.specs.Lists.{padded}

module _ {A : Type 0} (n : ℕ) (blank : A) where
  pub list_of_filled : (xs : List A) → take (length xs) (padded n blank xs) ≡ xs
  unfolding padded
  list_of_filled xs = take_at xs (replicate (n - length xs) blank) (length xs) refl

  pub length_padded : (xs : List A) → length xs ≤ n → length (padded n blank xs) ≡ n
  unfolding padded
  length_padded xs h = length-append xs (replicate (n - length xs) blank) ∙ omega (arith, length-replicate (n - length xs) blank)
