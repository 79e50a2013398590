-- The sides of an agreement and their numbers.
use Rattle.std.specs.Prelude.{◌≡◌, ℕ, List, Some, None, codes, Result, MatchResult, Option}
use Rattle.refusal.specs.declared.Side.{Side}
use Rattle.refusal.specs.declared.UnknownSide.{UnknownSide}
use Rattle.refusal.specs.declared.Side.TheVariants.{Near, Far}

abbrev pub side_number : Option Side → ℕ
side_number (Some Near) = 0
side_number (Some Far) = 1
side_number None = 2

abbrev pub side_word : Side → List ℕ
side_word Near = codes "near"
side_word Far = codes "far"

abbrev pub other : Side → Side
other Near = Far
other Far = Near

-- r is the side that a word names, and an error where it names none
abbrev pub NamedBy : List ℕ → Result Side UnknownSide → Type 0
NamedBy word r = MatchResult r (λ s. word ≡ side_word s) (λ _. (s : Side) → word ≡ side_word s → ⊥)
